-- What the lent memory holds while a run searches, and once it is finished.
--
--   Held       a flow of the run's value among the nodes of its plan, from its first end to the other
--   Largest    a flow from end to end that no residual path leads on from
--   grown      a run with a unit more
--   PushedOn   what a push leaves: one unit more, or the finished run
--   EndedAt    a push that gives the finished run has come to a value
use Rattle.std.specs.Prelude.{◌≡◌, ℕ, ◌+◌, false}
use Rattle.flows.specs.Flow.{Digraph, Flow, NoneInto, NoneOutOf, residual_side}
use Rattle.rows.specs.Flow.{carried}
use Rattle.rows.specs.declared.flow.Arcs.{Arcs}
use Rattle.connectivity.specs.declared.run.Searching.{Searching}
use Rattle.connectivity.specs.declared.run.Finished.{Finished}
use Rattle.std.specs.declared.ops.ControlFlow.{ControlFlow}
use Rattle.std.specs.declared.ops.ControlFlow.TheVariants.{Continue, Break}

-- The memory holds a flow of the value of a searching run, which begins at the run's first end and ends at
-- the other. The heads of its arcs are the nodes.
pub record Held (d : Digraph) (run : Searching) (arcs : Arcs) : Type 0 where
  pub heads : arcs.heads ≡ d.nodes
  pub flow : Flow d run.from run.to (carried arcs) run.value
  pub starts : NoneInto (carried arcs) run.from
  pub ends : NoneOutOf (carried arcs) run.to

-- The memory holds a flow of the value of a finished run, which begins at the run's first end, and no
-- residual path leads on to the other.
pub record Largest (d : Digraph) (run : Finished) (arcs : Arcs) : Type 0 where
  pub flow : Flow d run.from run.to (carried arcs) run.value
  pub starts : NoneInto (carried arcs) run.from
  pub stuck : residual_side d (carried arcs) run.from run.to ≡ false

-- The same ends, and a unit more.
abbrev pub grown : Searching → Searching
grown run = record { from = run.from; to = run.to; value = run.value + 1 }

-- A push adds one path, or finds none and leaves the numbers of the run as they are.
abbrev pub PushedOn : Digraph → Searching → ControlFlow Finished Searching → Arcs → Type 0
PushedOn d run (Continue next) arcs = (next ≡ grown run) × Held d next arcs
PushedOn d run (Break last) arcs =
    (last ≡ record { from = run.from; to = run.to; value = run.value }) × Largest d last arcs

-- If the run is finished, this is its value.
abbrev pub EndedAt : ℕ → ControlFlow Finished Searching → Type 0
EndedAt v (Continue next) = Unit {0}
EndedAt v (Break last) = last.value ≡ v
