-- Between pushes the memory holds a flow of the run's value, which rises and never passes the
-- number of nodes.
use Rattle.std.proofs.Common.{◌≡◌, ◌-◌}
use Rattle.rows.specs.Marks.{marked}
use Rattle.search.specs.Goals.{Far}
use Rattle.connectivity.specs.Runs.{Held}
use Rattle.connectivity.proofs.run.complete.Given as goal

abbrev pub invariant-loop-next : goal.invariant-loop-next
invariant-loop-next g l =
    (l.plan ≡ l.initial.plan)
    × (l.run.from ≡ l.from)
    × (l.run.to ≡ l.to)
    × Far (g.P.Plan.digraph l.initial.plan) l.to (marked l.far)
    × Held (g.P.Plan.digraph l.initial.plan) l.run l.flow

abbrev pub decreases-loop-next : goal.decreases-loop-next
decreases-loop-next g l = (g.P.Plan.digraph l.initial.plan).nodes - l.run.value
