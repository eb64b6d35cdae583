-- The model that a strike layer keeps, over a store whose graph and capacity are given, and what the
-- memory under it holds.
--
--   noted             the pairs that are struck
--   kept              the model: the store's edges are laid, the noted ones struck
--   held_under        what the memory under the store holds
--   laid_graph        the graph of the laid edges, struck or not
--   memory_after      what memory holds after a call on a model
--   unstruck_reply    what is answered of two numbers before the store is asked
use Rattle.std.specs.Prelude.{ℕ, cond, not, ◌&&◌, List, Ok, Err, ◌==◌, nat_lt}
use Rattle.graph.specs.Graph.{Graph}
use Rattle.model.specs.declared.call.Call.{Call}
use Rattle.model.specs.declared.call.Call.TheVariants.{Join, Part}
use Rattle.model.specs.Model.{Model}
use Rattle.model.specs.Table.{Reply, reply_on}
use Rattle.model.specs.declared.refusal.Refusal.TheVariants.{NoVertex, SameVertex, IsStruck}
use Rattle.store.specs.Change.{held_after}
use Rattle.strike.specs.Struck.{listed}
use Rattle.strike.specs.declared.Strike.{Strike}

-- The pairs that are struck.
abbrev pub noted : {S : Type 0} → Strike S → List (ℕ × ℕ)
noted s = s.marks.pairs.items

-- What the store joins is laid, and what is noted is struck.
abbrev pub kept : {S : Type 0} → (S → Graph) → (S → ℕ) → Strike S → Model
kept graph most s = record {
  order = (graph s.store).order;
  capacity = most s.store;
  laid = (graph s.store).joined;
  struck = listed (noted s);
}

-- What the memory under the store holds, where `held` says so of a store.
abbrev pub held_under : {S : Type 0} → (S → List ℕ) → Strike S → List ℕ
held_under held s = held s.store

-- The graph of the laid edges, struck or not.
abbrev pub laid_graph : Model → Graph
laid_graph m = record { order = m.order; joined = m.laid }

-- What memory holds after a call on a model. The first two arguments say what an edge laid and one
-- taken up leave, of the graph, of what was held and of the two ends. An accepted join lays an edge,
-- an accepted part takes one up, and every other call leaves the memory as it was.
abbrev pub memory_after : (laid taken : Graph → List ℕ → ℕ → ℕ → List ℕ) → Model → Call → List ℕ → List ℕ
memory_after laid taken m (Join u v) held = held_after (reply_on m (Join u v)) (laid (laid_graph m) held u v) held
memory_after laid taken m (Part u v) held = held_after (reply_on m (Part u v)) (taken (laid_graph m) held u v) held
memory_after laid taken m c held = held

-- Whether two numbers are two vertices with no struck edge between them.
abbrev pub unstruck_reply : ℕ → List (ℕ × ℕ) → ℕ → ℕ → Reply
unstruck_reply order struck u v =
    cond (not (nat_lt u order && nat_lt v order)) (Err NoVertex) (cond (u == v) (Err SameVertex) (cond (listed struck u v) (Err IsStruck) (Ok tt)))
