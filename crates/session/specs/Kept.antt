-- What a planner keeps, over a store whose graph and capacity are given.
--
--   model_of        the model of its session
--   graph_of        the graph in force
--   held_of         what the memory under its store holds
--   state_of        the state of its session
--   state_reached   the state of a session that has come to a planner, or still waits for its make
--   split_ends      the two ends of its plan of vertices
use Rattle.std.specs.Prelude.{ℕ, List, Ok, Err, Result}
use Rattle.graph.specs.Graph.{Graph}
use Rattle.model.specs.Model.{Model, State, unmade, made, in_force}
use Rattle.strike.specs.Kept.{kept, held_under}
use Rattle.session.specs.declared.planner.Planner.{Planner}

abbrev pub model_of : {S : Type 0} → (S → Graph) → (S → ℕ) → Planner S → Model
model_of graph most p = kept graph most p.pile.map.map

abbrev pub graph_of : {S : Type 0} → (S → Graph) → (S → ℕ) → Planner S → Graph
graph_of graph most p = in_force (model_of graph most p)

abbrev pub held_of : {S : Type 0} → (S → List ℕ) → Planner S → List ℕ
held_of held p = held_under held p.pile.map.map

abbrev pub state_of : {S : Type 0} → (S → Graph) → (S → ℕ) → Planner S → State
state_of graph most p = made (model_of graph most p)

-- A session is a planner, or the memory that waits for a make.
abbrev pub state_reached : {S M : Type 0} → (S → Graph) → (S → ℕ) → Result (Planner S) M → State
state_reached graph most (Ok p) = state_of graph most p
state_reached graph most (Err m) = unmade

-- The two vertices that the plan of vertices was set to.
abbrev pub split_ends : {S : Type 0} → Planner S → ℕ × ℕ
split_ends p = (p.pile.a, p.pile.b)
