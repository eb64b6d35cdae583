-- What a store means, and what its memory holds, after a join or a part with that reply.
--
--   after_join, after_part   the graph
--   held_after               what the memory holds
use Rattle.std.specs.Prelude.{ℕ, List, Ok, Err}
use Rattle.graph.specs.Graph.{Graph, with_edge, without_edge}
use Rattle.model.specs.Table.{Reply}

abbrev pub after_join : Reply → Graph → ℕ → ℕ → Graph
after_join (Ok _) g u v = with_edge g u v
after_join (Err _) g u v = g

abbrev pub after_part : Reply → Graph → ℕ → ℕ → Graph
after_part (Ok _) g u v = without_edge g u v
after_part (Err _) g u v = g

-- An accepted edit leaves the first list, and a refused one the second, which stood there before.
abbrev pub held_after : Reply → List ℕ → List ℕ → List ℕ
held_after (Ok _) changed held = changed
held_after (Err _) changed held = held
