-- Struck edges, as a list of pairs of vertices, and a graph without them.
--
--   listed            whether one of the pairs is the edge between u and v
--   without           a graph without the listed edges
--   listed_swap       what is listed has no direction
--   without_simple    striking edges out leaves a simple graph simple
use Rattle.std.specs.Prelude.{◌≡◌, ℕ, Bool, not, ◌&&◌, ◌||◌, List, [], ◌∷◌, refl}
use Rattle.std.specs.List.{list_any}
use Rattle.std.proofs.Common.{ap₂}
use Rattle.std.proofs.lemmas.Bool.{and_parts, and_right}
use Rattle.graph.specs.Graph.{Graph, Simple, same_edge}
use Rattle.graph.proofs.Edges.{same_edge_swap}

-- Whether one of the pairs is the edge between u and v, in either order.
abbrev pub listed : List (ℕ × ℕ) → ℕ → ℕ → Bool
listed ps u v = list_any (λ p. same_edge p.0 p.1 u v) ps

-- The graph without the listed edges: a struck edge is not joined, whatever lies below.
abbrev pub without : Graph → List (ℕ × ℕ) → Graph
without g ps = record { order = g.order; joined = λ u v. not (listed ps u v) && g.joined u v }

-- What is listed has no direction.
pub listed_swap : (ps : List (ℕ × ℕ)) (u v : ℕ) → listed ps u v ≡ listed ps v u
listed_swap [] u v = refl
listed_swap (p ∷ ps) u v = ap₂ (λ (x y : Bool). x || y) (same_edge_swap p.0 p.1 u v) (listed_swap ps u v)

-- Striking edges out leaves a simple graph simple.
pub without_simple : (g : Graph) (ps : List (ℕ × ℕ)) → Simple g → Simple (without g ps)
without_simple g ps s = record {
  some = s.some;
  small = s.small;
  symmetric = λ u v. ap₂ (λ (x y : Bool). not x && y) (listed_swap ps u v) (s.symmetric u v);
  irreflexive = λ u. and_right (not (listed ps u u)) (g.joined u u) (s.irreflexive u);
  bounded = λ u v h. s.bounded u v (and_parts (not (listed ps u v)) (g.joined u v) h).1;
}
