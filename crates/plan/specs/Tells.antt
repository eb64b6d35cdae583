-- What a largest flow tells of a pair, on each of the two plans of a map.
--
--   edge_two, vertex_two            the pair is two different nodes
--   edge_counted, vertex_counted    the nearest cut has as many items as the pair's value says
--   edge_told, vertex_told          a largest flow has that value, and its residual side shows the cut
--   Ends                            an unjoined pair of vertices that are the ends of a split
use Rattle.std.specs.Prelude.{◌≡◌, ℕ, ◌<◌, Bool, false, length, ◌≢◌}
use Rattle.std.proofs.Common.{subst, ap₂, arith}
use Rattle.graph.specs.Graph.{Graph, Simple}
use Rattle.flows.specs.Flow.{Digraph, Flow, residual_side}
use Rattle.cuts.specs.Cuts.{edge_value, nearest_edge_cut, vertex_value, nearest_vertex_cut}
use Rattle.cuts.specs.Pairs.{both_ways, split, crossing_edges, crossing_vertices}
use Rattle.cuts.proofs.EdgeNearest.{edge_value_by_flow_lem, nearest_edge_cut_laws}
use Rattle.cuts.proofs.VertexFlow.{vertex_value_by_flow_lem, nearest_cut}
use Rattle.plan.specs.Pairs.{Two, Unjoined}

-- The nodes are the vertices.
pub edge_two : (g : Graph) (a b : ℕ) → Two g a b → (a < (both_ways g).nodes) × (b < (both_ways g).nodes) × (a ≢ b)
edge_two g a b p = (p.one, p.other, p.apart)

-- The nearest edge cut is one of the smallest.
pub edge_counted : (g : Graph) → Simple g → (a b : ℕ) → Two g a b → length (nearest_edge_cut g a b) ≡ edge_value g a b
edge_counted g s a b p = let k = nearest_edge_cut_laws g a b s p.one p.other p.apart in (k.1 (nearest_edge_cut g a b) k.0).1

-- A flow along edges that no residual path leads on from.
pub edge_told :
    (g : Graph) → Simple g → (a b : ℕ) (f : ℕ → ℕ → Bool) (v : ℕ) → Two g a b
    → Flow (both_ways g) a b f v → residual_side (both_ways g) f a b ≡ false
    → (edge_value g a b ≡ v) × (nearest_edge_cut g a b ≡ crossing_edges g (residual_side (both_ways g) f a))
edge_told g s a b f v p = edge_value_by_flow_lem g a b f v s p.one p.other p.apart

-- The split digraph of the ends x and y tells of these two alone, and only where no edge joins them.
pub record Ends (g : Graph) (x y a b : ℕ) : Type 0 where
  pub from : a ≡ x
  pub to : b ≡ y
  pub pair : Unjoined g a b

-- The entries are the first half of the nodes.
pub vertex_two : (g : Graph) (x y a b : ℕ) → Ends g x y a b → (a < (split g x y).nodes) × (b < (split g x y).nodes) × (a ≢ b)
vertex_two g x y a b p = (omega (arith, p.pair.two.one), omega (arith, p.pair.two.other), p.pair.two.apart)

-- The nearest vertex cut is one of the smallest.
pub vertex_counted : (g : Graph) → Simple g → (x y a b : ℕ) → Ends g x y a b → length (nearest_vertex_cut g a b) ≡ vertex_value g a b
vertex_counted g s x y a b p =
    let k = nearest_cut g a b s p.pair.two.one p.pair.two.other p.pair.two.apart p.pair.loose in
    (k.1 (nearest_vertex_cut g a b) k.0).1

-- What is told of the digraph d of a pair.
abbrev pub VerticesTold : Graph → ℕ → ℕ → Digraph → Type 0
VerticesTold g a b d =
    (f : ℕ → ℕ → Bool) (v : ℕ) → Flow d a b f v → residual_side d f a b ≡ false
    → (vertex_value g a b ≡ v) × (nearest_vertex_cut g a b ≡ crossing_vertices g a (residual_side d f a))

-- A flow in the split digraph that no residual path leads on from.
pub vertex_told :
    (g : Graph) → Simple g → (x y a b : ℕ) (f : ℕ → ℕ → Bool) (v : ℕ) → Ends g x y a b
    → Flow (split g x y) a b f v → residual_side (split g x y) f a b ≡ false
    → (vertex_value g a b ≡ v) × (nearest_vertex_cut g a b ≡ crossing_vertices g a (residual_side (split g x y) f a))
vertex_told g s x y a b f v p =
    let two = p.pair.two in
    subst (VerticesTold g a b) (ap₂ (split g) p.from p.to)
    (λ h w. vertex_value_by_flow_lem g a b h w s two.one two.other two.apart p.pair.loose) f v
