-- What is known of an accepted question about a pair.
--
--   edge_room     the nearest edge cut fits the buffer for edges
--   vertex_room   the nearest vertex cut fits the buffer for vertices
use Rattle.std.proofs.Common.{◌≡◌, ℕ, ◌≤◌, false, length, Ok, Err, refl, arith}
use Rattle.std.proofs.lemmas.Bool.{cases_Bool}
use Rattle.std.proofs.lemmas.Bool.Decides.{nat_tests}
use Rattle.graph.specs.Graph.{Graph, Simple}
use Rattle.model.specs.Table.{Reply}
use Rattle.model.specs.declared.sizes.Sizes.{Sizes}
use Rattle.cuts.specs.Cuts.{nearest_edge_cut, nearest_vertex_cut}
use Rattle.strength.proofs.CutsFit.{cuts_fit}
use Rattle.plan.specs.Pairs.{Two}
use Rattle.connectivity.specs.Needed.{edges_needed, vertices_needed}
use Rattle.connectivity.specs.Asking.{ends_reply, edge_ends, then_loose, loose_ends}

-- Where an accepted pair is not joined, it was accepted before that was looked at.
ends_first : (r : Reply) (g : Graph) (a b : ℕ) → Ok tt ≡ then_loose r g a b → (Ok tt ≡ r) × (g.joined a b ≡ false)
ends_first (Ok tt) g a b h = (refl, grind (arith, cases_Bool))
ends_first (Err e) g a b h = (cc, cc)

module _ (lent needed : Sizes) (g : Graph) (a b : ℕ) (ok : Ok tt ≡ ends_reply lent needed g.order a b) where
  -- As many entries are lent for edges, and for vertices, as are needed.
  for_edges : needed.edges ≤ lent.edges
  for_edges = grind (arith, nat_tests)

  for_vertices : needed.vertices ≤ lent.vertices
  for_vertices = grind (arith, nat_tests)

  -- Two different vertices.
  are_two : Two g a b
  are_two = record { one = grind (arith, nat_tests); other = grind (arith, nat_tests); apart = λ e. grind (arith, nat_tests) }

  -- So there are two vertices at least.
  some_two : 2 ≤ g.order
  some_two = let k = are_two in let z : a ≡ b → ⊥ = k.apart in omega (arith, k.one, k.other)

module _ (lent : Sizes) (g : Graph) (a b : ℕ) (simple : Simple g) where
  -- The nearest edge cut fits the buffer for edges.
  pub edge_room : Ok tt ≡ edge_ends lent g a b → length (nearest_edge_cut g a b) ≤ lent.edges
  edge_room ok =
      let k = are_two lent (edges_needed g.order) g a b ok in
      let two = some_two lent (edges_needed g.order) g a b ok in
      omega (arith, (cuts_fit g simple two).0 a b k.one k.other k.apart, for_edges lent (edges_needed g.order) g a b ok)

  -- And so does the nearest vertex cut of an unjoined pair the buffer for vertices.
  pub vertex_room : Ok tt ≡ loose_ends lent g a b → length (nearest_vertex_cut g a b) ≤ lent.vertices
  vertex_room accepted =
      let first = ends_first (ends_reply lent (vertices_needed g.order) g.order a b) g a b accepted in
      let ok = first.0 in
      let k = are_two lent (vertices_needed g.order) g a b ok in
      let two = some_two lent (vertices_needed g.order) g a b ok in
      omega (arith, (cuts_fit g simple two).1 a b k.one k.other k.apart first.1, for_vertices lent (vertices_needed g.order) g a b ok)
