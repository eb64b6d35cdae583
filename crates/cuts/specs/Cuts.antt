-- Cuts, values of pairs, and connectivity, all by taking things away.
--
--   edges_part, vertices_part                whether edges, or vertices, part a and b
--   edge_cuts, vertex_cuts                   the smallest that do; `others` are the vertices but a and b
--   edge_value, vertex_value                 their size
--   nearest_edge_cut, nearest_vertex_cut     of them the nearest to a
--   is_edge_cut, is_vertex_cut               whether they part some two vertices; `outside_of` are the others
--   complete                                 whether every two vertices are joined
--   edge_connectivity, vertex_connectivity   the size of a smallest cut
use Rattle.std.specs.Prelude.{ℕ, ◌-◌, Bool, cond, not, ◌||◌, List, filter, ◌==◌}
use Rattle.graph.specs.Graph.{Graph}
use Rattle.flows.specs.Lists.{upto, any, all, among}
use Rattle.cuts.specs.declared.edge.Edge.{Edge}
use Rattle.cuts.specs.Edges.{edge_list, without_edges, without_vertices, side, linked}
use Rattle.cuts.specs.Choices.{smallest, size, innermost}

-- Without the edges c no route leads from a to b.
abbrev pub edges_part : Graph → ℕ → ℕ → List Edge → Bool
edges_part g a b c = not (linked (without_edges g c) a b)

-- The smallest sets of edges that part a and b, and the edge value of the pair: their size.
abbrev pub edge_cuts : Graph → ℕ → ℕ → List (List Edge)
edge_cuts g a b = smallest (edges_part g a b) (edge_list g)

unfoldable pub edge_value : Graph → ℕ → ℕ → ℕ
edge_value g a b = size (edge_cuts g a b)

-- Of those the nearest to a: the vertices that it leaves a reaching lie inside those that any
-- other leaves.
unfoldable pub nearest_edge_cut : Graph → ℕ → ℕ → List Edge
nearest_edge_cut g a b = innermost (λ c. side (without_edges g c) a) (edge_cuts g a b)

-- Without the vertices c, which are neither a nor b, no route leads from a to b.
abbrev pub vertices_part : Graph → ℕ → ℕ → List ℕ → Bool
vertices_part g a b c = not (linked (without_vertices g c) a b)

abbrev pub others : Graph → ℕ → ℕ → List ℕ
others g a b = filter (λ v. not (v == a || v == b)) (upto g.order)

abbrev pub vertex_cuts : Graph → ℕ → ℕ → List (List ℕ)
vertex_cuts g a b = smallest (vertices_part g a b) (others g a b)

-- The vertex value of an unjoined pair, and its nearest smallest cut.
unfoldable pub vertex_value : Graph → ℕ → ℕ → ℕ
vertex_value g a b = size (vertex_cuts g a b)

unfoldable pub nearest_vertex_cut : Graph → ℕ → ℕ → List ℕ
nearest_vertex_cut g a b = innermost (λ c. side (without_vertices g c) a) (vertex_cuts g a b)

-- An edge cut: without it some two vertices have no route.
abbrev pub is_edge_cut : Graph → List Edge → Bool
is_edge_cut g c = any (λ a. not (all (among (side (without_edges g c) a)) (upto g.order))) (upto g.order)

unfoldable pub edge_connectivity : Graph → ℕ
edge_connectivity g = size (smallest (is_edge_cut g) (edge_list g))

-- A vertex cut: some two vertices outside it have no route that avoids it.
abbrev pub outside_of : Graph → List ℕ → List ℕ
outside_of g c = filter (λ v. not (among c v)) (upto g.order)

abbrev pub is_vertex_cut : Graph → List ℕ → Bool
is_vertex_cut g c = any (λ a. not (all (among (side (without_vertices g c) a)) (outside_of g c))) (outside_of g c)

-- Every two vertices are joined.
abbrev pub complete : Graph → Bool
complete g = all (λ u. all (λ v. (u == v) || g.joined u v) (upto g.order)) (upto g.order)

-- A complete graph has no vertex cut and counts one less than its order.
unfoldable pub vertex_connectivity : Graph → ℕ
vertex_connectivity g = cond (complete g) (g.order - 1) (size (smallest (is_vertex_cut g) (upto g.order)))
