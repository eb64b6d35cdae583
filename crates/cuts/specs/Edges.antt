-- The edges of a graph as a list, and a graph without some edges or vertices.
--
--   edge_list                          the edges, (lower, higher), ascending
--   has_edge                           whether a list of edges has the one between u and v
--   without_edges, without_vertices    what is left of a graph
--   linked                             whether a route leads from a to b
use Rattle.std.specs.Prelude.{ℕ, Bool, not, ◌&&◌, ◌||◌, List, [], ◌∷◌, ◌++◌, map, filter, nat_lt}
use Rattle.graph.specs.Graph.{Graph, same_edge}
use Rattle.flows.specs.Lists.{upto, any, among}
use Rattle.flows.specs.Reach.{reached, reaches}
use Rattle.cuts.specs.declared.edge.Edge.{Edge}

abbrev pub edge : ℕ → ℕ → Edge
edge u v = record { low = u; high = v }

-- The edges from u to each higher neighbour.
abbrev pub edges_up : Graph → ℕ → List Edge
edges_up g u = map (edge u) (filter (λ v. nat_lt u v && g.joined u v) (upto g.order))

unfoldable pub edges_of : Graph → List ℕ → List Edge
edges_of g [] = []
edges_of g (u ∷ us) = edges_up g u ++ edges_of g us

abbrev pub edge_list : Graph → List Edge
edge_list g = edges_of g (upto g.order)

abbrev pub is_between : ℕ → ℕ → Edge → Bool
is_between u v e = same_edge e.low e.high u v

abbrev pub has_edge : List Edge → ℕ → ℕ → Bool
has_edge c u v = any (is_between u v) c

abbrev pub without_edges : Graph → List Edge → Graph
without_edges g c = record { order = g.order; joined = λ u v. g.joined u v && not (has_edge c u v) }

-- A vertex that is left out stays as a number, and is joined to nothing.
abbrev pub without_vertices : Graph → List ℕ → Graph
without_vertices g c = record { order = g.order; joined = λ u v. g.joined u v && not (among c u || among c v) }

-- The vertices that a reaches, and whether b is one of them.
abbrev pub side : Graph → ℕ → List ℕ
side g a = reached g.order g.joined a

abbrev pub linked : Graph → ℕ → ℕ → Bool
linked g a b = reaches g.order g.joined a b
