-- The two computations are right: their strength is the connectivity, which is the size of
-- their cut; no cut is smaller; the pair that they name has that value, and their cut parts it;
-- their runs are few, and each has the value of its pair.
--
--   FewEdgeRuns, FewVertexRuns             how many runs there are at most
--   EdgeRunsTrue, VertexRunsTrue           what each listed run is
--   NoSmallerEdgeCut, NoSmallerVertexCut   no cut is smaller than the strength
--   EdgeStrength, VertexStrength           the strength is the connectivity
--   EdgePair, VertexPair                   the value of the named pair is the strength
--   EdgeCutFound, VertexCutFound           the cut is one, of the strength's size
--   EdgeCutParts, VertexCutParts           and it parts the named pair
use Rattle.std.specs.Prelude.{◌≡◌, ℕ, ◌+◌, ◌-◌, ◌*◌, ◌/◌, ◌<◌, ◌≤◌, true, false, List, length, Some, ◌≢◌}
use Rattle.graph.specs.Graph.{Graph, Simple}
use Rattle.flows.specs.Lists.{among}
use Rattle.cuts.specs.declared.edge.Edge.{Edge}
use Rattle.cuts.specs.declared.run.Run.{Run}
use Rattle.cuts.specs.Edges.{edge_list}
use Rattle.cuts.specs.Choices.{In}
use Rattle.cuts.specs.Cuts.{edges_part, edge_value, edge_connectivity, is_edge_cut, vertices_part, vertex_value, vertex_connectivity, is_vertex_cut, complete}
use Rattle.cuts.specs.Computations.{least_degree, edge_computation, vertex_computation}

-- No edge cut is smaller than the strength, whatever list of edges it is written as.
abbrev pub NoSmallerEdgeCut : Type 0
NoSmallerEdgeCut = (g : Graph) → Simple g → 2 ≤ g.order → (c : List Edge) → is_edge_cut g c ≡ true → (edge_computation g).strength ≤ length c

abbrev pub EdgeStrength : Type 0
EdgeStrength = (g : Graph) → Simple g → 2 ≤ g.order → (edge_computation g).strength ≡ edge_connectivity g

-- The named pair are two vertices, and its edge value is the strength.
abbrev pub EdgePair : Type 0
EdgePair =
    (g : Graph) → Simple g → 2 ≤ g.order
    → (a : ℕ) × (b : ℕ) × ((edge_computation g).pair ≡ Some (a, b)) × (a < g.order) × (b < g.order) × (a ≢ b)
    × (edge_value g a b ≡ (edge_computation g).strength)

-- At most half the order less one.
abbrev pub FewEdgeRuns : Type 0
FewEdgeRuns = (g : Graph) → Simple g → 2 ≤ g.order → length (edge_computation g).runs ≤ g.order / 2 - 1

-- Each listed run is of two different vertices, and has their edge value.
abbrev pub EdgeRunsTrue : Type 0
EdgeRunsTrue =
    (g : Graph) → Simple g → 2 ≤ g.order → (r : Run) → In r (edge_computation g).runs
    → (r.from < g.order) × (r.to < g.order) × (r.from ≢ r.to) × (r.value ≡ edge_value g r.from r.to)

-- The cut is an edge cut of the strength's size.
abbrev pub EdgeCutFound : Type 0
EdgeCutFound =
    (g : Graph) → Simple g → 2 ≤ g.order
    → (is_edge_cut g (edge_computation g).cut ≡ true) × (length (edge_computation g).cut ≡ (edge_computation g).strength)

-- It is made of edges of the graph, and parts the very pair that is named.
abbrev pub EdgeCutParts : Type 0
EdgeCutParts =
    (g : Graph) → Simple g → 2 ≤ g.order
    → (a : ℕ) × (b : ℕ) × ((edge_computation g).pair ≡ Some (a, b))
    × ((e : Edge) → In e (edge_computation g).cut → In e (edge_list g))
    × (edges_part g a b (edge_computation g).cut ≡ true)

abbrev pub NoSmallerVertexCut : Type 0
NoSmallerVertexCut = (g : Graph) → Simple g → 2 ≤ g.order → (c : List ℕ) → is_vertex_cut g c ≡ true → (vertex_computation g).strength ≤ length c

abbrev pub VertexStrength : Type 0
VertexStrength = (g : Graph) → Simple g → 2 ≤ g.order → (vertex_computation g).strength ≡ vertex_connectivity g

abbrev pub VertexPair : Type 0
VertexPair =
    (g : Graph) → Simple g → 2 ≤ g.order → complete g ≡ false
    → (a : ℕ) × (b : ℕ) × ((vertex_computation g).pair ≡ Some (a, b)) × (a < g.order) × (b < g.order) × (a ≢ b) × (g.joined a b ≡ false)
    × (vertex_value g a b ≡ (vertex_computation g).strength)

-- With δ the least degree and k the strength, at most n − δ − 1 + k (2δ − k − 3) / 2 runs, the
-- second term being 0 where it would be negative.
abbrev pub FewVertexRuns : Type 0
FewVertexRuns =
    (g : Graph) → Simple g → 2 ≤ g.order
    → length (vertex_computation g).runs
    ≤ g.order - least_degree g - 1 + (vertex_computation g).strength * (2 * least_degree g - (vertex_computation g).strength - 3) / 2

-- Each listed run is of two different vertices that are not joined, and has their vertex value.
abbrev pub VertexRunsTrue : Type 0
VertexRunsTrue =
    (g : Graph) → Simple g → 2 ≤ g.order → (r : Run) → In r (vertex_computation g).runs
    → (r.from < g.order) × (r.to < g.order) × (r.from ≢ r.to) × (g.joined r.from r.to ≡ false) × (r.value ≡ vertex_value g r.from r.to)

abbrev pub VertexCutFound : Type 0
VertexCutFound =
    (g : Graph) → Simple g → 2 ≤ g.order → complete g ≡ false
    → (is_vertex_cut g (vertex_computation g).cut ≡ true) × (length (vertex_computation g).cut ≡ (vertex_computation g).strength)

-- It is made of vertices of the graph, holds neither of the pair that is named, and parts them.
abbrev pub VertexCutParts : Type 0
VertexCutParts =
    (g : Graph) → Simple g → 2 ≤ g.order → complete g ≡ false
    → (a : ℕ) × (b : ℕ) × ((vertex_computation g).pair ≡ Some (a, b))
    × ((v : ℕ) → among (vertex_computation g).cut v ≡ true → v < g.order)
    × (among (vertex_computation g).cut a ≡ false) × (among (vertex_computation g).cut b ≡ false)
    × (vertices_part g a b (vertex_computation g).cut ≡ true)
