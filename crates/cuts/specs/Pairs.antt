-- Values and nearest cuts of a pair: what they are, and how a largest flow gives them.
--
--   both_ways, crossing_edges            each edge as two arcs; the edges that leave a set
--   split, crossing_vertices             each vertex but the ends as an arc; the vertices at which arcs leave
--   is_end, through, along               the arcs of the split digraph
--   EdgeValueByFlow, VertexValueByFlow   a largest flow gives the value and the nearest cut
--   NearestEdgeCut, NearestVertexCut     the nearest cut is a smallest one, and the only nearest
--   EdgeValueLaws, VertexValueLaws       values have no direction, and are at most a degree
--   VertexValueLeast                     nothing that parts the two is shorter than the value
use Rattle.std.specs.Prelude.{◌≡◌, ℕ, ◌+◌, ◌-◌, ◌<◌, ◌≤◌, Bool, true, false, cond, not, ◌&&◌, ◌||◌, List, length, filter, ◌==◌, ◌≢◌, nat_lt}
use Rattle.graph.specs.Graph.{Graph, Simple, degree}
use Rattle.flows.specs.Lists.{upto, among}
use Rattle.flows.specs.Flow.{Digraph, Flow, residual_side}
use Rattle.cuts.specs.declared.edge.Edge.{Edge}
use Rattle.cuts.specs.Edges.{edge_list, without_edges, without_vertices, side}
use Rattle.cuts.specs.Choices.{In, inside}
use Rattle.cuts.specs.Cuts.{edges_part, edge_cuts, edge_value, nearest_edge_cut, vertices_part, vertex_cuts, vertex_value, nearest_vertex_cut}

-- Each edge as two arcs, one each way.
abbrev pub both_ways : Graph → Digraph
both_ways g = record { nodes = g.order; arc = g.joined }

-- The edges with one end in a set.
abbrev pub crossing_edges : Graph → (ℕ → Bool) → List Edge
crossing_edges g u = filter (λ e. (u e.low && not (u e.high)) || (u e.high && not (u e.low))) (edge_list g)

-- The edge value is the value of a largest flow, and the nearest cut is what crosses its
-- residual side.
abbrev pub EdgeValueByFlow : Type 0
EdgeValueByFlow =
    (g : Graph) (a b : ℕ) (f : ℕ → ℕ → Bool) (v : ℕ) → Simple g → a < g.order → b < g.order → (a ≢ b)
    → Flow (both_ways g) a b f v → residual_side (both_ways g) f a b ≡ false
    → (edge_value g a b ≡ v) × (nearest_edge_cut g a b ≡ crossing_edges g (residual_side (both_ways g) f a))

-- A smallest cut exists, the nearest exists, is a smallest cut, lies nearer than every other,
-- and is the only one that does.
abbrev pub NearestEdgeCut : Type 0
NearestEdgeCut =
    (g : Graph) (a b : ℕ) → Simple g → a < g.order → b < g.order → (a ≢ b)
    → In (nearest_edge_cut g a b) (edge_cuts g a b)
    × ((d : List Edge) → In d (edge_cuts g a b) → (edges_part g a b d ≡ true) × (length d ≡ edge_value g a b))
    × ((d : List Edge) → edges_part g a b d ≡ true → edge_value g a b ≤ length d)
    × ((d : List Edge) → In d (edge_cuts g a b) → inside (side (without_edges g (nearest_edge_cut g a b)) a) (side (without_edges g d) a) ≡ true)
    × ((d : List Edge) → In d (edge_cuts g a b)
    → ((e : List Edge) → In e (edge_cuts g a b) → inside (side (without_edges g d) a) (side (without_edges g e) a) ≡ true) → d ≡ nearest_edge_cut g a b)

-- The value is the same both ways, and at most the degree of either end.
abbrev pub EdgeValueLaws : Type 0
EdgeValueLaws =
    (g : Graph) (a b : ℕ) → Simple g → a < g.order → b < g.order → (a ≢ b)
    → (edge_value g a b ≡ edge_value g b a) × (edge_value g a b ≤ degree g a) × (edge_value g a b ≤ degree g b)

-- The split digraph of a pair of ends. Node v is the entry of the vertex v, node n + v its exit;
-- one arc leads from the entry to the exit. An end has its entry alone, which is its exit too.
abbrev pub is_end : ℕ → ℕ → ℕ → Bool
is_end a b v = v == a || v == b

-- The arc through a vertex that is no end.
abbrev pub through : Graph → ℕ → ℕ → ℕ → ℕ → Bool
through g a b p q = (nat_lt p g.order && not (is_end a b p)) && q == g.order + p

-- The arc of an edge, from an exit to an entry.
abbrev pub along : Graph → ℕ → ℕ → ℕ → ℕ → Bool
along g a b p q =
    nat_lt q g.order && cond (nat_lt p g.order) (is_end a b p && g.joined p q) (not (is_end a b (p - g.order)) && g.joined (p - g.order) q)

abbrev pub split : Graph → ℕ → ℕ → Digraph
split g a b = record { nodes = g.order + g.order; arc = λ p q. through g a b p q || along g a b p q }

-- The vertices at which arcs leave a set of nodes that has a: the arc through a vertex is read
-- as that vertex, and an arc out of a is read by its other end.
abbrev pub crossing_vertices : Graph → ℕ → (ℕ → Bool) → List ℕ
crossing_vertices g a u = filter (λ v. (u v && not (u (g.order + v)) && not (v == a)) || (not (u v) && g.joined a v)) (upto g.order)

abbrev pub VertexValueByFlow : Type 0
VertexValueByFlow =
    (g : Graph) (a b : ℕ) (f : ℕ → ℕ → Bool) (v : ℕ) → Simple g → a < g.order → b < g.order → (a ≢ b) → g.joined a b ≡ false
    → Flow (split g a b) a b f v → residual_side (split g a b) f a b ≡ false
    → (vertex_value g a b ≡ v) × (nearest_vertex_cut g a b ≡ crossing_vertices g a (residual_side (split g a b) f a))

abbrev pub NearestVertexCut : Type 0
NearestVertexCut =
    (g : Graph) (a b : ℕ) → Simple g → a < g.order → b < g.order → (a ≢ b) → g.joined a b ≡ false
    → In (nearest_vertex_cut g a b) (vertex_cuts g a b)
    × ((d : List ℕ) → In d (vertex_cuts g a b) → (vertices_part g a b d ≡ true) × (length d ≡ vertex_value g a b))
    × ((d : List ℕ) → In d (vertex_cuts g a b) → inside (side (without_vertices g (nearest_vertex_cut g a b)) a) (side (without_vertices g d) a) ≡ true)
    × ((d : List ℕ) → In d (vertex_cuts g a b)
    → ((e : List ℕ) → In e (vertex_cuts g a b) → inside (side (without_vertices g d) a) (side (without_vertices g e) a) ≡ true) → d ≡ nearest_vertex_cut g a b)

abbrev pub VertexValueLaws : Type 0
VertexValueLaws =
    (g : Graph) (a b : ℕ) → Simple g → a < g.order → b < g.order → (a ≢ b) → g.joined a b ≡ false
    → (vertex_value g a b ≡ vertex_value g b a) × (vertex_value g a b ≤ degree g a) × (vertex_value g a b ≤ degree g b)

-- No list of vertices that parts a and b, and has neither, is shorter than the value.
abbrev pub VertexValueLeast : Type 0
VertexValueLeast =
    (g : Graph) (a b : ℕ) → Simple g → a < g.order → b < g.order → (a ≢ b) → g.joined a b ≡ false
    → (d : List ℕ) → among d a ≡ false → among d b ≡ false → vertices_part g a b d ≡ true → vertex_value g a b ≤ length d
