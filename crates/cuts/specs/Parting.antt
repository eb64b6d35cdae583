-- What parting two vertices is, and what a cut is, said by routes.
--
--   NoRoute, SomeRoute                        no route leads from a to b; some route does
--   Outside                                   a vertex that is not in a list
--   EdgesPartByRoutes, VerticesPartByRoutes   what parts two vertices leaves them no route
--   EdgeCutByRoutes, VertexCutByRoutes        a cut leaves some two vertices no route
--   PartingTurns                              what parts a from b parts b from a
--   CompleteUncut                             a complete graph has no vertex cut
use Rattle.std.specs.Prelude.{◌≡◌, ℕ, ◌<◌, true, false, List, ◌≢◌, ◌↔◌}
use Rattle.graph.specs.Graph.{Graph, Simple}
use Rattle.flows.specs.Lists.{among}
use Rattle.flows.specs.Routes.{Route}
use Rattle.cuts.specs.declared.edge.Edge.{Edge}
use Rattle.cuts.specs.Edges.{without_edges, without_vertices}
use Rattle.cuts.specs.Cuts.{edges_part, vertices_part, is_edge_cut, is_vertex_cut, complete}

abbrev pub NoRoute : Graph → ℕ → ℕ → Type 0
NoRoute g a b = (xs : List ℕ) → Route g.joined a b xs → ⊥

abbrev pub SomeRoute : Graph → ℕ → ℕ → Type 0
SomeRoute g a b = (xs : List ℕ) × Route g.joined a b xs

-- Edges part a and b exactly where no route is left without them.
abbrev pub EdgesPartByRoutes : Type 0
EdgesPartByRoutes =
    (g : Graph) (a b : ℕ) (c : List Edge) → Simple g → a < g.order
    → ((edges_part g a b c ≡ true) ↔ NoRoute (without_edges g c) a b)
    × ((edges_part g a b c ≡ false) ↔ SomeRoute (without_edges g c) a b)

-- And so do vertices.
abbrev pub VerticesPartByRoutes : Type 0
VerticesPartByRoutes =
    (g : Graph) (a b : ℕ) (c : List ℕ) → Simple g → a < g.order
    → ((vertices_part g a b c ≡ true) ↔ NoRoute (without_vertices g c) a b)
    × ((vertices_part g a b c ≡ false) ↔ SomeRoute (without_vertices g c) a b)

-- Edges are a cut exactly where some two vertices have no route without them; they are none
-- exactly where every two have one.
abbrev pub EdgeCutByRoutes : Type 0
EdgeCutByRoutes =
    (g : Graph) (c : List Edge) → Simple g
    → ((is_edge_cut g c ≡ true) ↔ ((a : ℕ) × (b : ℕ) × (a < g.order) × (b < g.order) × (a ≢ b) × NoRoute (without_edges g c) a b))
    × ((is_edge_cut g c ≡ false) ↔ ((a b : ℕ) → a < g.order → b < g.order → SomeRoute (without_edges g c) a b))

-- Vertices are a cut exactly where some two vertices outside have no route that avoids them.
abbrev pub Outside : Graph → List ℕ → ℕ → Type 0
Outside g c v = (v < g.order) × (among c v ≡ false)

abbrev pub VertexCutByRoutes : Type 0
VertexCutByRoutes =
    (g : Graph) (c : List ℕ) → Simple g
    → ((is_vertex_cut g c ≡ true) ↔ ((a : ℕ) × (b : ℕ) × Outside g c a × Outside g c b × (a ≢ b) × NoRoute (without_vertices g c) a b))
    × ((is_vertex_cut g c ≡ false) ↔ ((a b : ℕ) → Outside g c a → Outside g c b → SomeRoute (without_vertices g c) a b))

-- Parting has no direction.
abbrev pub PartingTurns : Type 0
PartingTurns =
    (g : Graph) (a b : ℕ) → Simple g → a < g.order → b < g.order
    → ((c : List Edge) → edges_part g a b c ≡ edges_part g b a c)
    × ((c : List ℕ) → vertices_part g a b c ≡ vertices_part g b a c)

-- Where every two vertices are joined, no vertices are a cut.
abbrev pub CompleteUncut : Type 0
CompleteUncut = (g : Graph) → complete g ≡ true → (c : List ℕ) → is_vertex_cut g c ≡ false
