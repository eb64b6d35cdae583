-- What an edge more and an edge less do: the statements; src/lib.rt carries their proofs.
use Rattle.std.specs.Prelude.{◌≡◌, ℕ, ◌+◌, ◌*◌, ◌<◌, ◌≤◌, true, false, ◌≢◌}
use Rattle.graph.specs.Graph.{Graph, Simple, degree, edges, with_edge, without_edge}

-- An edge between two different vertices that are not joined keeps the graph simple, and is one more.
abbrev pub OneEdgeMore : Type 0
OneEdgeMore =
    (g : Graph) (u v : ℕ) → Simple g → u < g.order → v < g.order → (u ≢ v) → g.joined u v ≡ false
    → Simple (with_edge g u v) × (edges (with_edge g u v) ≡ edges g + 1)

-- Taking an edge away keeps the graph simple, and leaves one fewer.
abbrev pub OneEdgeLess : Type 0
OneEdgeLess =
    (g : Graph) (u v : ℕ) → Simple g → g.joined u v ≡ true
    → Simple (without_edge g u v) × (edges (without_edge g u v) + 1 ≡ edges g)

-- A simple graph has at most as many edges as pairs, and a degree is below the order.
abbrev pub FewEdges : Type 0
FewEdges = (g : Graph) → Simple g → (2 * edges g + g.order ≤ g.order * g.order) × ((u : ℕ) → degree g u < g.order)
