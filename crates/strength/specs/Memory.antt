-- The memory that a question is lent suffices: how many entries cuts and runs take at most.
--
--   CutsFit   a cut has fewer items than there are vertices
--   RunsFit   how many runs there are at most; none is listed twice
use Rattle.std.specs.Prelude.{◌≡◌, ℕ, ◌-◌, ◌/◌, ◌<◌, ◌≤◌, false, not, length, ◌≢◌}
use Rattle.graph.specs.Graph.{Graph, Simple, edges_below, same_edge}
use Rattle.cuts.specs.Cuts.{nearest_edge_cut, nearest_vertex_cut}
use Rattle.cuts.specs.Computations.{edge_computation, vertex_computation}
use Rattle.cuts.specs.RouteRules.{Pairwise}

-- Every cut has at most one item fewer than there are vertices.
abbrev pub CutsFit : Type 0
CutsFit =
    (g : Graph) → Simple g → 2 ≤ g.order
    → ((a b : ℕ) → a < g.order → b < g.order → (a ≢ b) → length (nearest_edge_cut g a b) ≤ g.order - 1)
    × ((a b : ℕ) → a < g.order → b < g.order → (a ≢ b) → g.joined a b ≡ false → length (nearest_vertex_cut g a b) ≤ g.order - 1)
    × (length (edge_computation g).cut ≤ g.order - 1)
    × (length (vertex_computation g).cut ≤ g.order - 1)

-- Edge runs are at most half as many as vertices. No pair is run twice among the vertex runs,
-- which are at most as many as the unjoined pairs.
abbrev pub RunsFit : Type 0
RunsFit =
    (g : Graph) → Simple g → 2 ≤ g.order
    → (length (edge_computation g).runs ≤ g.order / 2)
    × Pairwise (λ r s. same_edge r.from r.to s.from s.to ≡ false) (vertex_computation g).runs
    × (length (vertex_computation g).runs ≤ edges_below g.order (λ u v. not (g.joined u v)))
