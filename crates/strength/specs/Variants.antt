-- Variants of the vertex computation that look right and are wrong, each shown wrong by a map.
--
--   far_strength                                                what the runs from the sparsest vertex give
--   rounds_with, strength_with                                  the rounds with other ends, and what they give
--   read_at_near_end                                            a cut, read at the wrong end of the arcs that leave a side
--   seven                                                       a map of seven vertices
--   GivesConnectivity                                           a computation is right on every graph
--   VariantsRefuted, SevenRefutes, HubRefutes, NearEndRefuted   what is wrong, and where
--   RightEnds                                                   the rounds with the right ends are the runs of the computation
use Rattle.std.specs.Prelude.{◌≡◌, ℕ, suc, ◌+◌, ◌-◌, ◌<◌, ◌≤◌, true, false, cond, not, ◌&&◌, List, [], ◌∷◌, ◌++◌, take, filter, ◌≢◌, nat_le}
use Rattle.graph.specs.Graph.{Graph, Simple}
use Rattle.flows.specs.Lists.{upto, any, among}
use Rattle.cuts.specs.declared.run.Run.{Run}
use Rattle.cuts.specs.Edges.{edge, side, without_vertices}
use Rattle.cuts.specs.Cuts.{vertex_connectivity, nearest_vertex_cut, is_vertex_cut, complete}
use Rattle.cuts.specs.Computations.{least_degree, sparsest, neighbours, least_value, far_runs, near_runs, vertex_runs, vertex_computation}
use Rattle.cuts.specs.Maps.{graph_of, cliques_and_hub}

-- Stopping after the runs from r.
abbrev pub far_strength : Graph → ℕ
far_strength g = least_value g.order (far_runs g (sparsest g))

-- The rounds among r's neighbours, with another last i or another last j: `early` is how far
-- below δ the last i lies, and `short` how far below δ the last j.
unfoldable pub rounds_with : ℕ → ℕ → Graph → ℕ → ℕ → List ℕ → List Run → List Run
rounds_with early short g δ i [] runs = runs
rounds_with early short g δ i (a ∷ bs) runs =
    cond (nat_le (i + early) δ && nat_le i (least_value g.order runs))
    (rounds_with early short g δ (suc i) bs (runs ++ near_runs g a (take (δ - short - i) bs)))
    runs

abbrev pub strength_with : ℕ → ℕ → Graph → ℕ
strength_with early short g =
    least_value g.order (rounds_with early short g (least_degree g) 1 (neighbours g (sparsest g)) (far_runs g (sparsest g)))

-- The cut nearest to a, read at the wrong end: the vertices of a's side that have a neighbour
-- beyond it, in place of those neighbours.
abbrev pub read_at_near_end : Graph → ℕ → ℕ → List ℕ
read_at_near_end g a b =
    let near = side (without_vertices g (nearest_vertex_cut g a b)) a in
    filter (λ u. among near u && any (λ v. g.joined u v && not (among near v)) (upto g.order)) (upto g.order)

-- A map of seven vertices where the runs from r give 4, and the truth is 3.
abbrev pub seven : Graph
seven =
    graph_of 7
    (edge 0 3 ∷ edge 0 4 ∷ edge 0 5 ∷ edge 0 6 ∷ edge 1 3 ∷ edge 1 4 ∷ edge 1 5
    ∷ edge 1 6 ∷ edge 2 3 ∷ edge 2 4 ∷ edge 2 5 ∷ edge 2 6 ∷ edge 3 6 ∷ edge 4 5 ∷ [])

-- A computation gives the vertex connectivity of every graph of two or more vertices that is
-- not complete.
abbrev pub GivesConnectivity : (Graph → ℕ) → Type 0
GivesConnectivity f = (g : Graph) → Simple g → 2 ≤ g.order → complete g ≡ false → f g ≡ vertex_connectivity g

-- Stopping after r's runs, j only up to δ − 2, i only up to δ − 4: all wrong.
abbrev pub VariantsRefuted : Type 0
VariantsRefuted =
    (GivesConnectivity far_strength → ⊥)
    × (GivesConnectivity (strength_with 3 2) → ⊥)
    × (GivesConnectivity (strength_with 4 1) → ⊥)

-- With the right ends, i up to δ − 3 and j up to δ − 1, the same rounds are the runs of the computation, and
-- give its strength.
abbrev pub RightEnds : Type 0
RightEnds =
    (g : Graph)
    → (rounds_with 3 1 g (least_degree g) 1 (neighbours g (sparsest g)) (far_runs g (sparsest g)) ≡ vertex_runs g)
    × (complete g ≡ false → strength_with 3 1 g ≡ (vertex_computation g).strength)

-- Where stopping after r's runs is wrong: the map of seven vertices, and two cliques with a hub.
abbrev pub SevenRefutes : Type 0
SevenRefutes = Simple seven × (far_strength seven ≡ 4) × (vertex_connectivity seven ≡ 3)

abbrev pub HubRefutes : Type 0
HubRefutes = Simple cliques_and_hub × (far_strength cliques_and_hub ≡ 2) × (vertex_connectivity cliques_and_hub ≡ 1)

-- What is read at the near end need not be a cut, though the two are unjoined vertices.
abbrev pub NearEndRefuted : Type 0
NearEndRefuted =
    ((g : Graph) (a b : ℕ) → Simple g → a < g.order → b < g.order → (a ≢ b) → g.joined a b ≡ false
    → is_vertex_cut g (read_at_near_end g a b) ≡ true)
    → ⊥
