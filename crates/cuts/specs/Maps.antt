-- The maps to check by, and what both computations give on them.
--
--   graph_of                       a graph by its edges
--   two_apart .. cliques_and_hub   the eight maps
--   Outcome, outcome, found        what a computation gives, with the number of its runs
--   Check, check, check_maps       a map with both outcomes; the eight
--   Computes                       the computations give them
use Rattle.std.specs.Prelude.{◌≡◌, ℕ, Bool, not, ◌&&◌, ◌||◌, List, [], ◌∷◌, length, Some, None, Option, ◌==◌, nat_le, nat_lt}
use Rattle.graph.specs.Graph.{Graph}
use Rattle.flows.specs.Lists.{among}
use Rattle.cuts.specs.declared.edge.Edge.{Edge}
use Rattle.cuts.specs.Edges.{edge, has_edge}
use Rattle.cuts.specs.Computations.{Computed, edge_computation, vertex_computation}

-- A graph by its edges.
abbrev pub graph_of : ℕ → List Edge → Graph
graph_of n es = record { order = n; joined = has_edge es }

abbrev pub two_apart : Graph
two_apart = graph_of 2 []

abbrev pub two_joined : Graph
two_joined = graph_of 2 (edge 0 1 ∷ [])

abbrev pub path_of_three : Graph
path_of_three = graph_of 3 (edge 0 1 ∷ edge 1 2 ∷ [])

abbrev pub ring_of_five : Graph
ring_of_five = graph_of 5 (edge 0 1 ∷ edge 1 2 ∷ edge 2 3 ∷ edge 3 4 ∷ edge 0 4 ∷ [])

-- Four vertices, all joined but 0 and 1.
abbrev pub four_but_one : Graph
four_but_one = graph_of 4 (edge 0 2 ∷ edge 0 3 ∷ edge 1 2 ∷ edge 1 3 ∷ edge 2 3 ∷ [])

-- Two triangles with an edge between them, and two that share a vertex.
abbrev pub bridged_triangles : Graph
bridged_triangles = graph_of 6 (edge 0 1 ∷ edge 0 2 ∷ edge 1 2 ∷ edge 2 3 ∷ edge 3 4 ∷ edge 3 5 ∷ edge 4 5 ∷ [])

abbrev pub shared_triangles : Graph
shared_triangles = graph_of 5 (edge 0 1 ∷ edge 0 2 ∷ edge 1 2 ∷ edge 2 3 ∷ edge 2 4 ∷ edge 3 4 ∷ [])

-- Two cliques of six, and a hub that is joined to two vertices of each.
abbrev pub hub_joins : ℕ → Bool
hub_joins v = among (0 ∷ 1 ∷ 6 ∷ 7 ∷ []) v

abbrev pub in_first : ℕ → Bool
in_first v = nat_lt v 6

abbrev pub in_second : ℕ → Bool
in_second v = nat_le 6 v && nat_lt v 12

abbrev pub cliques_and_hub : Graph
cliques_and_hub = record {
  order = 13;
  joined = λ u v. (not (u == v) && ((in_first u && in_first v) || (in_second u && in_second v))) || ((u == 12 && hub_joins v) || (v == 12 && hub_joins u));
}

-- A map with what is found on it: strength, number of runs, pair and cut of each computation,
-- and the two connectivities.
pub record Outcome (X : Type 0) : Type 0 where
  pub strength : ℕ
  pub runs : ℕ
  pub pair : Option (ℕ × ℕ)
  pub cut : List X

abbrev pub outcome : {X : Type 0} → Computed X → Outcome X
outcome c = record { strength = c.strength; runs = length c.runs; pair = c.pair; cut = c.cut }

abbrev pub found : {X : Type 0} → ℕ → ℕ → Option (ℕ × ℕ) → List X → Outcome X
found strength runs pair cut = record { strength = strength; runs = runs; pair = pair; cut = cut }

pub record Check : Type 0 where
  pub map : Graph
  pub by_edges : Outcome Edge
  pub by_vertices : Outcome ℕ

abbrev pub check : Graph → Outcome Edge → Outcome ℕ → Check
check g e v = record { map = g; by_edges = e; by_vertices = v }

abbrev pub check_maps : List Check
check_maps =
    check two_apart (found 0 0 (Some (0, 1)) []) (found 0 1 (Some (0, 1)) [])
    ∷ check two_joined (found 1 0 (Some (0, 1)) (edge 0 1 ∷ [])) (found 1 0 None [])
    ∷ check path_of_three (found 1 0 (Some (0, 1)) (edge 0 1 ∷ [])) (found 1 1 (Some (0, 2)) (1 ∷ []))
    ∷ check ring_of_five (found 2 1 (Some (0, 1)) (edge 0 1 ∷ edge 0 4 ∷ [])) (found 2 2 (Some (0, 2)) (1 ∷ 4 ∷ []))
    ∷ check four_but_one (found 2 1 (Some (0, 1)) (edge 0 2 ∷ edge 0 3 ∷ [])) (found 2 1 (Some (0, 1)) (2 ∷ 3 ∷ []))
    ∷ check bridged_triangles (found 1 1 (Some (0, 3)) (edge 2 3 ∷ [])) (found 1 3 (Some (0, 3)) (2 ∷ []))
    ∷ check shared_triangles (found 2 1 (Some (0, 1)) (edge 0 1 ∷ edge 0 2 ∷ [])) (found 1 2 (Some (0, 3)) (2 ∷ []))
    ∷ check cliques_and_hub (found 2 1 (Some (0, 6)) (edge 0 12 ∷ edge 1 12 ∷ [])) (found 1 9 (Some (0, 6)) (12 ∷ []))
    ∷ []

-- The computations give these outcomes, by the definitions.
abbrev pub Computes : Check → Type 0
Computes c = (outcome (edge_computation c.map) ≡ c.by_edges) × (outcome (vertex_computation c.map) ≡ c.by_vertices)
