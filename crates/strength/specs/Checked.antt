-- The check maps, from the definitions, all in one statement.
--
--   Holds           what is said of a check map
--   CheckMapsHold   it is true of each
use Rattle.std.specs.Prelude.{◌≡◌, All}
use Rattle.graph.specs.Graph.{Simple}
use Rattle.cuts.specs.Cuts.{edge_connectivity, vertex_connectivity}
use Rattle.cuts.specs.Maps.{Check, Computes, check_maps}

-- It is a simple graph; strength, number of runs, pair and cut of both computations, and the two
-- connectivities are those that are written down.
abbrev pub Holds : Check → Type 0
Holds c =
    Simple c.map × Computes c
    × (edge_connectivity c.map ≡ c.by_edges.strength) × (vertex_connectivity c.map ≡ c.by_vertices.strength)

abbrev pub CheckMapsHold : Type 0
CheckMapsHold = All Holds check_maps
