-- What a grid of this crate means.
--
--   graph_of, capacity_of   the graph; how many edges it takes
use Rattle.std.specs.Prelude.{ℕ}
use Rattle.graph.specs.Graph.{Graph}
use Rattle.grid.specs.Rows.{grid, pairs}
use Rattle.grid.specs.declared.Grid.{Grid}

-- The graph that the words mean.
abbrev pub graph_of : Grid → Graph
graph_of s = grid s.n s.words.now

-- Every pair can be joined.
abbrev pub capacity_of : Grid → ℕ
capacity_of s = pairs s.n
