-- What a list of this crate means, and what its cells hold.
--
--   codes_of, graph_of, capacity_of    the cells; the graph; how many edges it takes
--   lent_cells                         what cells are good for as the memory of a list
--   laid_cells, taken_cells            the cells after an edge is laid, and after one is taken up
use Rattle.std.specs.Prelude.{ℕ, true, List, length}
use Rattle.graph.specs.Graph.{Graph, edges}
use Rattle.model.specs.Model.{Room}
use Rattle.list.specs.Cells.{code, listing, place, inserted_cells, removed_cells}
use Rattle.list.specs.declared.List.{List as Store}

-- What the cells hold.
abbrev pub codes_of : Store → List ℕ
codes_of s = s.codes.now

-- The graph that the cells in use mean.
abbrev pub graph_of : Store → Graph
graph_of s = listing s.n s.count (codes_of s)

-- An edge in each cell.
abbrev pub capacity_of : Store → ℕ
capacity_of s = length (codes_of s)

-- Any number of cells is enough for a map of any order.
abbrev pub lent_cells : List ℕ → Room
lent_cells xs = record { enough = λ n. true; capacity = λ n. length xs }

-- Cells under a graph use as many as it has edges. An edge laid: its number goes in where it belongs.
abbrev pub laid_cells : Graph → List ℕ → ℕ → ℕ → List ℕ
laid_cells g cells u v = inserted_cells cells (edges g) (place (edges g) cells (code u v)) (code u v)

-- An edge taken up: its number goes out from where it stands.
abbrev pub taken_cells : Graph → List ℕ → ℕ → ℕ → List ℕ
taken_cells g cells u v = removed_cells cells (edges g) (place (edges g) cells (code u v))
