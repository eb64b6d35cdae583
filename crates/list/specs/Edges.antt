-- The edges of a graph as numbers, and cells that list them.
--
--   is_edge_code, edge_codes   whether a number is that of an edge; the numbers of all edges, ascending
--   Listed                     cells that begin with these
use Rattle.std.specs.Prelude.{◌≡◌, ℕ, ◌*◌, ◌/◌, ◌%◌, ◌≤◌, Bool, ◌&&◌, List, length, take, nat_lt}
use Rattle.std.specs.List.{filter, range_with_len}
use Rattle.graph.specs.Graph.{Graph, edges}

-- Whether c is the number of an edge: its lower end, times 256, and its higher end.
abbrev pub is_edge_code : Graph → ℕ → Bool
is_edge_code g c = nat_lt (c / 256) (c % 256) && g.joined (c / 256) (c % 256)

-- The numbers of all edges, ascending.
unfoldable pub edge_codes : Graph → List ℕ
edge_codes g = filter (is_edge_code g) (range_with_len 0 (256 * g.order))

-- The first cells, as many as there are edges, hold the numbers of the edges, ascending.
pub record Listed (g : Graph) (cells : List ℕ) : Type 0 where
  pub fits : edges g ≤ length cells
  pub codes : take (edges g) cells ≡ edge_codes g
