-- What the memory of each store is good for, written out.
--
--   grid_room   words as a grid
--   list_room   cells as a list
use Rattle.std.specs.Prelude.{ℕ, ◌-◌, ◌*◌, ◌/◌, true, List, length, nat_le}
use Rattle.model.specs.Model.{Room}

-- A map of n vertices needs 4 n words, and takes an edge for every pair.
abbrev pub grid_room : List ℕ → Room
grid_room words = record { enough = λ n. nat_le (4 * n) (length words); capacity = λ n. n * (n - 1) / 2 }

-- Any number of cells is enough, and takes as many edges.
abbrev pub list_room : List ℕ → Room
list_room cells = record { enough = λ n. true; capacity = λ n. length cells }
