-- How much memory is needed for a cut of a pair, which has one item fewer than there are vertices at
-- most. The buffer for the other kind of cut is not needed.
--
--   edges_needed      to a question about edges, on a map of that order
--   vertices_needed   to a question about vertices
use Rattle.std.specs.Prelude.{ℕ, ◌-◌}
use Rattle.model.specs.declared.sizes.Sizes.{Sizes}
use Rattle.model.specs.Sizes.{work_sizes}

abbrev pub edges_needed : ℕ → Sizes
edges_needed order = record work_sizes { edges = order - 1 }

abbrev pub vertices_needed : ℕ → Sizes
vertices_needed order = record work_sizes { vertices = order - 1 }
