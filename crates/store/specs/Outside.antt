-- The lowest neighbour of u that is w or more and not in a set, or none.
use Rattle.std.specs.Prelude.{ℕ, ◌-◌, Bool, Option}
use Rattle.graph.specs.Graph.{Graph, first}
use Rattle.rows.specs.Marks.{fresh}

abbrev pub next_outside : Graph → (ℕ → Bool) → ℕ → ℕ → Option ℕ
next_outside g m u w = first (fresh m (g.joined u)) w (g.order - w)
