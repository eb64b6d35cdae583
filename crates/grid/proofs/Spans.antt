-- What a row counts and finds: of the part that is lent, of the grid, and of the graph that it means.
use Rattle.std.proofs.Common.{◌≡◌, ℕ, ◌-◌, ◌*◌, ◌<◌, ◌≤◌, Bool, false, List, length, None, sym, ap, ◌∙◌, arith}
use Rattle.std.specs.List.{between}
use Rattle.std.proofs.lemmas.Bool.{lt-ltb}
use Rattle.std.proofs.lemmas.List.Edits.{length-between}
use Rattle.graph.specs.Graph.{Graph, Simple, count, first, degree, next}
use Rattle.graph.proofs.Counts.{count_ext, count_short, count_none}
use Rattle.graph.proofs.Firsts.{first_ext, first_short, first_missing}
use Rattle.graph.proofs.Edges.{joined_outside}
use Rattle.bits.specs.Bits.{has}
use Rattle.bits.proofs.Parts.{part_has}
use Rattle.rows.specs.Marks.{fresh}
use Rattle.rows.proofs.Fresh.{fresh_ext, fresh_off}
use Rattle.store.specs.Outside.{next_outside}
use Rattle.grid.specs.Rows.{vertex_words, vertex_bits, row_end, set_bits, grid}
use Rattle.grid.proofs.Tallies.{row_count}

-- The part of the words that is u's row.
module _ (words row : List ℕ) (u : ℕ) (room : row_end u ≤ length words) (part : row ≡ between (vertex_words * u) (row_end u) words) where
  -- Its bits are those that the grid has there.
  row_has : (k : ℕ) → k < vertex_bits → has row 0 k ≡ has words (vertex_words * u) k
  row_has k l = ap (λ (xs : List ℕ). has xs 0 k) part ∙ part_has words (vertex_words * u) (row_end u) k (omega arith)

  -- So they are counted.
  pub part_count : set_bits row ≡ count (has words (vertex_words * u)) vertex_bits
  part_count = row_count row ∙ count_ext (has row 0) (has words (vertex_words * u)) vertex_bits row_has

  -- And so is the lowest of them from w up.
  pub part_first : (w : ℕ) → first (has row 0) w (64 * length row - w) ≡ first (has words (vertex_words * u)) w (vertex_bits - w)
  part_first w =
      let four : 64 * length row - w ≡ vertex_bits - w = omega (arith, ap length part, length-between words (vertex_words * u) (row_end u) room) in
      ap (first (has row 0) w) four ∙ first_ext (has row 0) (has words (vertex_words * u)) w (vertex_bits - w) (λ k a l. row_has k (omega arith))

-- The lowest of them that is not in a set.
module _ (words row : List ℕ) (u : ℕ) (room : row_end u ≤ length words) (part : row ≡ between (vertex_words * u) (row_end u) words) (m : ℕ → Bool) (w : ℕ) where
  pub part_outside : first (fresh m (has row 0)) w (64 * length row - w) ≡ first (fresh m (has words (vertex_words * u))) w (vertex_bits - w)
  part_outside =
      let four : 64 * length row - w ≡ vertex_bits - w = omega (arith, ap length part, length-between words (vertex_words * u) (row_end u) room) in
      ap (first (fresh m (has row 0)) w) four
      ∙ first_ext (fresh m (has row 0)) (fresh m (has words (vertex_words * u))) w (vertex_bits - w)
      (λ k a l. fresh_ext m (has row 0) (has words (vertex_words * u)) k (row_has words row u room part k (omega arith)))

-- The row of a vertex, where the words mean a simple graph.
module _ (n : ℕ) (words : List ℕ) (simple : Simple (grid n words)) (u : ℕ) (below : u < n) where
  -- Its bits say what is joined.
  row_says : (k : ℕ) → k < vertex_bits → has words (vertex_words * u) k ≡ (grid n words).joined u k
  row_says k l = rw (lt-ltb u n below, lt-ltb k vertex_bits l)

  -- Nothing from n up is joined.
  none_past : (k : ℕ) → n ≤ k → (grid n words).joined u k ≡ false
  none_past k h = joined_outside (grid n words) simple u k (λ p. omega (arith, p.1))

  -- Its bits are the neighbours, so there are as many.
  pub grid_degree : count (has words (vertex_words * u)) vertex_bits ≡ degree (grid n words) u
  grid_degree =
      count_ext (has words (vertex_words * u)) ((grid n words).joined u) vertex_bits row_says
      ∙ count_short ((grid n words).joined u) n vertex_bits (omega (arith, simple.small)) (λ k a b. none_past k a)

  -- The lowest bit is the lowest neighbour.
  pub grid_next : (w : ℕ) → first (has words (vertex_words * u)) w (vertex_bits - w) ≡ next (grid n words) u w
  grid_next w =
      first_ext (has words (vertex_words * u)) ((grid n words).joined u) w (vertex_bits - w) (λ k a l. row_says k (omega arith))
      ∙ first_short ((grid n words).joined u) w n vertex_bits (omega (arith, simple.small)) (λ k a b. none_past k a)

  -- And so with those that are not in a set.
  pub grid_outside : (m : ℕ → Bool) (w : ℕ) → first (fresh m (has words (vertex_words * u))) w (vertex_bits - w) ≡ next_outside (grid n words) m u w
  grid_outside m w =
      let joined = (grid n words).joined u in
      first_ext (fresh m (has words (vertex_words * u))) (fresh m joined) w (vertex_bits - w) (λ k a l. fresh_ext m (has words (vertex_words * u)) joined k (row_says k (omega arith)))
      ∙ first_short (fresh m joined) w n vertex_bits (omega (arith, simple.small)) (λ k a b. fresh_off m joined k (none_past k a))

-- What is no vertex has no neighbours.
pub outside_degree : (g : Graph) → Simple g → (u : ℕ) → g.order ≤ u → 0 ≡ degree g u
outside_degree g s u h = sym (count_none (g.joined u) g.order (λ k l. joined_outside g s u k (λ p. omega (arith, p.0))))

-- So none is found.
pub outside_next : (g : Graph) → Simple g → (u w : ℕ) → g.order ≤ u → None ≡ next g u w
outside_next g s u w h = first_missing (g.joined u) w g.order (λ k a b. joined_outside g s u k (λ p. omega (arith, p.0)))

-- Nor is one that is not in a set.
pub outside_none : (g : Graph) → Simple g → (m : ℕ → Bool) (u w : ℕ) → g.order ≤ u → None ≡ next_outside g m u w
outside_none g s m u w h =
    first_missing (fresh m (g.joined u)) w g.order (λ k a b. fresh_off m (g.joined u) k (joined_outside g s u k (λ p. omega (arith, p.0))))
