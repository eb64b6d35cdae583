-- A set of arcs among nodes in words, by head: row p is the p-th part of so many words, and bit q of
-- its first words says whether the set has the arc from q to p.
--
--   carried                 whether the set has the arc from q to p
--   arcs_in                 the same of words alone, of any number
--   with_arc, without_arc   a set of arcs with one arc more, and without one
use Rattle.std.specs.Prelude.{ℕ, ◌*◌, Bool, not, ◌&&◌, ◌||◌, List, ◌==◌, nat_lt}
use Rattle.bits.specs.Bits.{has}
use Rattle.rows.specs.Layout.{set_limit, row_words, head_limit}
use Rattle.rows.specs.declared.flow.Arcs.{Arcs}

-- No tail is past the limit of a row, and no head past those of the set.
unfoldable pub carried : Arcs → ℕ → ℕ → Bool
carried a q p = (nat_lt q set_limit && nat_lt p a.heads) && has a.words.now (row_words * p) q

-- Words that are lent for reading: no head is past the limit of the rows, and a bit past the words is clear.
unfoldable pub arcs_in : List ℕ → ℕ → ℕ → Bool
arcs_in words q p = (nat_lt q set_limit && nat_lt p head_limit) && has words (row_words * p) q

-- The arcs of f and the arc from q to p.
abbrev pub with_arc : (ℕ → ℕ → Bool) → ℕ → ℕ → (ℕ → ℕ → Bool)
with_arc f q p = λ x y. f x y || (x == q && y == p)

-- The arcs of f but the one from q to p.
abbrev pub without_arc : (ℕ → ℕ → Bool) → ℕ → ℕ → (ℕ → ℕ → Bool)
without_arc f q p = λ x y. f x y && not (x == q && y == p)
