-- A set of node numbers in words: bit p mod 64 of word p div 64 says whether p is marked.
--
--   marked   whether a number is in the set
--   fresh    the numbers that pass a test and are not in a set
use Rattle.std.specs.Prelude.{ℕ, Bool, not, ◌&&◌, nat_lt}
use Rattle.bits.specs.Bits.{has}
use Rattle.rows.specs.Layout.{set_limit}
use Rattle.rows.specs.declared.marks.Marks.{Marks}

-- No number from the limit up is marked.
unfoldable pub marked : Marks → ℕ → Bool
marked m p = nat_lt p set_limit && has m.words 0 p

-- Passes the test, and is not in the set.
unfoldable pub fresh : (ℕ → Bool) → (ℕ → Bool) → ℕ → Bool
fresh m test q = not (m q) && test q
