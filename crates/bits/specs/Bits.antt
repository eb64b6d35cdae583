-- Bits of words, and sets of numbers in a list of words.
--
--   bit, has      a bit of a word; a bit of the words from one on
--   Written       a word with one bit set or cleared, told by its bits
--   with_bit      that word
--   with_number   words with one number put in or taken out
use Rattle.std.specs.Prelude.{◌≡◌, ℕ, ◌+◌, ◌-◌, ◌/◌, ◌%◌, ◌^◌, ◌<◌, Bool, true, false, cond, List, ◌==◌, slice_index, slice_set, bit_or, bit_and}

-- Bit k of a word.
unfoldable pub bit : ℕ → ℕ → Bool
bit x k = x / 2 ^ k % 2 == 1

-- Bit v of the words from `base` on.
abbrev pub has : List ℕ → ℕ → ℕ → Bool
has words base v = bit (slice_index words (base + v / 64)) (v % 64)

-- The word y is x, but that bit k of it is set or not.
pub record Written (x k : ℕ) (on : Bool) (y : ℕ) : Type 0 where
  pub bits : (j : ℕ) → j < 64 → bit y j ≡ cond (j == k) on (bit x j)

-- The word x with bit k set, or cleared.
abbrev pub with_bit : ℕ → ℕ → Bool → ℕ
with_bit x k true = bit_or x (2 ^ k)
with_bit x k false = bit_and x (2 ^ 64 - 1 - 2 ^ k)

-- The words with number v of those from `base` on put in, or taken out: one word is changed, in one bit.
abbrev pub with_number : List ℕ → ℕ → ℕ → Bool → List ℕ
with_number words base v on = slice_set words (base + v / 64) (with_bit (slice_index words (base + v / 64)) (v % 64) on)
