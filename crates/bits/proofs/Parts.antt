-- Bits past the words, and of words that are wiped; rows: the words in parts of s each, of which one is lent
-- and put back.
use Rattle.std.proofs.Common.{◌≡◌, ℕ, ◌+◌, ◌-◌, ◌*◌, ◌/◌, ◌%◌, ◌<◌, ◌≤◌, Bool, false, cond, eqb, ◌⊎◌, List, ◌++◌, length, get_or, drop, replicate, sym, ap, ◌∙◌, ⊎_elim, inl, inr, zero-add, arith}
use Rattle.std.proofs.Math.Nat.{mul-le-mul_left}
use borrow.Rule.Slice.PartMut.{put_mid}
use Rattle.std.proofs.lemmas.Bool.{cases_eq, cases_lt, ne_eqb, eq-eqb, cond-true, cond-false}
use Rattle.std.proofs.lemmas.List.{places, get_or_past}
use Rattle.std.proofs.lemmas.List.Edits.{get_or-between}
use Rattle.std.proofs.lemmas.Slice.{drop-put_mid}
use Rattle.std.specs.List.{between}
use Rattle.bits.specs.Bits.{bit, has}
use Rattle.bits.proofs.Bits.{zero_bit}

-- What is past the words is not set.
pub has_past : (words : List ℕ) (base k : ℕ) → length words ≤ base + k / 64 → has words base k ≡ false
has_past words base k h = ap (λ (x : ℕ). bit x (k % 64)) (get_or_past words (base + k / 64) 0 h) ∙ zero_bit (k % 64)

-- The first n words are wiped: they are 0.
wiped_word : (n i : ℕ) (words : List ℕ) → i < n → get_or (replicate n 0 ++ drop n words) i 0 ≡ 0
wiped_word n i words h = grind (arith, places)

-- So no bit of them is set.
pub wiped_has : (n : ℕ) (words : List ℕ) (base k : ℕ) → base + k / 64 < n → has (replicate n 0 ++ drop n words) base k ≡ false
wiped_has n words base k h = ap (λ (x : ℕ). bit x (k % 64)) (wiped_word n (base + k / 64) words h) ∙ zero_bit (k % 64)

-- A part that is lent has the bits that the words have there.
pub part_has : (words : List ℕ) (a b k : ℕ) → a + k / 64 < b → has (between a b words) 0 k ≡ has words a k
part_has words a b k h =
    ap (λ (w : ℕ). bit w (k % 64))
    (get_or-between words a b (0 + k / 64) 0 (omega arith) ∙ ap (λ (x : ℕ). get_or words (a + x) 0) (zero-add (k / 64)))

-- After a write to a part: the places in it.
mid : (a k i : ℕ) (xs ys : List ℕ) → a + k ≤ length xs → length ys ≡ k → a ≤ i → i < a + k → get_or (put_mid a k xs ys) i 0 ≡ get_or ys (i - a) 0
mid a k i xs ys h l p q = grind (arith, places)

-- The places below it.
under : (a k i : ℕ) (xs ys : List ℕ) → a + k ≤ length xs → length ys ≡ k → i < a → get_or (put_mid a k xs ys) i 0 ≡ get_or xs i 0
under a k i xs ys h l p = grind (arith, places)

-- The places above it.
over : (a k i : ℕ) (xs ys : List ℕ) → a + k ≤ length xs → length ys ≡ k → a + k ≤ i → get_or (put_mid a k xs ys) i 0 ≡ get_or xs i 0
over a k i xs ys h l p = grind (arith, places)

-- Of two rows, one ends before the other begins.
rows_apart : (s a u : ℕ) → (a ≡ u → ⊥) → (s * a + s ≤ s * u) ⊎ (s * u + s ≤ s * a)
rows_apart s a u ne =
    ⊎_elim
    (λ h. let more : a + 1 ≤ u = omega arith in inl (omega (arith, mul-le-mul_left s more)))
    (λ h. let more : u + 1 ≤ a = omega (arith, ne) in inr (omega (arith, mul-le-mul_left s more)))
    (cases_lt a u)

-- Row u is lent, changed by f at each place, and put back.
module _ (s : ℕ) (xs ys : List ℕ) (u : ℕ) (fits : s * u + s ≤ length xs) (size : length ys ≡ s) where
  -- The row has the new bits, and the others are as they were.
  pub row_changed : (f : ℕ → Bool → Bool) → ((k : ℕ) → k / 64 < s → has ys 0 k ≡ f k (has (between (s * u) (s * u + s) xs) 0 k))
      → (a b : ℕ) → b / 64 < s
      → has (put_mid (s * u) (s * u + s - s * u) xs ys) (s * a) b ≡ cond (eqb a u) (f b (has xs (s * a) b)) (has xs (s * a) b)
  row_changed f e a b m =
      let width : s * u + s - s * u ≡ s = omega arith in
      let i = s * a + b / 64 in
      ap (λ (z : ℕ). has (put_mid (s * u) z xs ys) (s * a) b) width
      ∙ ⊎_elim
      (λ q. let same : s * a ≡ s * u = ap (λ (z : ℕ). s * z) q in
      let at : get_or (put_mid (s * u) s xs ys) i 0 ≡ get_or ys (i - s * u) 0 = mid (s * u) s i xs ys fits size (omega (arith, same)) (omega (arith, same)) in
      let j : i - s * u ≡ 0 + b / 64 = omega (arith, same) in
      ap (λ (z : ℕ). bit z (b % 64)) (at ∙ ap (λ (z : ℕ). get_or ys z 0) j) ∙ e b m
      ∙ ap (f b) (part_has xs (s * u) (s * u + s) b (omega arith) ∙ ap (λ (z : ℕ). has xs (s * z) b) (sym q))
      ∙ sym (cond-true (eqb a u) (f b (has xs (s * a) b)) (has xs (s * a) b) (eq-eqb a u q)))
      (λ q. let at : get_or (put_mid (s * u) s xs ys) i 0 ≡ get_or xs i 0 =
      ⊎_elim (λ r. under (s * u) s i xs ys fits size (omega arith)) (λ r. over (s * u) s i xs ys fits size (omega arith)) (rows_apart s a u q) in
      ap (λ (z : ℕ). bit z (b % 64)) at ∙ sym (cond-false (eqb a u) (f b (has xs (s * a) b)) (has xs (s * a) b) (ne_eqb a u q)))
      (cases_eq a u)

  -- The words after the row are as they were.
  pub past_row : (m : ℕ) → s * u + s ≤ m → drop m (put_mid (s * u) (s * u + s - s * u) xs ys) ≡ drop m xs
  past_row m k = drop-put_mid (s * u) (s * u + s - s * u) xs ys m (omega arith) (omega arith) (omega arith)
