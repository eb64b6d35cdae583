-- Two sets of words put together, word by word.
--
--   joined_to      the words below i have the numbers of both sets, the others those of the first
--   joined_none    before any word is
--   joined_more    word i too
--   joined_all     every word is
use Rattle.std.proofs.Common.{◌≡◌, ℕ, ◌+◌, ◌/◌, ◌%◌, ◌<◌, Bool, false, ◌&&◌, ◌||◌, ltb, ◌≢◌, List, length, get_or, set, sym, ap, ◌∙◌, ⊎_elim, arith, get_or-set_other, get_or-set_same}
use lib.Bits.{bit_or}
use Rattle.std.proofs.Math.Bool.{or-false}
use Rattle.std.proofs.lemmas.Bool.{cases_eq, cases_lt, lt-ltb, le-ltb, and_right}
use Rattle.bits.specs.Bits.{bit, has}
use Rattle.bits.proofs.Parts.{has_past}

-- Whether number j is in the words below i of two sets, or in the others of the first.
abbrev pub joined_to : List ℕ → List ℕ → ℕ → ℕ → Bool
joined_to xs ys i j = has xs 0 j || (ltb (j / 64) i && has ys 0 j)

-- Before any word is, the words have the numbers of the first.
pub joined_none : (xs ys : List ℕ) (j : ℕ) → has xs 0 j ≡ joined_to xs ys 0 j
joined_none xs ys j = sym (or-false (has xs 0 j)) ∙ ap (λ (b : Bool). has xs 0 j || (b && has ys 0 j)) (sym (le-ltb (j / 64) 0 (omega arith)))

-- Once every word is, they have the numbers of both.
pub joined_all : (xs ys : List ℕ) (n j : ℕ) → length xs ≡ n → length ys ≡ length xs → joined_to xs ys n j ≡ (has xs 0 j || has ys 0 j)
joined_all xs ys n j size same =
    ⊎_elim
    (λ l. ap (λ (b : Bool). has xs 0 j || (b && has ys 0 j)) (lt-ltb (j / 64) n l))
    (λ l. let off : has ys 0 j ≡ false = has_past ys 0 j (omega arith) in
    ap (λ (b : Bool). has xs 0 j || b) (and_right (ltb (j / 64) n) (has ys 0 j) off ∙ sym off))
    (cases_lt (j / 64) n)

-- Word i is put together too, and is y.
module _ (xs ys zs : List ℕ) (i y : ℕ) (fits : i < length zs) (both : (j : ℕ) → bit y j ≡ (bit (get_or zs i 0) j || bit (get_or ys i 0) j))
    (so : (j : ℕ) → has zs 0 j ≡ joined_to xs ys i j) where
  -- The numbers of word i are those of both sets, and the others are as they were.
  pub joined_more : (j : ℕ) → has (set zs i y) 0 j ≡ joined_to xs ys (i + 1) j
  joined_more j =
      let k = 0 + j / 64 in
      ⊎_elim
      (λ e. ap (λ (z : ℕ). bit (get_or (set zs i y) z 0) (j % 64)) e
      ∙ ap (λ (z : ℕ). bit z (j % 64)) (get_or-set_same zs i y 0 fits)
      ∙ both (j % 64)
      ∙ ap (λ (z : ℕ). bit (get_or zs z 0) (j % 64) || bit (get_or ys z 0) (j % 64)) (sym e)
      ∙ ap (λ (b : Bool). b || has ys 0 j) (so j)
      ∙ ap (λ (b : Bool). (has xs 0 j || (b && has ys 0 j)) || has ys 0 j) (le-ltb (j / 64) i (omega arith))
      ∙ ap (λ (b : Bool). b || has ys 0 j) (or-false (has xs 0 j))
      ∙ ap (λ (b : Bool). has xs 0 j || (b && has ys 0 j)) (sym (lt-ltb (j / 64) (i + 1) (omega arith))))
      (λ ne. ap (λ (z : ℕ). bit z (j % 64)) (get_or-set_other zs i k y 0 ne)
      ∙ so j
      ∙ ap (λ (b : Bool). has xs 0 j || (b && has ys 0 j)) (still j ne))
      (cases_eq k i)
    where
      -- A number of another word is below word i as it was.
      still : (j : ℕ) → 0 + j / 64 ≢ i → ltb (j / 64) i ≡ ltb (j / 64) (i + 1)
      still j ne = ⊎_elim
          (λ l. lt-ltb (j / 64) i l ∙ sym (lt-ltb (j / 64) (i + 1) (omega arith)))
          (λ l. le-ltb (j / 64) i l ∙ sym (le-ltb (j / 64) (i + 1) (omega (arith, ne))))
          (cases_lt (j / 64) i)
