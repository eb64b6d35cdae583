-- One number put into a set of words, or taken out.
use Rattle.std.proofs.Common.{◌≡◌, ℕ, ◌+◌, ◌-◌, ◌*◌, ◌/◌, ◌%◌, ◌^◌, ◌<◌, Bool, true, false, cond, not, ◌&&◌, ◌||◌, eqb, ◌≢◌, List, length, get_or, set, sym, refl, ap, ◌∙◌, ⊎_elim, arith, get_or-set_other, get_or-set_same}
use lib.Bits.{bit_or, bit_and}
use Rattle.std.proofs.lemmas.Nat.{pow_below, one_shl}
use Rattle.std.proofs.lemmas.Bool.Decides.{nat_tests}
use Rattle.std.proofs.lemmas.Bool.{cases_eq, ne_eqb, cond-false}
use Rattle.bits.specs.Bits.{bit, has, Written, with_bit}
use Rattle.bits.proofs.Bits.{pow_bit, bit_of_or}
use Rattle.bits.proofs.Turns.{bit-and, word_turned}

-- What or with a mask does to a bit.
pub or_mask : (b m : Bool) → (b || m) ≡ cond m true b
or_mask true true = refl
or_mask true false = refl
or_mask false true = refl
or_mask false false = refl

-- What and with a turned mask does to a bit.
pub and_mask : (b m : Bool) → (b && not m) ≡ cond m false b
and_mask true true = refl
and_mask true false = refl
and_mask false true = refl
and_mask false false = refl

-- A word with bit k set.
pub written_on : (x k : ℕ) → k < 64 → Written x k true (bit_or x (1 * 2 ^ k % 2 ^ 64))
written_on x k small =
    let mask : 1 * 2 ^ k % 2 ^ 64 ≡ 2 ^ k = one_shl k 64 small in
    rw mask record { bits = λ j l. bit_of_or x (2 ^ k) j ∙ ap (λ (b : Bool). bit x j || b) (pow_bit k j) ∙ or_mask (bit x j) (eqb j k) }

-- A word with bit k clear.
pub written_off : (x k : ℕ) → k < 64 → Written x k false (bit_and x ((2 ^ 64 - 1) - 1 * 2 ^ k % 2 ^ 64))
written_off x k small =
    let mask : 1 * 2 ^ k % 2 ^ 64 ≡ 2 ^ k = one_shl k 64 small in
    rw mask record {
      bits = λ j l. bit-and x ((2 ^ 64 - 1) - 2 ^ k) j
          ∙ ap (λ (b : Bool). bit x j && b) (word_turned (2 ^ k) j (pow_below k 64 small) l ∙ ap not (pow_bit k j))
          ∙ and_mask (bit x j) (eqb j k);
    }

-- What is computed is that word.
pub value_on : (x k : ℕ) (on : Bool) → k < 64 → on ≡ true → bit_or x (1 * 2 ^ k % 2 ^ 64) ≡ with_bit x k on
value_on x k on small is = rw is (ap (bit_or x) (one_shl k 64 small))

pub value_off : (x k : ℕ) (on : Bool) → k < 64 → on ≡ false → bit_and x ((2 ^ 64 - 1) - 1 * 2 ^ k % 2 ^ 64) ≡ with_bit x k on
value_off x k on small is = rw is (ap (λ (m : ℕ). bit_and x ((2 ^ 64 - 1) - m)) (one_shl k 64 small))

-- In one word, equal places are equal numbers.
same_place : (j k : ℕ) → j / 64 ≡ k / 64 → eqb (j % 64) (k % 64) ≡ eqb j k
same_place j k h = grind (arith, nat_tests)

-- The words with one of them changed at one bit: that number is in the set or not, and the others are
-- as they were.
pub set_number : (words : List ℕ) (k y : ℕ) (on : Bool) → k / 64 < length words
    → Written (get_or words (k / 64) 0) (k % 64) on y
    → (j : ℕ) → has (set words (k / 64) y) 0 j ≡ cond (eqb j k) on (has words 0 j)
set_number words k y on h written j =
    let at = k / 64 in
    let i = 0 + j / 64 in
    let old = λ (z : ℕ). bit (get_or words z 0) (j % 64) in
    ⊎_elim
    (λ q. let same : j / 64 ≡ k / 64 = omega (arith, q) in
    ap (λ (z : ℕ). bit (get_or (set words at y) z 0) (j % 64)) q
    ∙ ap (λ (z : ℕ). bit z (j % 64)) (get_or-set_same words at y 0 h)
    ∙ written.bits (j % 64) (omega arith)
    ∙ ap (λ (z : ℕ). cond (eqb (j % 64) (k % 64)) on (old z)) (sym q)
    ∙ ap (λ (b : Bool). cond b on (old i)) (same_place j k same))
    (λ q. let ne : i ≢ at = q in
    let apart : j ≢ k = λ e. q (ap (λ (z : ℕ). 0 + z / 64) e ∙ omega arith) in
    ap (λ (z : ℕ). bit z (j % 64)) (get_or-set_other words at i y 0 ne)
    ∙ sym (cond-false (eqb j k) on (old i) (ne_eqb j k apart)))
    (cases_eq i at)
