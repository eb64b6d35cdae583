-- The lowest bit of a word that is set, by its trailing zeros.
use Rattle.std.proofs.Common.{◌≡◌, ℕ, zero, suc, ◌+◌, ◌-◌, ◌/◌, ◌%◌, ◌^◌, ◌<◌, ◌≤◌, true, false, Some, None, sym, refl, ap, ◌∙◌, ⊎_elim, arith}
use lib.Count.{count_trailing_zeros, under}
use Rattle.std.proofs.lemmas.Nat.{shr_below}
use Rattle.std.proofs.lemmas.Bool.{cases_eq, cases_lt, true≢false}
use Rattle.graph.specs.Graph.{first}
use Rattle.graph.proofs.Firsts.{first_found, first_missing}
use Rattle.bits.specs.Bits.{bit}
use Rattle.bits.proofs.Bits.{bit_half, bit_shift, zero_bit, low_off, low_on}

-- t is the lowest bit of n that is set, among d bits.
record Low (d n t : ℕ) : Type 0 where
  below : (j : ℕ) → j < t → bit n j ≡ false
  here : t < d → bit n t ≡ true

-- One bit more, at the low end.
under_low : (d n m t : ℕ) → n % 2 ≡ m → Low d (n / 2) t → Low (suc d) n (under m t)
under_low d n zero t e l = record {
  below = λ j h. go j h;
  here = λ h. sym (bit_half n t) ∙ l.here (omega arith);
}
  where
    go : (j : ℕ) → j < suc t → bit n j ≡ false
    go zero h = low_off n e
    go (suc j) h = sym (bit_half n j) ∙ l.below j (omega arith)
under_low d n (suc m) t e l = record {
  below = λ j h. let z : ⊥ = omega arith in absurd z;
  here = λ h. low_on n (omega arith);
}

-- The trailing zeros lead to the lowest bit.
trailing_low : (d n : ℕ) → Low d n (count_trailing_zeros d n)
unfolding count_trailing_zeros
trailing_low zero n = record {
  below = λ j h. let z : ⊥ = omega arith in absurd z;
  here = λ h. let z : ⊥ = omega arith in absurd z;
}
trailing_low (suc d) n = under_low d n (n % 2) (count_trailing_zeros d (n / 2)) refl (trailing_low d (n / 2))

-- A number of d bits, none of them set, is 0.
clear_zero : (d n : ℕ) → n < 2 ^ d → ((j : ℕ) → j < d → bit n j ≡ false) → n ≡ 0
clear_zero zero n h none = omega arith
clear_zero (suc d) n h none =
    let e : suc d ≡ d + 1 = omega arith in
    let half = clear_zero d (n / 2) (shr_below n d 1 (rw e at h)) (λ j l. bit_half n j ∙ none (suc j) (omega arith)) in
    let low : n % 2 ≡ 0 = ⊎_elim (λ q. q) (λ q. let z : ⊥ = true≢false (sym (low_on n (omega (arith, q))) ∙ none 0 (omega arith)) in absurd z) (cases_eq (n % 2) 0) in
    omega (arith, half, low)

-- A number from k up is k and the rest.
at : (k i : ℕ) → k ≤ i → k + (i - k) ≡ i
at k i h = omega arith

-- A word that is 0 from k up has no bit from k up.
pub word_none : (x k : ℕ) → x / 2 ^ k ≡ 0 → None ≡ first (bit x) k (64 - k)
word_none x k e =
    first_missing (bit x) k 64
    (λ i a b. ap (bit x) (sym (at k i a)) ∙ sym (bit_shift x k (i - k)) ∙ ap (λ (y : ℕ). bit y (i - k)) e ∙ zero_bit (i - k))

-- Else the lowest one from k up is found by the trailing zeros.
pub word_low : (x k : ℕ) → k < 64 → x < 2 ^ 64 → (x / 2 ^ k ≡ 0 → ⊥)
    → Some (k + count_trailing_zeros 64 (x / 2 ^ k)) ≡ first (bit x) k (64 - k)
word_low x k h fits ne =
    let y = x / 2 ^ k in
    let t = count_trailing_zeros 64 y in
    let l = trailing_low 64 y in
    let e : (64 - k) + k ≡ 64 = omega arith in
    let small : y < 2 ^ (64 - k) = shr_below x (64 - k) k (rw e fits) in
    let lt : t < 64 - k =
    ⊎_elim (λ q. q) (λ q. let z : ⊥ = ne (clear_zero (64 - k) y small (λ j r. l.below j (omega (arith, q, r)))) in absurd z) (cases_lt t (64 - k)) in
    first_found (bit x) k (k + t) 64 (omega arith) (omega (arith, lt))
    (λ i a b. ap (bit x) (sym (at k i a)) ∙ sym (bit_shift x k (i - k)) ∙ l.below (i - k) (omega arith))
    (sym (bit_shift x k t) ∙ l.here (omega (arith, lt)))
