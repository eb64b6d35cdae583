-- Bits of words: halves, shifts, powers of two, and or.
use Rattle.std.proofs.Common.{◌≡◌, ℕ, zero, suc, ◌+◌, ◌/◌, ◌%◌, ◌^◌, ◌<◌, true, false, cond, ◌||◌, eqb, sym, refl, ap, ◌∙◌, one-mul, div-one, one-add, arith}
use native.Mathlib.Nat.{zero-div}
use lib.Dec.{eqb-zero-suc, eqb-suc-zero}
use lib.Bits.{bit_or, or_shr, or_mod, shifted_half, shifted_even}
use Rattle.std.proofs.lemmas.Nat.{shr-shr}
use Rattle.std.proofs.lemmas.Bool.Decides.{nat_tests}
use Rattle.bits.specs.Bits.{bit}

-- A word shifted by k places.
pub bit_shift : (x k j : ℕ) → bit (x / 2 ^ k) j ≡ bit x (k + j)
unfolding bit
bit_shift x k j = ap (λ (y : ℕ). eqb (y % 2) 1) (shr-shr x k j)

-- The bits of half a word are those from 1 up.
pub bit_half : (x i : ℕ) → bit (x / 2) i ≡ bit x (suc i)
bit_half x i = bit_shift x 1 i ∙ ap (bit x) (one-add i)

-- No bit of 0 is set.
pub zero_bit : (j : ℕ) → bit 0 j ≡ false
unfolding bit
zero_bit j = rw (zero-div (2 ^ j))

-- The lowest bit of an even number is clear.
pub low_off : (n : ℕ) → n % 2 ≡ 0 → bit n 0 ≡ false
unfolding bit
low_off n h = rw (div-one n, h)

-- The lowest bit of an odd number is set.
pub low_on : (n : ℕ) → n % 2 ≡ 1 → bit n 0 ≡ true
unfolding bit
low_on n h = rw (div-one n, h)

-- A number below 2 is 1 or 0.
digit : (d : ℕ) → d < 2 → d ≡ cond (eqb d 1) 1 0
digit d h = grind (arith, nat_tests)

-- The lowest bit as a number.
pub bit_low : (x : ℕ) → x % 2 ≡ cond (bit x 0) 1 0
unfolding bit
bit_low x = digit (x % 2) (omega arith) ∙ ap (λ (y : ℕ). cond (eqb (y % 2) 1) 1 0) (sym (div-one x))

-- Equal numbers have equal successors.
same_suc : (j k : ℕ) → eqb j k ≡ eqb (suc j) (suc k)
same_suc j k = grind (arith, nat_tests)

-- Half a power of two.
half_pow : (k : ℕ) → 2 ^ suc k / 2 ≡ 2 ^ k
half_pow k = simp one-mul at (shifted_half 1 k)

-- Of a power of two one bit is set.
pub pow_bit : (k j : ℕ) → bit (2 ^ k) j ≡ eqb j k
unfolding bit
pow_bit zero zero = refl
pow_bit zero (suc j) = sym (bit_half 1 j) ∙ zero_bit j ∙ sym (eqb-suc-zero j)
pow_bit (suc k) zero =
    ap (λ (x : ℕ). eqb (x % 2) 1) (div-one (2 ^ suc k))
    ∙ ap (λ (x : ℕ). eqb (x % 2) 1) (sym (one-mul (2 ^ suc k)))
    ∙ ap (λ (x : ℕ). eqb x 1) (shifted_even 1 k)
    ∙ sym (eqb-zero-suc k)
pow_bit (suc k) (suc j) = sym (bit_half (2 ^ suc k) j) ∙ ap (λ (x : ℕ). bit x j) (half_pow k) ∙ pow_bit k j ∙ same_suc j k

-- Or of two digits.
digit_or : (d e : ℕ) → d < 2 → e < 2 → eqb (bit_or d e) 1 ≡ (eqb d 1 || eqb e 1)
digit_or zero zero h k = refl
digit_or zero (suc zero) h k = refl
digit_or (suc zero) zero h k = refl
digit_or (suc zero) (suc zero) h k = refl
digit_or (suc (suc d)) e h k = let z : ⊥ = omega arith in absurd z
digit_or zero (suc (suc e)) h k = let z : ⊥ = omega arith in absurd z
digit_or (suc zero) (suc (suc e)) h k = let z : ⊥ = omega arith in absurd z

-- A bit of x | y.
pub bit_of_or : (x y j : ℕ) → bit (bit_or x y) j ≡ (bit x j || bit y j)
unfolding bit
bit_of_or x y j =
    ap (λ (z : ℕ). eqb (z % 2) 1) (or_shr x y j)
    ∙ ap (λ (z : ℕ). eqb z 1) (or_mod (x / 2 ^ j) (y / 2 ^ j) 1)
    ∙ digit_or (x / 2 ^ j % 2) (y / 2 ^ j % 2) (omega arith) (omega arith)
