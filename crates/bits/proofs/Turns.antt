-- Bits of x & y and of a word with every bit turned.
use Rattle.std.proofs.Common.{◌≡◌, ℕ, zero, suc, ◌-◌, ◌*◌, ◌/◌, ◌%◌, ◌^◌, ◌<◌, Bool, not, ◌&&◌, eqb, sym, refl, ap, ◌∙◌, ⊎_elim, pow-suc, arith}
use lib.Bits.{bit_and, and_shr, and_mod}
use Rattle.std.proofs.lemmas.Bool.{cases_eq}
use Rattle.bits.specs.Bits.{bit}
use Rattle.bits.proofs.Bits.{bit_half, low_off, low_on}

-- And of two digits.
digit_and : (d e : ℕ) → d < 2 → e < 2 → eqb (bit_and d e) 1 ≡ (eqb d 1 && eqb e 1)
digit_and zero zero h k = refl
digit_and zero (suc zero) h k = refl
digit_and (suc zero) zero h k = refl
digit_and (suc zero) (suc zero) h k = refl
digit_and (suc (suc d)) e h k = let z : ⊥ = omega arith in absurd z
digit_and zero (suc (suc e)) h k = let z : ⊥ = omega arith in absurd z
digit_and (suc zero) (suc (suc e)) h k = let z : ⊥ = omega arith in absurd z

-- A bit of x & y.
pub bit-and : (x y j : ℕ) → bit (bit_and x y) j ≡ (bit x j && bit y j)
unfolding bit
bit-and x y j =
    ap (λ (z : ℕ). eqb (z % 2) 1) (and_shr x y j)
    ∙ ap (λ (z : ℕ). eqb z 1) (and_mod (x / 2 ^ j) (y / 2 ^ j) 1)
    ∙ digit_and (x / 2 ^ j % 2) (y / 2 ^ j % 2) (omega arith) (omega arith)

-- The lowest bit of a word with its bits turned.
turned_low : (x n : ℕ) → n % 2 ≡ 1 - x % 2 → bit n 0 ≡ not (bit x 0)
turned_low x n h =
    ⊎_elim
    (λ e. low_on n (omega (arith, e)) ∙ sym (ap not (low_off x e)))
    (λ e. low_off n (omega (arith, e)) ∙ sym (ap not (low_on x (omega (arith, e)))))
    (cases_eq (x % 2) 0)

-- Half of it is the half with its bits turned.
turned_half : (x p q : ℕ) → q ≡ p * 2 → x < q → ((q - 1) - x) / 2 ≡ (p - 1) - x / 2
turned_half x p q e h = omega arith

-- Its last digit is the other one.
turned_digit : (x p q : ℕ) → q ≡ p * 2 → x < q → ((q - 1) - x) % 2 ≡ 1 - x % 2
turned_digit x p q e h = omega arith

-- A bit of a word of d bits with every bit turned.
pub bit_turned : (d x j : ℕ) → x < 2 ^ d → j < d → bit ((2 ^ d - 1) - x) j ≡ not (bit x j)
bit_turned zero x j h l = let z : ⊥ = omega arith in absurd z
bit_turned (suc d) x zero h l = turned_low x ((2 ^ suc d - 1) - x) (turned_digit x (2 ^ d) (2 ^ suc d) (pow-suc 2 d) h)
bit_turned (suc d) x (suc j) h l =
    sym (bit_half ((2 ^ suc d - 1) - x) j)
    ∙ ap (λ (y : ℕ). bit y j) (turned_half x (2 ^ d) (2 ^ suc d) (pow-suc 2 d) h)
    ∙ bit_turned d (x / 2) j (omega (arith, pow-suc 2 d)) (omega arith)
    ∙ ap not (bit_half x j)

-- A bit of a word of 64 bits with every bit turned.
pub word_turned : (x j : ℕ) → x < 2 ^ 64 → j < 64 → bit ((2 ^ 64 - 1) - x) j ≡ not (bit x j)
word_turned x j = bit_turned 64 x j

-- The bits of x that are not set in y.
pub word_without : (x y : ℕ) → y < 2 ^ 64 → (j : ℕ) → j < 64 → bit (bit_and x ((2 ^ 64 - 1) - y)) j ≡ (bit x j && not (bit y j))
word_without x y h j l = bit-and x ((2 ^ 64 - 1) - y) j ∙ ap (λ (b : Bool). bit x j && b) (word_turned y j h l)
