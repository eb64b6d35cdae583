-- What the bytes of a hexadecimal text are, place by place.
use Rattle.std.proofs.Common.{◌≡◌, ℕ, zero, suc, ◌+◌, ◌*◌, ◌/◌, ◌<◌, ◌≤◌, List, [], ◌∷◌, length, get_or, sym, refl, ap, arith}
use Rattle.std.proofs.lemmas.List.{get_or_past}
use Rattle.std.specs.Simd.{first_chunks}
use Rattle.frames.specs.Hex.{digit_value, bytes_of}

-- Two digits are a byte.
pub bytes_length : (xs : List ℕ) → length (bytes_of xs) ≡ length xs / 2
unfolding bytes_of
bytes_length [] = refl
bytes_length (a ∷ []) = refl
bytes_length (a ∷ (b ∷ cs)) = omega (arith, bytes_length cs)

-- The byte at a place, from its pair of digits.
pub bytes_at : (xs : List ℕ) (i k : ℕ) (pair : List ℕ) → k ≡ length xs / 2 → i < k → pair ≡ get_or (first_chunks 2 k xs) i pair
    → 16 * digit_value (get_or pair 0 0) + digit_value (get_or pair 1 0) ≡ get_or (bytes_of xs) i 0
unfolding bytes_of
bytes_at xs i zero pair e h here = let z : ⊥ = omega arith in absurd z
bytes_at [] i (suc k) pair e h here = let z : ⊥ = omega arith in absurd z
bytes_at (a ∷ []) i (suc k) pair e h here = let z : ⊥ = omega arith in absurd z
bytes_at (a ∷ (b ∷ cs)) zero (suc k) pair e h here = ap (λ (p : List ℕ). 16 * digit_value (get_or p 0 0) + digit_value (get_or p 1 0)) here
bytes_at (a ∷ (b ∷ cs)) (suc i) (suc k) pair e h here = bytes_at cs i k pair (omega arith) (omega arith) here

-- Past the end a byte reads as 0.
pub bytes_past : (xs : List ℕ) (i : ℕ) → length xs / 2 ≤ i → 0 ≡ get_or (bytes_of xs) i 0
bytes_past xs i h = sym (get_or_past (bytes_of xs) i 0 (omega (arith, bytes_length xs)))
