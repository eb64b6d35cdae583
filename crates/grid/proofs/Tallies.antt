-- The bits that are set, counted word by word.
use Rattle.std.proofs.Common.{◌≡◌, ℕ, zero, suc, ◌+◌, ◌*◌, ◌/◌, ◌^◌, ◌<◌, List, get_or, sym, ◌∙◌, ap₂, arith}
use lib.Count.{ones, ones_step, ones-le}
use Rattle.std.proofs.lemmas.Nat.{shr_below}
use Rattle.graph.specs.Graph.{count}
use Rattle.graph.proofs.Counts.{count_zero, count_ext, count_front, count_split}
use Rattle.bits.specs.Bits.{bit, has}
use Rattle.grid.specs.Rows.{vertex_bits, set_bits}
use Rattle.bits.proofs.Bits.{bit_half, bit_low}
use Rattle.bits.proofs.Scans.{word_at}

-- The number of ones of a word of k bits.
pub ones_count : (k x : ℕ) → x < 2 ^ k → ones x ≡ count (bit x) k
ones_count zero x h = let z = count_zero (bit x) in omega (arith, ones-le 0 x h)
ones_count (suc k) x h =
    let e : k + 1 ≡ suc k = omega arith in
    ones_step x
    ∙ ap₂ (λ (a b : ℕ). a + b) (bit_low x)
    (ones_count k (x / 2) (shr_below x k 1 (rw e h)) ∙ count_ext (bit (x / 2)) (λ i. bit x (suc i)) k (λ i _. bit_half x i))
    ∙ sym (count_front (bit x) k)

-- So the 64 bits of a row from 64 i up are those of its word i.
word_count : (row : List ℕ) (i : ℕ) → count (λ j. has row 0 (64 * i + j)) 64 ≡ count (bit (get_or row i 0)) 64
word_count row i = count_ext (λ j. has row 0 (64 * i + j)) (bit (get_or row i 0)) 64 (λ j l. word_at row i j l)

-- The bits of the four words of a row are the bits that it has.
pub row_count : (row : List ℕ) → set_bits row ≡ count (has row 0) vertex_bits
row_count row =
    let p = has row 0 in
    let e3 = count_split p 192 64 in
    let e2 = count_split p 128 64 in
    let e1 = count_split p 64 64 in
    let e0 = count_split p 0 64 in
    let w0 = word_count row 0 in
    let w1 = word_count row 1 in
    let w2 = word_count row 2 in
    let w3 = word_count row 3 in
    let z = count_zero p in
    omega (arith, e0, e1, e2, e3, w0, w1, w2, w3, z)
