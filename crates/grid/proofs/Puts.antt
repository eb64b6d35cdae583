-- A number put into a row that is lent.
use Rattle.std.proofs.Common.{◌≡◌, ℕ, ◌+◌, ◌-◌, ◌*◌, ◌/◌, ◌%◌, ◌<◌, ◌≤◌, Bool, List, length, get_or, set, length-set, get_or-set_other, sym, ap, ap₂, ⊎_elim, ◌∙◌, arith}
use Rattle.std.proofs.lemmas.Bool.{cases_eq, cases_lt}
use Rattle.std.proofs.lemmas.Grind.{get_or-set_at}
use Rattle.std.proofs.lemmas.List.{places, ext_get_or}
use Rattle.std.proofs.lemmas.List.Edits.{get_or-between}
use Rattle.std.specs.List.{between}
use borrow.Rule.Slice.PartMut.{put_mid, mid_of, same_len_mid}
use Rattle.bits.specs.Bits.{with_bit, with_number}

-- A write to a part that is lent, put back, is that write to the words.
part_set : (a k i y : ℕ) (xs : List ℕ) → a + k ≤ length xs → i < k → put_mid a k xs (set (mid_of a k xs) i y) ≡ set xs (a + i) y
part_set a k i y xs fits l =
    ext_get_or 0 (put_mid a k xs (set (mid_of a k xs) i y)) (set xs (a + i) y)
    (same_len_mid a k xs (set (mid_of a k xs) i y) size ∙ sym (length-set xs (a + i) y))
    (λ j m. ⊎_elim
    (λ e. let here : get_or (set (mid_of a k xs) i y) (j - a) 0 ≡ y = get_or-set_at (mid_of a k xs) i (j - a) y 0 (omega (arith, e)) (omega (arith, long)) in
    inside j (omega (arith, e)) (omega (arith, e)) ∙ here ∙ sym (get_or-set_at xs (a + i) j y 0 e (omega arith)))
    (λ ne. ⊎_elim
    (λ p. under j p ∙ sym (get_or-set_other xs (a + i) j y 0 ne))
    (λ p. ⊎_elim
    (λ q. inside j p q ∙ get_or-set_other (mid_of a k xs) i (j - a) y 0 (λ e. ne (omega (arith, e))) ∙ grind (arith, places) ∙ sym (get_or-set_other xs (a + i) j y 0 ne))
    (λ q. over j q ∙ sym (get_or-set_other xs (a + i) j y 0 ne))
    (cases_lt j (a + k)))
    (cases_lt j a))
    (cases_eq j (a + i)))
  where
    size : length (set (mid_of a k xs) i y) ≡ length (mid_of a k xs)
    size = length-set (mid_of a k xs) i y

    long : length (mid_of a k xs) ≡ k
    long = grind (arith, places)

    inside : (j : ℕ) → a ≤ j → j < a + k → get_or (put_mid a k xs (set (mid_of a k xs) i y)) j 0 ≡ get_or (set (mid_of a k xs) i y) (j - a) 0
    inside j p q = grind (arith, places, size, long)

    under : (j : ℕ) → j < a → get_or (put_mid a k xs (set (mid_of a k xs) i y)) j 0 ≡ get_or xs j 0
    under j p = grind (arith, places, size, long)

    over : (j : ℕ) → a + k ≤ j → get_or (put_mid a k xs (set (mid_of a k xs) i y)) j 0 ≡ get_or xs j 0
    over j p = grind (arith, places, size, long)

-- So a number put into row u is put into the words.
pub row_put : (xs ys : List ℕ) (u v : ℕ) (on : Bool) → 4 * u + 4 ≤ length xs → v < 256
    → ys ≡ with_number (between (4 * u) (4 * u + 4) xs) 0 v on → put_mid (4 * u) (4 * u + 4 - 4 * u) xs ys ≡ with_number xs (4 * u) v on
row_put xs ys u v on fits small e =
    let a = 4 * u in
    let k = 4 * u + 4 - 4 * u in
    let i : 0 + v / 64 ≡ v / 64 = omega arith in
    let old : get_or (between a (a + 4) xs) (0 + v / 64) 0 ≡ get_or xs (a + v / 64) 0 = get_or-between xs a (a + 4) (0 + v / 64) 0 (omega arith) ∙ ap (λ (x : ℕ). get_or xs (a + x) 0) i in
    ap (put_mid a k xs) e
    ∙ ap₂ (λ (x y : ℕ). put_mid a k xs (set (mid_of a k xs) x (with_bit y (v % 64) on))) i old
    ∙ part_set a k (v / 64) (with_bit (get_or xs (a + v / 64) 0) (v % 64) on) xs (omega arith) (omega arith)
