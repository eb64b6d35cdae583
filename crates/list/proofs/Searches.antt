-- What std's searches say of the cells in use, which ascend.
use Rattle.std.proofs.Common.{◌≡◌, ℕ, ◌<◌, ◌≤◌, true, false, ltb, List, length, take, get_or, Ok, Err, Result, is_ok, sym, ◌∙◌, ⊎_elim, arith}
use Rattle.std.specs.List.Sorted.{IsPartitionedBy, IsPartitionPoint, IsBinarySearchResult}
use Rattle.std.specs.Ordering.{nat_cmp}
use Rattle.std.proofs.lemmas.Bool.{ltb-true, ltb-false, cases_eq, cases_lt}
use Rattle.std.proofs.lemmas.List.{places}
use Rattle.std.proofs.lemmas.List.Sorted.{searched, IsNonDecreasingBy-from_default, IsPartitionedBy-ltb}
use Rattle.list.specs.Cells.{holds, Rising}
use Rattle.list.proofs.Held.{held_where, held_nowhere}

-- The first k of the cells xs, which ascend, as a list of their own.
module _ (k : ℕ) (xs used : List ℕ) (e : used ≡ take k xs) (fits : k ≤ length xs) (up : Rising k xs) where
  pub used_size : length used ≡ k
  used_size = rw e (grind (arith, places))

  used_at : (i : ℕ) → i < k → get_or used i 0 ≡ get_or xs i 0
  used_at i l = rw e (grind (arith, places))

  -- They do not fall.
  level : (i j : ℕ) → i ≤ j → j < length used → get_or used i 0 ≤ get_or used j 0
  level i j le l =
      let m : j < k = omega (arith, used_size) in
      let n : i < k = omega arith in
      ⊎_elim
      (λ q. rw q (omega arith))
      (λ ne. omega (arith, used_at i n, used_at j m, up i j (omega (arith, ne)) m))
      (cases_eq i j)

  -- So those below c stand in front of the others.
  pub parted : (c : ℕ) → IsPartitionedBy (λ y. ltb y c) used
  parted c = IsPartitionedBy-ltb (λ x. x) used c (IsNonDecreasingBy-from_default (λ x. x) used 0 level)

  -- What stands before a partition point, and from there on.
  pub before_point : (c r : ℕ) → r ≤ length used → IsPartitionPoint (λ y. ltb y c ≡ true) (λ y. ltb y c ≡ false) used r → (i : ℕ) → i < r → get_or xs i 0 < c
  before_point c r le point i l = omega (arith, ltb-true _ c (point.0 i 0 (omega arith) l), used_at i (omega (arith, used_size)))

  pub from_point : (c r : ℕ) → IsPartitionPoint (λ y. ltb y c ≡ true) (λ y. ltb y c ≡ false) used r → (i : ℕ) → r ≤ i → i < k → c ≤ get_or xs i 0
  from_point c r point i le l = omega (arith, ltb-false _ c (point.1 i 0 le (omega (arith, used_size))), used_at i l)

  -- A binary search finds what is held.
  pub finds : (c : ℕ) (r : Result ℕ ℕ) → IsBinarySearchResult (λ y. nat_cmp y c) used r → is_ok r ≡ holds k xs c
  finds c (Ok i) h =
      let at = searched used c (Ok i) h level in
      let l : i < k = omega (arith, at.0, used_size) in
      sym (held_where k xs c i l (sym (used_at i l) ∙ at.1))
  finds c (Err i) h =
      let at = searched used c (Err i) h level in
      sym (held_nowhere k xs c (λ j l q.
      ⊎_elim
      (λ m. omega (arith, at.1 j m, used_at j l, q))
      (λ m. omega (arith, at.2 j m (omega (arith, used_size)), used_at j l, q))
      (cases_lt j i)))
