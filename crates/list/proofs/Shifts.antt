-- Cells moved up and down by one: what stands at each place, which says the same as the lists of specs/.
use Rattle.std.proofs.Common.{◌≡◌, ℕ, ◌+◌, ◌-◌, ◌<◌, ◌≤◌, List, length, get_or, sym, ap, ◌∙◌, ⊎_elim, arith}
use Rattle.std.proofs.lemmas.List.{places, ext_get_or}
use Rattle.std.proofs.lemmas.Bool.{cases_eq, cases_lt}
use borrow.Rule.Slice.PartMut.{put_mid, mid_of, mid_len, same_len_mid}
use Rattle.list.specs.Cells.{free, inserted_cells, removed_cells}

-- ys is xs with c put in at a place among the first k cells.
pub record Inserted (xs ys : List ℕ) (k at c : ℕ) : Type 0 where
  pub size : length ys ≡ length xs
  pub before : (i : ℕ) → i < at → get_or ys i 0 ≡ get_or xs i 0
  pub here : get_or ys at 0 ≡ c
  pub after : (i : ℕ) → at ≤ i → i < k → get_or ys (i + 1) 0 ≡ get_or xs i 0
  pub rest : (i : ℕ) → k < i → get_or ys i 0 ≡ get_or xs i 0

-- ys is xs without what stood at a place among the first k cells.
pub record Removed (xs ys : List ℕ) (k at : ℕ) : Type 0 where
  pub size : length ys ≡ length xs
  pub before : (i : ℕ) → i < at → get_or ys i 0 ≡ get_or xs i 0
  pub after : (i : ℕ) → at ≤ i → i + 1 < k → get_or ys i 0 ≡ get_or xs (i + 1) 0
  pub freed : get_or ys (k - 1) 0 ≡ free
  pub rest : (i : ℕ) → k ≤ i → get_or ys i 0 ≡ get_or xs i 0

-- The list of the specification has c in at that place.
pub inserted_places : (xs : List ℕ) (k at c : ℕ) → at ≤ k → k < length xs → Inserted xs (inserted_cells xs k at c) k at c
inserted_places xs k at c le room = record {
  size = grind (arith, places);
  before = λ i h. grind (arith, places);
  here = grind (arith, places);
  after = λ i h m. grind (arith, places);
  rest = λ i h. grind (arith, places);
}

-- The list of the specification lacks what stood there.
pub removed_places : (xs : List ℕ) (k at : ℕ) → at < k → k ≤ length xs → Removed xs (removed_cells xs k at) k at
removed_places xs k at l fits = record {
  size = grind (arith, places);
  before = λ i h. grind (arith, places);
  after = λ i h m. grind (arith, places);
  freed = grind (arith, places);
  rest = λ i h. grind (arith, places);
}

-- What stands at each place after an insertion leaves one list.
pub inserted_once : (xs ys zs : List ℕ) (k at c : ℕ) → at ≤ k → Inserted xs ys k at c → Inserted xs zs k at c → ys ≡ zs
inserted_once xs ys zs k at c le p q = ext_get_or 0 ys zs (p.size ∙ sym q.size) (λ i _. same i)
  where
    same : (i : ℕ) → get_or ys i 0 ≡ get_or zs i 0
    same i =
        ⊎_elim
        (λ l. p.before i l ∙ sym (q.before i l))
        (λ l. ⊎_elim
        (λ m. p.rest i m ∙ sym (q.rest i m))
        (λ m. ⊎_elim
        (λ e. ap (λ (j : ℕ). get_or ys j 0) e ∙ p.here ∙ sym q.here ∙ ap (λ (j : ℕ). get_or zs j 0) (sym e))
        (λ ne. let e : i ≡ i - 1 + 1 = omega (arith, ne) in
        ap (λ (j : ℕ). get_or ys j 0) e
        ∙ p.after (i - 1) (omega (arith, ne)) (omega (arith, ne)) ∙ sym (q.after (i - 1) (omega (arith, ne)) (omega (arith, ne)))
        ∙ ap (λ (j : ℕ). get_or zs j 0) (sym e))
        (cases_eq i at))
        (cases_lt k i))
        (cases_lt i at)

-- And so after a removal.
pub removed_once : (xs ys zs : List ℕ) (k at : ℕ) → at < k → Removed xs ys k at → Removed xs zs k at → ys ≡ zs
removed_once xs ys zs k at l p q = ext_get_or 0 ys zs (p.size ∙ sym q.size) (λ i _. same i)
  where
    same : (i : ℕ) → get_or ys i 0 ≡ get_or zs i 0
    same i =
        ⊎_elim
        (λ m. p.before i m ∙ sym (q.before i m))
        (λ m. ⊎_elim
        (λ h. p.after i m h ∙ sym (q.after i m h))
        (λ h. ⊎_elim
        (λ e. ap (λ (j : ℕ). get_or ys j 0) e ∙ p.freed ∙ sym q.freed ∙ ap (λ (j : ℕ). get_or zs j 0) (sym e))
        (λ ne. p.rest i (omega (arith, ne)) ∙ sym (q.rest i (omega (arith, ne))))
        (cases_eq i (k - 1)))
        (cases_lt (i + 1) k))
        (cases_lt i at)

-- With the part from `at` to k, both in it, moved up and c moved in, c is put in.
pub inserted_by_move : (xs part : List ℕ) (k at c : ℕ) → at ≤ k → k < length xs → length part ≡ length (mid_of at (k + 1 - at) xs) → get_or part 0 0 ≡ c
    → ((i : ℕ) → i + 1 < length (mid_of at (k + 1 - at) xs) → get_or part (i + 1) 0 ≡ get_or (mid_of at (k + 1 - at) xs) i 0) → put_mid at (k + 1 - at) xs part ≡ inserted_cells xs k at c
inserted_by_move xs part k at c le room size first moved =
    inserted_once xs (put_mid at (k + 1 - at) xs part) (inserted_cells xs k at c) k at c le filled (inserted_places xs k at c le room)
  where
    many : length (mid_of at (k + 1 - at) xs) ≡ k + 1 - at
    many = mid_len at (k + 1) xs (omega arith)

    long : length part ≡ k + 1 - at
    long = size ∙ many

    read : (i : ℕ) → at ≤ i → i < k → get_or part (i - at + 1) 0 ≡ get_or xs i 0
    read i h m = moved (i - at) (omega (arith, many)) ∙ grind (arith, places)

    filled : Inserted xs (put_mid at (k + 1 - at) xs part) k at c
    filled = record {
      size = same_len_mid at (k + 1 - at) xs part size;
      before = λ i h. grind (arith, places, long);
      here = grind (arith, places, long, first);
      after = λ i h m. grind (arith, places, long, read i h m);
      rest = λ i h. grind (arith, places, long);
    }

-- With the part from `at` up to k moved down, over what stood at `at`, that is taken out.
pub removed_by_move : (xs part : List ℕ) (k at : ℕ) → at < k → k ≤ length xs → length part ≡ length (mid_of at (k - at) xs)
    → ((i : ℕ) → i + 1 < length (mid_of at (k - at) xs) → get_or part i 0 ≡ get_or (mid_of at (k - at) xs) (i + 1) 0) → get_or part (length (mid_of at (k - at) xs) - 1) 0 ≡ free
    → put_mid at (k - at) xs part ≡ removed_cells xs k at
removed_by_move xs part k at l fits size moved freed =
    removed_once xs (put_mid at (k - at) xs part) (removed_cells xs k at) k at l closed (removed_places xs k at l fits)
  where
    many : length (mid_of at (k - at) xs) ≡ k - at
    many = mid_len at k xs fits

    long : length part ≡ k - at
    long = size ∙ many

    read : (i : ℕ) → at ≤ i → i + 1 < k → get_or part (i - at) 0 ≡ get_or xs (i + 1) 0
    read i h m = moved (i - at) (omega (arith, many)) ∙ grind (arith, places)

    last : get_or part (k - 1 - at) 0 ≡ free
    last = ap (λ (j : ℕ). get_or part j 0) (omega (arith, many)) ∙ freed

    closed : Removed xs (put_mid at (k - at) xs part) k at
    closed = record {
      size = same_len_mid at (k - at) xs part size;
      before = λ i h. grind (arith, places, long);
      after = λ i h m. grind (arith, places, long, read i h m);
      freed = grind (arith, places, long, last);
      rest = λ i h. grind (arith, places, long);
    }
