-- Lists placed in a buffer one behind another, and what a loop has written so far.
--
--   placed_none, placed_one     no item leaves the buffer as it is; one is written at its place
--   placed_more, placed_front   a list behind another; from place 0 on, in front
--   gathered                    the lists of the numbers below n, one behind another
--   Written                     what stands in a buffer, and the place that comes next
use Rattle.std.proofs.Common.{◌≡◌, ℕ, zero, suc, ◌+◌, ◌<◌, ◌≤◌, List, [], ◌∷◌, ◌++◌, length, take, drop, set, sym, refl, ap, ◌∙◌, subst, ap₂, ⊎_elim, add-zero, add_assoc, zero-add, add-one, arith, length-append, length-drop}
use Rattle.std.proofs.lemmas.List.{append-nil, append_assoc, take-append-drop, take_at, drop_at, drop-drop, set_split, length-take-le}
use Rattle.std.proofs.lemmas.Bool.{cases_eq}
use Rattle.flows.specs.Lists.{in_front}
use Rattle.plan.specs.Writing.{placed}

-- Without an item the buffer is as it was.
pub placed_none : {X : Type 0} (k : ℕ) (buffer : List X) → placed k [] buffer ≡ buffer
unfolding placed
placed_none {X} k buffer = ap (λ (m : ℕ). take k buffer ++ drop m buffer) (add-zero k) ∙ take-append-drop k buffer

-- One item is written at its place.
pub placed_one : {X : Type 0} (k : ℕ) (x : X) (buffer : List X) → k < length buffer → set buffer k x ≡ placed k (x ∷ []) buffer
unfolding placed
placed_one k x buffer l = set_split buffer k x l ∙ ap (λ (m : ℕ). take k buffer ++ (x ∷ drop m buffer)) (sym (add-one k))

-- From place 0 on is in front.
pub placed_front : {X : Type 0} (xs buffer : List X) → placed 0 xs buffer ≡ in_front xs buffer
unfolding placed
placed_front xs buffer = ap (λ (m : ℕ). xs ++ drop m buffer) (zero-add (length xs))

-- A list that the buffer has room for from place k on.
module _ {X : Type 0} (k : ℕ) (xs buffer : List X) (fits : k + length xs ≤ length buffer) where
  -- What stands before the next place is as long as it says.
  front_long : length (take k buffer ++ xs) ≡ k + length xs
  front_long =
      length-append (take k buffer) xs
      ∙ ap (λ (m : ℕ). m + length xs) (length-take-le k buffer (omega arith))

  -- The buffer as what stands before the next place and what stands behind it.
  parted : placed k xs buffer ≡ (take k buffer ++ xs) ++ drop (k + length xs) buffer
  unfolding placed
  parted = sym (append_assoc (take k buffer) xs (drop (k + length xs) buffer))

  -- A buffer stays as long as it was.
  pub placed_long : length (placed k xs buffer) ≡ length buffer
  placed_long =
      let e = ap length parted ∙ length-append (take k buffer ++ xs) (drop (k + length xs) buffer) in
      omega (arith, e, front_long, length-drop (k + length xs) buffer)

  -- A list behind another is the two in one.
  pub placed_more : (ys : List X) → placed (k + length xs) ys (placed k xs buffer) ≡ placed k (xs ++ ys) buffer
  unfolding placed
  placed_more ys =
      let m = k + length xs in
      let before : take m (placed k xs buffer) ≡ take k buffer ++ xs =
      ap (take m) parted ∙ take_at (take k buffer ++ xs) (drop m buffer) m front_long in
      let behind : drop m (placed k xs buffer) ≡ drop m buffer =
      ap (drop m) parted ∙ drop_at (take k buffer ++ xs) (drop m buffer) m front_long in
      let rest : drop (m + length ys) (placed k xs buffer) ≡ drop (m + length ys) buffer =
      sym (drop-drop (length ys) m (placed k xs buffer)) ∙ ap (drop (length ys)) behind ∙ drop-drop (length ys) m buffer in
      let long : m + length ys ≡ k + length (xs ++ ys) = add_assoc k (length xs) (length ys) ∙ ap (λ (n : ℕ). k + n) (sym (length-append xs ys)) in
      ap₂ (λ (a b : List X). a ++ (ys ++ b)) before (rest ∙ ap (λ (n : ℕ). drop n buffer) long)
      ∙ append_assoc (take k buffer) xs (ys ++ drop (k + length (xs ++ ys)) buffer)
      ∙ ap (λ (zs : List X). take k buffer ++ zs) (sym (append_assoc xs ys (drop (k + length (xs ++ ys)) buffer)))

-- The lists of the numbers below n, one behind another.
unfoldable pub gathered : {X : Type 0} → (ℕ → List X) → ℕ → List X
gathered f zero = []
gathered f (suc n) = gathered f n ++ f n

-- One number more.
pub gathered_more : {X : Type 0} (f : ℕ → List X) (n : ℕ) → gathered f (n + 1) ≡ gathered f n ++ f n
unfolding gathered
gathered_more f n = ap (gathered f) (add-one n)

-- Lists that are the same below n gather to the same.
pub gathered_same : {X : Type 0} (f h : ℕ → List X) (n : ℕ) → ((i : ℕ) → i < n → f i ≡ h i) → gathered f n ≡ gathered h n
unfolding gathered
gathered_same f h zero e = refl
gathered_same {X} f h (suc n) e = ap₂ (λ (a b : List X). a ++ b) (gathered_same f h n (λ i l. e i (omega arith))) (e n (omega arith))

-- Nothing comes of empty lists.
pub gathered_none : {X : Type 0} (f : ℕ → List X) (n : ℕ) → ((i : ℕ) → i < n → f i ≡ []) → gathered f n ≡ []
unfolding gathered
gathered_none f zero e = refl
gathered_none {X} f (suc n) e = ap₂ (λ (a b : List X). a ++ b) (gathered_none f n (λ i l. e i (omega arith))) (e n (omega arith))

-- Numbers with empty lists may be leapt over.
pub gathered_leap : {X : Type 0} (f : ℕ → List X) (a b : ℕ) → a ≤ b → ((i : ℕ) → a ≤ i → i < b → f i ≡ []) → gathered f a ≡ gathered f b
unfolding gathered
gathered_leap f a zero l e = let q : a ≡ 0 = omega arith in ap (gathered f) q
gathered_leap {X} f a (suc b) l e =
    ⊎_elim
    (λ q. ap (gathered f) q)
    (λ q. gathered_leap f a b (omega (arith, q)) (λ i m k. e i m (omega arith))
    ∙ sym (ap (λ (zs : List X). gathered f b ++ zs) (e b (omega (arith, q)) (omega arith)) ∙ append-nil (gathered f b)))
    (cases_eq a (suc b))

-- What is gathered up to a number, with its own list, is no longer than all.
pub gathered_room : {X : Type 0} (f : ℕ → List X) (n i : ℕ) → i < n → length (gathered f i) + length (f i) ≤ length (gathered f n)
unfolding gathered
gathered_room f zero i l = absurd (omega arith)
gathered_room f (suc n) i l =
    ⊎_elim
    (λ e. let h : length (gathered f i) + length (f i) ≡ length (gathered f n) + length (f n) = ap (λ (m : ℕ). length (gathered f m) + length (f m)) e in
    omega (arith, h, length-append (gathered f n) (f n)))
    (λ e. omega (arith, gathered_room f n i (omega (arith, e)), length-append (gathered f n) (f n)))
    (cases_eq i n)

-- Since a buffer was as at the start, the list was written from place k on, and place j comes next.
pub record Written {X : Type 0} (start buffer : List X) (k j : ℕ) (xs : List X) : Type 0 where
  pub next : j ≡ k + length xs
  pub items : buffer ≡ placed k xs start

-- Nothing is written yet.
pub written_none : {X : Type 0} (start buffer : List X) (k j : ℕ) (xs : List X) → buffer ≡ start → j ≡ k → xs ≡ [] → Written start buffer k j xs
written_none {X} start buffer k j xs same here e =
    record { next = omega (arith, here, ap length e); items = same ∙ sym (ap (λ (zs : List X). placed k zs start) e ∙ placed_none k start) }

-- What is written is the same list by another name.
pub written_as : {X : Type 0} {start buffer : List X} {k j : ℕ} {xs ys : List X} → xs ≡ ys → Written start buffer k j xs → Written start buffer k j ys
written_as {X} {start} {buffer} {k} {j} e w = subst (Written start buffer k j) e w

-- A number below n, whose list comes next.
module _ {X : Type 0} (start buffer : List X) (k j : ℕ) (f : ℕ → List X) (n i : ℕ) (below : i < n)
    (fits : k + length (gathered f n) ≤ length start) (w : Written start buffer k j (gathered f i)) (ys : List X) (here : ys ≡ f i) where
  -- What is written so far, and with that list, is no longer than the start has room for.
  room_so_far : (k + length (gathered f i) ≤ length start) × (k + length (gathered f i) + length ys ≤ length start)
  room_so_far = let r = gathered_room f n i below in let e = ap length here in (omega arith, omega arith)

  -- The buffer has room for the list.
  pub written_room : j + length ys ≤ length buffer
  written_room =
      let r = room_so_far in
      let e = ap length w.items ∙ placed_long k (gathered f i) start r.0 in
      omega (arith, r.1, w.next, e)

  -- The list stands behind what was written.
  pub written_more : (after : List X) (m : ℕ) → m ≡ j + length ys → after ≡ placed j ys buffer → Written start after k m (gathered f (i + 1))
  written_more after m next items =
      let r = room_so_far in
      let more : gathered f i ++ ys ≡ gathered f (i + 1) = ap (λ (zs : List X). gathered f i ++ zs) here ∙ sym (gathered_more f i) in
      record {
        next = omega (arith, next, w.next, ap length more, length-append (gathered f i) ys);
        items = items
            ∙ ap₂ (λ (p : ℕ) (b : List X). placed p ys b) w.next w.items
            ∙ placed_more k (gathered f i) start r.0 ys
            ∙ ap (λ (zs : List X). placed k zs start) more;
      }

-- All that was written, by another name.
pub written_all : {X : Type 0} (start buffer : List X) (xs ys : List X) → xs ≡ ys → (k j : ℕ) → Written start buffer k j xs
    → (j ≡ k + length ys) × (buffer ≡ placed k ys start)
written_all {X} start buffer xs ys same k j w =
    (w.next ∙ ap (λ (zs : List X). k + length zs) same, w.items ∙ ap (λ (zs : List X). placed k zs start) same)
