-- Double counting between two lists: if each item of one meets some item of the other, each
-- item of the other is met at most once, then the one is no longer than the other; and where they
-- are as long, each is met exactly once.
use Rattle.std.proofs.Common.{◌≡◌, ℕ, ◌+◌, ◌≤◌, Bool, true, false, cond, List, [], ◌∷◌, length, All, filter, refl, ap, ◌∙◌, inl, inr, ⊎_elim, arith}
use Rattle.std.proofs.lemmas.List.Elements.{All-nil, All-cons, All-head, All-tail}
use Rattle.std.proofs.lemmas.Bool.{cases_Bool, or_cases, or_left, or_right, both_ways}
use Rattle.flows.specs.Lists.{any}
use Rattle.flows.proofs.Sums.{bit}
use Rattle.cuts.specs.Choices.{In}
use Rattle.cuts.specs.RouteRules.{Pairwise}

module _ {X : Type 0} where
  -- What holds of all items holds of each that stands in the list.
  pub all_in_list : (P : X → Type 0) (x : X) (xs : List X) → All P xs → In x xs → P x
  all_in_list P x [] a i = absurd i
  all_in_list P x (y ∷ ys) a i = ⊎_elim (λ e. rw e (All-head P y ys a)) (λ j. all_in_list P x ys (All-tail P y ys a) j) i

  -- What holds of each item that stands in the list holds of all.
  pub in_list_all : (P : X → Type 0) (xs : List X) → ((x : X) → In x xs → P x) → All P xs
  in_list_all P [] h = All-nil P
  in_list_all P (x ∷ xs) h = All-cons P x xs (h x (inl refl)) (in_list_all P xs (λ y i. h y (inr i)))

  -- A relation between items may be weakened.
  pub pairwise_weaker : (r s : X → X → Type 0) → ((x y : X) → r x y → s x y) → (xs : List X) → Pairwise r xs → Pairwise s xs
  pairwise_weaker r s h [] p = tt
  pairwise_weaker r s h (x ∷ xs) p =
      (in_list_all (s x) xs (λ y i. h x y (all_in_list (r x) y xs p.0 i)), pairwise_weaker r s h xs p.1)

  -- What passes a test also passes a wider one.
  pub any_wider : (p q : X → Bool) → ((x : X) → p x ≡ true → q x ≡ true) → (xs : List X) → any p xs ≡ true → any q xs ≡ true
  unfolding any
  any_wider p q h [] e = absurd (both_ways false refl e)
  any_wider p q h (x ∷ xs) e =
      ⊎_elim (λ k. or_left (q x) _ (h x k)) (λ k. or_right (q x) _ (any_wider p q h xs k)) (or_cases (p x) (any p xs) e)

  -- A filter keeps the first item if that passes.
  pub kept_cons : (p : X → Bool) (x : X) (xs : List X) → length (filter p (x ∷ xs)) ≡ bit (p x) + length (filter p xs)
  kept_cons p x xs = elim (p x) as (λ b. length (cond b (x ∷ filter p xs) (filter p xs)) ≡ bit b + length (filter p xs)) [ true ↦ omega arith | false ↦ omega arith ]

  -- Where no item passes, none is kept.
  kept_none : (p : X → Bool) (xs : List X) → All (λ x. p x ≡ false) xs → length (filter p xs) ≡ 0
  kept_none p [] a = refl
  kept_none p (x ∷ xs) a = rw (All-head (λ x. p x ≡ false) x xs a) (kept_none p xs (All-tail (λ x. p x ≡ false) x xs a))

  -- If an item that passes has no later one that passes, then at most one is kept.
  pub kept_once : (p : X → Bool) (xs : List X) → Pairwise (λ x y. p x ≡ true → p y ≡ false) xs → length (filter p xs) ≤ 1
  kept_once p [] d = omega arith
  kept_once p (x ∷ xs) d =
      ⊎_elim
      (λ on. let none = kept_none p xs (in_list_all (λ y. p y ≡ false) xs (λ y i. all_in_list (λ y. p x ≡ true → p y ≡ false) y xs d.0 i on)) in
      rw on (omega arith))
      (λ off. rw off (kept_once p xs d.1))
      (cases_Bool (p x))

module _ {Y : Type 0} where
  -- The sum of a number for each item.
  sum_over : (Y → ℕ) → List Y → ℕ
  sum_over f [] = 0
  sum_over f (y ∷ ys) = f y + sum_over f ys

  -- A sum of sums, item by item.
  sum_add : (f g h : Y → ℕ) → ((y : Y) → f y ≡ g y + h y) → (ys : List Y) → sum_over f ys ≡ sum_over g ys + sum_over h ys
  unfolding sum_over
  sum_add f g h e [] = refl
  sum_add f g h e (y ∷ ys) = omega (arith, e y, sum_add f g h e ys)

  -- If some item passes, the sum of the test is at least one.
  sum_any : (p : Y → Bool) (ys : List Y) → any p ys ≡ true → 1 ≤ sum_over (λ y. bit (p y)) ys
  unfolding sum_over any
  sum_any p [] h = absurd (both_ways false refl h)
  sum_any p (y ∷ ys) h =
      ⊎_elim (λ on. rw on (omega arith)) (λ k. omega (arith, sum_any p ys k)) (or_cases (p y) (any p ys) h)

  -- Numbers of at most one add up to at most the length.
  sum_most : (f : Y → ℕ) (ys : List Y) → ((y : Y) → In y ys → f y ≤ 1) → sum_over f ys ≤ length ys
  unfolding sum_over
  sum_most f [] h = omega arith
  sum_most f (y ∷ ys) h = omega (arith, h y (inl refl), sum_most f ys (λ z i. h z (inr i)))

  -- And if they add up to the length, each is one.
  sum_tight : (f : Y → ℕ) (ys : List Y) → ((y : Y) → In y ys → f y ≤ 1) → length ys ≤ sum_over f ys → (y : Y) → In y ys → f y ≡ 1
  unfolding sum_over
  sum_tight f [] h l y i = absurd i
  sum_tight f (z ∷ zs) h l y i =
      let here = h z (inl refl) in
      let rest = sum_most f zs (λ y i. h y (inr i)) in
      ⊎_elim (λ e. ap f e ∙ (let q : f z ≡ 1 = omega arith in q)) (λ j. sum_tight f zs (λ y i. h y (inr i)) (omega arith) y j) i

module _ {X Y : Type 0} (t : X → Y → Bool) where
  -- By how many of xs an item is met.
  abbrev met : List X → Y → ℕ
  met xs y = length (filter (λ x. t x y) xs)

  -- Each of xs meets some item: then the items are met at least as often as xs is long.
  met_least : (xs : List X) (ys : List Y) → All (λ x. any (t x) ys ≡ true) xs → length xs ≤ sum_over (met xs) ys
  met_least [] ys a = omega arith
  met_least (x ∷ xs) ys a =
      omega (
        arith,
        sum_any (t x) ys (All-head (λ x. any (t x) ys ≡ true) x xs a),
        met_least xs ys (All-tail (λ x. any (t x) ys ≡ true) x xs a),
        sum_add (met (x ∷ xs)) (λ y. bit (t x y)) (met xs) (λ y. kept_cons (λ z. t z y) x xs) ys,
      )

  -- Then, with each item met at most once, xs are no more than ys.
  pub met_few : (xs : List X) (ys : List Y) → All (λ x. any (t x) ys ≡ true) xs → ((y : Y) → In y ys → met xs y ≤ 1) → length xs ≤ length ys
  met_few xs ys a most = omega (arith, met_least xs ys a, sum_most (met xs) ys most)

  -- And with lists as long each is met exactly once.
  pub met_once : (xs : List X) (ys : List Y) → All (λ x. any (t x) ys ≡ true) xs → ((y : Y) → In y ys → met xs y ≤ 1) → length xs ≡ length ys
      → (y : Y) → In y ys → met xs y ≡ 1
  met_once xs ys a most l = sum_tight (met xs) ys most (omega (arith, met_least xs ys a))
