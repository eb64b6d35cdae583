-- Items of lists: images, and the least number.
use Rattle.std.proofs.Common.{◌≡◌, ℕ, ◌≤◌, min, ◌⊎◌, List, [], ◌∷◌, map, sym, refl, ap, ◌∙◌, subst, inl, inr, arith}
use Rattle.std.proofs.lemmas.Bool.{cases_lt}
use Rattle.cuts.specs.Choices.{In, least}

-- The image of an item stands in the image of a list.
pub item_map : {X Y : Type 0} (f : X → Y) (x : X) (xs : List X) → In x xs → In (f x) (map f xs)
item_map f x [] h = absurd h
item_map f x (z ∷ xs) h = elim h [ inl e ↦ inl (ap f e) | inr k ↦ inr (item_map f x xs k) ]

-- What stands in an image of a list is the image of an item.
pub map_item : {X Y : Type 0} (f : X → Y) (y : Y) (xs : List X) → In y (map f xs) → (x : X) × In x xs × (y ≡ f x)
map_item f y [] h = absurd h
map_item f y (z ∷ xs) h =
    elim h [ inl e ↦ (z, inl refl, e) | inr k ↦ (let r = map_item f y xs k in (r.0, inr r.1, r.2)) ]

-- The least is no more than the default.
pub least_default : (d : ℕ) (xs : List ℕ) → least d xs ≤ d
unfolding least
least_default d [] = omega arith
least_default d (x ∷ xs) = omega (arith, least_default d xs)

-- It is no more than each item.
pub least_item : (d x : ℕ) (xs : List ℕ) → In x xs → least d xs ≤ x
unfolding least
least_item d x [] h = absurd h
least_item d x (z ∷ xs) h = elim h [ inl e ↦ omega arith | inr k ↦ omega (arith, least_item d x xs k) ]

-- And it is one of them.
pub least_is : (d : ℕ) (xs : List ℕ) → (least d xs ≡ d) ⊎ In (least d xs) xs
unfolding least
least_is d [] = inl refl
least_is d (x ∷ xs) =
    elim (cases_lt x (least d xs)) [
      | inl l ↦ inr (inl (let e : min x (least d xs) ≡ x = omega arith in e))
      | inr l ↦
          (let e : min x (least d xs) ≡ least d xs = omega arith in
          elim (least_is d xs) [ inl k ↦ inl (e ∙ k) | inr k ↦ inr (inr (subst (λ (y : ℕ). In y xs) (sym e) k)) ])
    ]
