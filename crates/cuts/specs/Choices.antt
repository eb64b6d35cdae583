-- Choosing some items of a list.
--
--   choices      the sublists of a length, in order
--   In           an item stands in a list
--   smallest     the passing sublists of the least length that has any
--   innermost    the one whose side lies inside every other's
use Rattle.std.specs.Prelude.{◌≡◌, ℕ, zero, suc, min, Bool, cond, ◌⊎◌, List, [], ◌∷◌, ◌++◌, map, length, filter}
use Rattle.flows.specs.Lists.{all, among}

unfoldable pub choices : {X : Type 0} → ℕ → List X → List (List X)
choices zero xs = [] ∷ []
choices (suc k) [] = []
choices (suc k) (x ∷ xs) = map (λ ys. x ∷ ys) (choices k xs) ++ choices (suc k) xs

-- An item stands in a list.
abbrev pub In : {X : Type 0} → X → List X → Type 0
In x [] = ⊥
In x (y ∷ ys) = (x ≡ y) ⊎ In x ys

-- The first list if it has an item, else the second.
abbrev pub if_any : {X : Type 0} → List X → List X → List X
if_any [] ys = ys
if_any (x ∷ xs) ys = x ∷ xs

-- From length k up, d lengths more.
unfoldable pub smallest_from : {X : Type 0} → (List X → Bool) → List X → ℕ → ℕ → List (List X)
smallest_from p xs zero k = filter p (choices k xs)
smallest_from p xs (suc d) k = if_any (filter p (choices k xs)) (smallest_from p xs d (suc k))

abbrev pub smallest : {X : Type 0} → (List X → Bool) → List X → List (List X)
smallest p xs = smallest_from p xs (length xs) 0

-- The length of each of them; 0 if there is none.
abbrev pub size : {X : Type 0} → List (List X) → ℕ
size [] = 0
size (c ∷ cs) = length c

-- The first item that passes, or a default.
unfoldable pub find : {X : Type 0} → (X → Bool) → X → List X → X
find p d [] = d
find p d (x ∷ xs) = cond (p x) x (find p d xs)

abbrev pub inside : List ℕ → List ℕ → Bool
inside xs ys = all (among ys) xs

abbrev pub innermost : {X : Type 0} → (List X → List ℕ) → List (List X) → List X
innermost side cs = find (λ c. all (λ d. inside (side c) (side d)) cs) [] cs

-- The least of some numbers and a default.
unfoldable pub least : ℕ → List ℕ → ℕ
least d [] = d
least d (x ∷ xs) = min x (least d xs)
