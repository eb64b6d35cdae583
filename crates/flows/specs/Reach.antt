-- What is reached from a number by steps of a relation on the numbers below n.
--
--   spread             some numbers, and what is one step from them
--   rounds             a change done so many times
--   reached, reaches   what a number reaches; whether it reaches another
use Rattle.std.specs.Prelude.{ℕ, zero, suc, Bool, ◌||◌, List, [], ◌∷◌, filter}
use Rattle.flows.specs.Lists.{upto, any, among}

-- The numbers that are in s or one step from it. Kept as a list, so that it computes fast.
abbrev pub spread : ℕ → (ℕ → ℕ → Bool) → List ℕ → List ℕ
spread n r s = filter (λ v. among s v || any (λ u. r u v) s) (upto n)

unfoldable pub rounds : ℕ → (List ℕ → List ℕ) → List ℕ → List ℕ
rounds zero f s = s
rounds (suc k) f s = rounds k f (f s)

-- What a reaches: with n numbers, n rounds are enough.
unfoldable pub reached : ℕ → (ℕ → ℕ → Bool) → ℕ → List ℕ
reached n r a = rounds n (spread n r) (a ∷ [])

abbrev pub reaches : ℕ → (ℕ → ℕ → Bool) → ℕ → ℕ → Bool
reaches n r a b = among (reached n r a) b
