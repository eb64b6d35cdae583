-- The nodes back from a node, read one at a time.
use Rattle.std.proofs.Common.{◌≡◌, ℕ, suc, List, [], ◌∷◌, get_or, arith}
use Rattle.std.proofs.lemmas.Grind.{common_steps}
use Rattle.augment.specs.Trails.{walk_back}

-- At s there is no more to read.
pub back_last : (before : List ℕ) (s t n : ℕ) → t ≡ s → walk_back before s t (suc n) ≡ t ∷ []
unfolding walk_back
back_last before s t n e = grind (arith, common_steps)

-- Elsewhere the noted node comes next.
pub back_next : (before : List ℕ) (s t n : ℕ) → (t ≡ s → ⊥) → walk_back before s t (suc n) ≡ t ∷ walk_back before s (get_or before t 0) n
unfolding walk_back
back_next before s t n d = grind (arith, common_steps)
