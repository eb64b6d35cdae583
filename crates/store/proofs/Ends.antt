-- What it says that two numbers passed the check of two vertices.
use Rattle.std.proofs.Common.{◌≡◌, ℕ, ◌<◌, Ok, arith, tests}
use Rattle.store.specs.Ends.{ends_reply}

-- They are two different vertices.
pub ends_passed : (n u v : ℕ) → Ok tt ≡ ends_reply n u v → (u < n) × (v < n) × (u ≡ v → ⊥)
ends_passed n u v ok = (grind (arith, tests), grind (arith, tests), λ same. grind (arith, tests))
