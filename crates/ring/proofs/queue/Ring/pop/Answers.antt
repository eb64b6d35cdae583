use Rattle.std.proofs.Common.{◌≡◌, ℕ, zero, suc, ◌-◌, ◌<◌, List, ◌∷◌, take, arith}
use Rattle.std.proofs.lemmas.Grind.{common_steps}
use Rattle.ring.specs.Items.{ring_items}
use Rattle.ring.proofs.queue.Ring.pop.Goals as goal

-- After the head moves on, the ring holds one item less.
pub invariant_of-self : goal.invariant_of-self
unfolding ring_items
invariant_of-self g c = (grind arith, λ h. grind (arith, common_steps), grind (arith, common_steps))

-- The first of some elements of a list that is not empty.
take_cons : {X : Type 0} (n : ℕ) (y : X) (ys : List X) → 0 < n → take n (y ∷ ys) ≡ y ∷ take (n - 1) ys
take_cons zero y ys p = absurd (omega arith)
take_cons (suc n) y ys p = let e : suc n - 1 ≡ n = omega arith in rw e

-- The item that the head left stood in front of the rest.
pub returns-clause-items : goal.returns-clause-items
unfolding ring_items
returns-clause-items g c = grind (arith, common_steps, take_cons)
