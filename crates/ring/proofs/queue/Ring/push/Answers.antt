use Rattle.std.proofs.Common.{arith, length-set}
use lib.Seq.{drop-set-add}
use Rattle.std.proofs.lemmas.Grind.{common_steps}
use Rattle.std.proofs.lemmas.List.{take_more_set}
use Rattle.ring.specs.Items.{ring_items}
use Rattle.ring.proofs.queue.Ring.push.Goals as goal

-- After an item is put in the slot behind the last one, the ring holds one more.
pub invariant_of-self : goal.invariant_of-self
unfolding ring_items
invariant_of-self g c =
    (grind (arith, length-set), λ h. grind (arith, common_steps), grind (arith, common_steps))

-- It stands at the end.
pub returns-clause-items : goal.returns-clause-items
unfolding ring_items
returns-clause-items g c = grind (arith, common_steps, drop-set-add, take_more_set)
