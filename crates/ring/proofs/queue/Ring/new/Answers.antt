use Rattle.std.proofs.Common.{arith}
use Rattle.std.proofs.lemmas.Grind.{common_steps}
use Rattle.ring.specs.Items.{ring_items}
use Rattle.ring.proofs.queue.Ring.new.Goals as goal

-- Where no item is counted, none is held.
pub invariant_of-result : goal.invariant_of-result
unfolding ring_items
invariant_of-result g c = (omega arith, λ h. h, grind (arith, common_steps))

pub returns-clause-items : goal.returns-clause-items
unfolding ring_items
returns-clause-items g c = grind (arith, common_steps)
