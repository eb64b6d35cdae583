use Rattle.flows.proofs.Push.{push_adds_one_lem}
use Rattle.flows.proofs.push_adds_one.Goals as goal

pub returns : goal.returns
returns c = push_adds_one_lem
