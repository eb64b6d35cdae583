use Rattle.strength.proofs.Refuted.{hub_refutes_lem}
use Rattle.strength.proofs.hub_refutes.Goals as goal

pub returns : goal.returns
returns c = hub_refutes_lem
