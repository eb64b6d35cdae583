use Rattle.strength.proofs.Refuted.{seven_refutes_lem}
use Rattle.strength.proofs.seven_refutes.Goals as goal

pub returns : goal.returns
returns c = seven_refutes_lem
