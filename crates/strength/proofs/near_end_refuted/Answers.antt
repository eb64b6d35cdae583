use Rattle.strength.proofs.Refuted.{near_end_refuted_lem}
use Rattle.strength.proofs.near_end_refuted.Goals as goal

pub returns : goal.returns
returns c = near_end_refuted_lem
