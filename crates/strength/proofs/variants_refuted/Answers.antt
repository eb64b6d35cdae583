use Rattle.strength.proofs.Refuted.{variants_refuted_lem}
use Rattle.strength.proofs.variants_refuted.Goals as goal

pub returns : goal.returns
returns c = variants_refuted_lem
