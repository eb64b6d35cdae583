use Rattle.strength.proofs.RunsFit.{runs_fit}
use Rattle.strength.proofs.runs_fit.Goals as goal

pub returns : goal.returns
returns c = runs_fit
