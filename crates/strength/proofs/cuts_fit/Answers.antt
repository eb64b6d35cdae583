use Rattle.strength.proofs.CutsFit.{cuts_fit}
use Rattle.strength.proofs.cuts_fit.Goals as goal

pub returns : goal.returns
returns c = cuts_fit
