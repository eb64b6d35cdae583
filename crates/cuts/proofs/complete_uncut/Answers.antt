use Rattle.cuts.proofs.Parting.{complete_uncut_lem}
use Rattle.cuts.proofs.complete_uncut.Goals as goal

pub returns : goal.returns
returns c = complete_uncut_lem
