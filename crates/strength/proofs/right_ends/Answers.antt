use Rattle.strength.proofs.Ends.{right_ends_lem}
use Rattle.strength.proofs.right_ends.Goals as goal

pub returns : goal.returns
returns c = right_ends_lem
