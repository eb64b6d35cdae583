use Rattle.model.proofs.Replies.{smallest_first_lem}
use Rattle.model.proofs.smallest_first.Goals as goal

pub returns : goal.returns
returns c = smallest_first_lem
