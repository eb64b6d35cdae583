use Rattle.model.proofs.Replies.{exactly_when}
use Rattle.model.proofs.accepted_exactly_when.Goals as goal

pub returns : goal.returns
returns c = exactly_when
