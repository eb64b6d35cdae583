use Rattle.model.proofs.Replies.{order_ascends_lem}
use Rattle.model.proofs.order_ascends.Goals as goal

pub returns : goal.returns
returns c = order_ascends_lem
