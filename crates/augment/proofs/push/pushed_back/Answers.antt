use Rattle.augment.proofs.PushBacks.{pushed_is_back}
use Rattle.augment.proofs.push.pushed_back.Goals as goal

pub returns : goal.returns
returns c = pushed_is_back
