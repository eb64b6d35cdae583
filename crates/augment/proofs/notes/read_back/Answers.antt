use Rattle.augment.proofs.Trails.{trail_is}
use Rattle.augment.proofs.notes.read_back.Goals as goal

pub returns : goal.returns
returns c = trail_is
