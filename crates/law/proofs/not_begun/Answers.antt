use Rattle.law.proofs.Events.{not_begun_lem}
use Rattle.law.proofs.not_begun.Goals as goal

pub returns : goal.returns
returns c = not_begun_lem
