use Rattle.law.proofs.Events.{begun_lem}
use Rattle.law.proofs.begun.Goals as goal

pub returns : goal.returns
returns c = begun_lem
