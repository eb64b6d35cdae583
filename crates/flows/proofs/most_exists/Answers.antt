use Rattle.flows.proofs.Most.{most_exists_lem}
use Rattle.flows.proofs.most_exists.Goals as goal

pub returns : goal.returns
returns c = most_exists_lem
