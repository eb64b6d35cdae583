use Rattle.grid.proofs.Wipes.{rest_stays_lem}
use Rattle.grid.proofs.rest_stays.Goals as goal

pub returns : goal.returns
returns c = rest_stays_lem
