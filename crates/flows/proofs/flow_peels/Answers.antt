use Rattle.flows.proofs.Peel.{flow_peels_lem}
use Rattle.flows.proofs.flow_peels.Goals as goal

pub returns : goal.returns
returns c = flow_peels_lem
