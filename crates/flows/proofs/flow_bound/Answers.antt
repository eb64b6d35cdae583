use Rattle.flows.proofs.Largest.{flow_bound_lem}
use Rattle.flows.proofs.flow_bound.Goals as goal

pub returns : goal.returns
returns c = flow_bound_lem
