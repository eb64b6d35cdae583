use Rattle.flows.proofs.Largest.{largest_flow_lem}
use Rattle.flows.proofs.largest_flow.Goals as goal

pub returns : goal.returns
returns c = largest_flow_lem
