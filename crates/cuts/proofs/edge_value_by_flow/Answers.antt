use Rattle.cuts.proofs.EdgeNearest.{edge_value_by_flow_lem}
use Rattle.cuts.proofs.edge_value_by_flow.Goals as goal

pub returns : goal.returns
returns c = edge_value_by_flow_lem
