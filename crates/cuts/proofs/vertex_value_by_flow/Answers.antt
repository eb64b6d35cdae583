use Rattle.cuts.proofs.VertexFlow.{vertex_value_by_flow_lem}
use Rattle.cuts.proofs.vertex_value_by_flow.Goals as goal

pub returns : goal.returns
returns c = vertex_value_by_flow_lem
