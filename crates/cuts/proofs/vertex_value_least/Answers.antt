use Rattle.cuts.proofs.VertexAny.{vertex_value_least_lem}
use Rattle.cuts.proofs.vertex_value_least.Goals as goal

pub returns : goal.returns
returns c = vertex_value_least_lem
