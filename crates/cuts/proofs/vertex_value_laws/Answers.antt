use Rattle.cuts.proofs.VertexLaws.{vertex_value_laws_lem}
use Rattle.cuts.proofs.vertex_value_laws.Goals as goal

pub returns : goal.returns
returns c = vertex_value_laws_lem
