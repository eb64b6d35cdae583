use Rattle.strength.proofs.VertexFound.{vertex_cut_parts_lem}
use Rattle.strength.proofs.vertex_cut_parts.Goals as goal

pub returns : goal.returns
returns c = vertex_cut_parts_lem
