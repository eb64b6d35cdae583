use Rattle.strength.proofs.VertexFew.{vertex_pair_lem}
use Rattle.strength.proofs.vertex_pair.Goals as goal

pub returns : goal.returns
returns c = vertex_pair_lem
