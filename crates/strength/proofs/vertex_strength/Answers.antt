use Rattle.strength.proofs.VertexStrength.{vertex_strength_lem}
use Rattle.strength.proofs.vertex_strength.Goals as goal

pub returns : goal.returns
returns c = vertex_strength_lem
