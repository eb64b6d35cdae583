use Rattle.strength.proofs.VertexStrength.{no_smaller}
use Rattle.strength.proofs.no_smaller_vertex_cut.Goals as goal

pub returns : goal.returns
returns c = no_smaller
