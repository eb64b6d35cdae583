use Rattle.strength.proofs.VertexFound.{vertex_runs_true_lem}
use Rattle.strength.proofs.vertex_runs_true.Goals as goal

pub returns : goal.returns
returns c = vertex_runs_true_lem
