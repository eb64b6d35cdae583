use Rattle.strength.proofs.VertexFew.{few_runs}
use Rattle.strength.proofs.few_vertex_runs.Goals as goal

pub returns : goal.returns
returns c = few_runs
