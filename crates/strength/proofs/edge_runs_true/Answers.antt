use Rattle.strength.proofs.EdgeComputed.{edge_runs_true_lem}
use Rattle.strength.proofs.edge_runs_true.Goals as goal

pub returns : goal.returns
returns c = edge_runs_true_lem
