use Rattle.strength.proofs.EdgeRuns.{few_edge_runs_lem}
use Rattle.strength.proofs.few_edge_runs.Goals as goal

pub returns : goal.returns
returns c = few_edge_runs_lem
