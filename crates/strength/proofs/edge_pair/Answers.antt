use Rattle.strength.proofs.EdgeComputed.{edge_pair_lem}
use Rattle.strength.proofs.edge_pair.Goals as goal

pub returns : goal.returns
returns c = edge_pair_lem
