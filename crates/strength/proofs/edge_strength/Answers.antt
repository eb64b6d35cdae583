use Rattle.strength.proofs.EdgeComputed.{edge_strength_lem}
use Rattle.strength.proofs.edge_strength.Goals as goal

pub returns : goal.returns
returns c = edge_strength_lem
