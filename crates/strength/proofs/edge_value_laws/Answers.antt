use Rattle.strength.proofs.EdgeComputed.{edge_value_laws_lem}
use Rattle.strength.proofs.edge_value_laws.Goals as goal

pub returns : goal.returns
returns c = edge_value_laws_lem
