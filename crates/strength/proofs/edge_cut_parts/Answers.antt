use Rattle.strength.proofs.EdgeComputed.{edge_cut_parts_lem}
use Rattle.strength.proofs.edge_cut_parts.Goals as goal

pub returns : goal.returns
returns c = edge_cut_parts_lem
