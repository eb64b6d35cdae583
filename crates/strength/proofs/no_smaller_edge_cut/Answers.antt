use Rattle.strength.proofs.EdgeComputed.{no_smaller_edge_cut_lem}
use Rattle.strength.proofs.no_smaller_edge_cut.Goals as goal

pub returns : goal.returns
returns c = no_smaller_edge_cut_lem
