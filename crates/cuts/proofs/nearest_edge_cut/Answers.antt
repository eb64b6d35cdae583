use Rattle.cuts.proofs.EdgeNearest.{nearest_edge_cut_laws}
use Rattle.cuts.proofs.nearest_edge_cut.Goals as goal

pub returns : goal.returns
returns c = nearest_edge_cut_laws
