use Rattle.graph.proofs.Edges.{one_edge_less_lem}
use Rattle.graph.proofs.one_edge_less.Goals as goal

pub returns : goal.returns
returns c = one_edge_less_lem
