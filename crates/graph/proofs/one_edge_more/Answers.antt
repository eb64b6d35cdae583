use Rattle.graph.proofs.Edges.{one_edge_more_lem}
use Rattle.graph.proofs.one_edge_more.Goals as goal

pub returns : goal.returns
returns c = one_edge_more_lem
