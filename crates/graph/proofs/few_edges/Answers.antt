use Rattle.graph.proofs.Edges.{few_edges_lem}
use Rattle.graph.proofs.few_edges.Goals as goal

pub returns : goal.returns
returns c = few_edges_lem
