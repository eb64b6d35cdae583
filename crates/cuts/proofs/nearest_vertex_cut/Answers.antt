use Rattle.cuts.proofs.VertexFlow.{nearest_cut}
use Rattle.cuts.proofs.nearest_vertex_cut.Goals as goal

pub returns : goal.returns
returns c = nearest_cut
