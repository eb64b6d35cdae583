use Rattle.cuts.proofs.Parting.{vertex_cut_by_routes_lem}
use Rattle.cuts.proofs.vertex_cut_by_routes.Goals as goal

pub returns : goal.returns
returns c = vertex_cut_by_routes_lem
