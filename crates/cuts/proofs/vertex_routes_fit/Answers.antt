use Rattle.cuts.proofs.RouteEnds.{vertex_routes_fit_lem}
use Rattle.cuts.proofs.vertex_routes_fit.Goals as goal

pub returns : goal.returns
returns c = vertex_routes_fit_lem
