use Rattle.cuts.proofs.RouteMost.{no_more_vertex_routes_lem}
use Rattle.cuts.proofs.no_more_vertex_routes.Goals as goal

pub returns : goal.returns
returns c = no_more_vertex_routes_lem
