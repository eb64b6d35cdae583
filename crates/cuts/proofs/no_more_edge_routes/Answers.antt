use Rattle.cuts.proofs.RouteMost.{no_more_edge_routes_lem}
use Rattle.cuts.proofs.no_more_edge_routes.Goals as goal

pub returns : goal.returns
returns c = no_more_edge_routes_lem
