use Rattle.cuts.proofs.RouteMeets.{each_edge_on_one_route_lem}
use Rattle.cuts.proofs.each_edge_on_one_route.Goals as goal

pub returns : goal.returns
returns c = each_edge_on_one_route_lem
