use Rattle.flows.proofs.Routes.{reached_by_route_lem}
use Rattle.flows.proofs.reached_by_route.Goals as goal

pub returns : goal.returns
returns c = reached_by_route_lem
