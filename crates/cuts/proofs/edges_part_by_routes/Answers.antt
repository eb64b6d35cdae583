use Rattle.cuts.proofs.Parting.{edges_part_by_routes_lem}
use Rattle.cuts.proofs.edges_part_by_routes.Goals as goal

pub returns : goal.returns
returns c = edges_part_by_routes_lem
