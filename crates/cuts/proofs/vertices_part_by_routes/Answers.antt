use Rattle.cuts.proofs.Parting.{vertices_part_by_routes_lem}
use Rattle.cuts.proofs.vertices_part_by_routes.Goals as goal

pub returns : goal.returns
returns c = vertices_part_by_routes_lem
