use Rattle.cuts.proofs.Parting.{edge_cut_by_routes_lem}
use Rattle.cuts.proofs.edge_cut_by_routes.Goals as goal

pub returns : goal.returns
returns c = edge_cut_by_routes_lem
