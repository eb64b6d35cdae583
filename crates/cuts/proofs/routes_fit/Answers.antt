use Rattle.cuts.proofs.RouteFits.{routes_fit_lem}
use Rattle.cuts.proofs.routes_fit.Goals as goal

pub returns : goal.returns
returns c = routes_fit_lem
