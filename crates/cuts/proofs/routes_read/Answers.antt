use Rattle.cuts.proofs.RouteBytes.{routes_read_lem}
use Rattle.cuts.proofs.routes_read.Goals as goal

pub returns : goal.returns
returns c = routes_read_lem
