use Rattle.cuts.proofs.RouteInner.{sharing_by_inner_lem}
use Rattle.cuts.proofs.sharing_by_inner.Goals as goal

pub returns : goal.returns
returns c = sharing_by_inner_lem
