use Rattle.strength.proofs.Mapped.{check_maps_hold_lem}
use Rattle.strength.proofs.check_maps_hold.Goals as goal

pub returns : goal.returns
returns c = check_maps_hold_lem
