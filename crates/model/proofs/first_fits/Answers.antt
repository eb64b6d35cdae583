use Rattle.model.proofs.Replies.{first_fits_lem}
use Rattle.model.proofs.first_fits.Goals as goal

pub returns : goal.returns
returns c = first_fits_lem
