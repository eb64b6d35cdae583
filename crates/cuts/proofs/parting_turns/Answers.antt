use Rattle.cuts.proofs.Parting.{parting_turns_lem}
use Rattle.cuts.proofs.parting_turns.Goals as goal

pub returns : goal.returns
returns c = parting_turns_lem
