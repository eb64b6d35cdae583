use Rattle.std.proofs.Common.{◌∙◌}
use Rattle.rows.proofs.Shared.{tails_there}
use Rattle.rows.proofs.flow.shared.SharedArcs.tail_in_row.Goals as goal

pub returns : goal.returns
returns c = c.next.ensures ∙ tails_there c.args.self.now.words.now c.row.result.now c.args.p c.args.w c.row.ensures.size c.row.ensures.bits
