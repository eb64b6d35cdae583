use Rattle.std.proofs.Common.{◌∙◌}
use Rattle.rows.proofs.Heads.{tails_found}
use Rattle.rows.proofs.flow.Arcs.tail_in_row.Goals as goal

pub returns : goal.returns
returns c = c.next.ensures ∙ tails_found c.args.self.now c.row.result.now c.args.p c.args.w c.row.ensures.size c.row.ensures.bits
