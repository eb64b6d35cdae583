use Rattle.std.proofs.Common.{◌∙◌, arith}
use Rattle.rows.proofs.Sets.{nodes_found}
use Rattle.rows.proofs.marks.Marks.lowest.Goals as goal

pub returns : goal.returns
returns c = c.next.ensures ∙ nodes_found c.args.self.now c.args.seen c.args.w (omega arith)
