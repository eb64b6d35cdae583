use Rattle.std.proofs.Common.{◌∙◌, arith}
use Rattle.rows.proofs.Sets.{outside_found}
use Rattle.rows.proofs.marks.Marks.next_outside.Goals as goal

pub returns : goal.returns
returns c = c.next_outside.ensures ∙ outside_found c.args.self.now c.args.words.now c.args.w _ (omega arith)
