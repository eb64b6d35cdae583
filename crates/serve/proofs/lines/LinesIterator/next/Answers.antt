use Rattle.std.proofs.Common.{refl, rules}
use Rattle.serve.proofs.Splits.{lines_none}
use Rattle.serve.proofs.lines.LinesIterator.next.Goals as goal

pub returns-then-is_empty-clause-steps : goal.returns-then-is_empty-clause-steps
returns-then-is_empty-clause-steps c = (lines_none c.args.self.now.rest.now (search rules), refl)
