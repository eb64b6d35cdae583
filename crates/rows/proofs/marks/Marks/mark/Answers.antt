use Rattle.rows.proofs.Sets.{marked_with}
use Rattle.rows.proofs.marks.Marks.mark.Goals as goal

pub returns-then-p-lt-SET_LIMIT-clause-marks : goal.returns-then-p-lt-SET_LIMIT-clause-marks
returns-then-p-lt-SET_LIMIT-clause-marks c = λ l. marked_with c.args.self.now _ c.args.p l c.set.ensures.bits
