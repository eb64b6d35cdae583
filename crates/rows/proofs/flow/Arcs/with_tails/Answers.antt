use Rattle.rows.specs.Marks.{marked}
use Rattle.rows.proofs.Heads.{none_added}
use Rattle.rows.proofs.flow.Arcs.with_tails.Goals as goal

-- A row that is not there has no tails.
pub returns-else-p-self : goal.returns-else-p-self
returns-else-p-self c q = none_added c.args.self.now q c.args.p (marked c.args.set.now q) c.if-p-self.false
