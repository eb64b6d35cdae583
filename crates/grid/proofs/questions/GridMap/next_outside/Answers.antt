use Rattle.rows.specs.Marks.{marked}
use Rattle.grid.specs.Meaning.{graph_of}
use Rattle.grid.proofs.Spans.{outside_none}
use Rattle.grid.proofs.Whole.{simple_of}
use Rattle.grid.proofs.questions.GridMap.next_outside.Goals as goal

pub returns-else-u-self-clause-value : goal.returns-else-u-self-clause-value
returns-else-u-self-clause-value c = let s = c.args.self.now in outside_none (graph_of s) (simple_of s) (marked c.args.set.now) c.args.u c.args.w c.if-u-self.false
