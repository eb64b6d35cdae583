use Rattle.grid.specs.Meaning.{graph_of}
use Rattle.grid.proofs.Spans.{outside_degree}
use Rattle.grid.proofs.Whole.{simple_of}
use Rattle.grid.proofs.questions.GridMap.degree.Goals as goal

pub returns-else-u-self-clause-value : goal.returns-else-u-self-clause-value
returns-else-u-self-clause-value c = let s = c.args.self.now in outside_degree (graph_of s) (simple_of s) c.args.u c.if-u-self.false
