use Rattle.std.proofs.Common.{◌∙◌, ap₂}
use Rattle.grid.specs.Rows.{grid}
use Rattle.grid.proofs.Wipes.{wiped_empty}
use Rattle.grid.proofs.editing.GridEditable.make.Goals as goal

pub returns-clause-graph : goal.returns-clause-graph
returns-clause-graph c = ap₂ grid c.over.ensures.order c.over.ensures.words ∙ wiped_empty c.args.n c.args.memory.now
