use Rattle.std.proofs.Common.{◌∙◌, arith}
use Rattle.grid.proofs.Spans.{part_count, grid_degree}
use Rattle.grid.proofs.Whole.{simple_of}
use Rattle.grid.proofs.Grid.count.Goals as goal

pub returns-clause-value : goal.returns-clause-value
returns-clause-value c =
    let s = c.args.self.now in
    c.row_count.ensures ∙ part_count s.words.now c.row.result.now c.args.u (omega (arith, s.room)) c.row.ensures ∙ grid_degree s.n s.words.now (simple_of s) c.args.u c.requires
