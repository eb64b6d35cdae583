use Rattle.std.proofs.Common.{◌∙◌, arith}
use Rattle.grid.proofs.Spans.{part_first, grid_next}
use Rattle.grid.proofs.Whole.{simple_of}
use Rattle.grid.proofs.Grid.lowest.Goals as goal

pub returns-clause-value : goal.returns-clause-value
returns-clause-value c =
    let s = c.args.self.now in
    c.next.ensures ∙ part_first s.words.now c.row.result.now c.args.u (omega (arith, s.room)) c.row.ensures c.args.w ∙ grid_next s.n s.words.now (simple_of s) c.args.u c.requires c.args.w
