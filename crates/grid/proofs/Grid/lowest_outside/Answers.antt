use Rattle.std.proofs.Common.{◌*◌, ap, length, ◌∙◌, arith}
use Rattle.std.proofs.lemmas.List.Edits.{length-between}
use Rattle.rows.specs.Marks.{marked}
use Rattle.grid.specs.Rows.{vertex_words, row_end}
use Rattle.grid.proofs.Spans.{part_outside, grid_outside}
use Rattle.grid.proofs.Whole.{simple_of}
use Rattle.grid.proofs.Grid.lowest_outside.Goals as goal

pub next_outside-requires : goal.next_outside-requires
next_outside-requires c =
    let s = c.args.self.now in
    omega (arith, ap length c.row.ensures, length-between s.words.now (vertex_words * c.args.u) (row_end c.args.u) (omega (arith, s.room)))

pub returns-clause-value : goal.returns-clause-value
returns-clause-value c =
    let s = c.args.self.now in
    let m = marked c.args.set.now in
    c.next_outside.ensures ∙ part_outside s.words.now c.row.result.now c.args.u (omega (arith, s.room)) c.row.ensures m c.args.w
    ∙ grid_outside s.n s.words.now (simple_of s) c.args.u c.requires m c.args.w
