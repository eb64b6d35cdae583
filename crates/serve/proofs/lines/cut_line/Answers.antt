use Rattle.std.proofs.Common.{◌+◌, ◌-◌, length, drop, sym, ◌∙◌, arith, length-drop}
use Rattle.std.proofs.lemmas.List.{take_all}
use Rattle.serve.proofs.Splits.{ended, unended}
use Rattle.serve.proofs.lines.cut_line.Goals as goal

pub returns-in-Some-clause-cut : goal.returns-in-Some-clause-cut
returns-in-Some-clause-cut c =
    let xs = c.args.input.now in
    let from = c.in-Some.end + 1 in
    rw (take_all (length xs - from) (drop from xs) (omega (arith, length-drop from xs))) (ended xs c.in-Some.end (sym c.line_end.ensures ∙ c.in-Some.is))

pub returns-in-None-clause-cut : goal.returns-in-None-clause-cut
returns-in-None-clause-cut c =
    rw (c.split_at.ensures.front, c.split_at.ensures.back) (unended c.args.input.now c.requires (sym c.line_end.ensures ∙ c.in-None.is))
