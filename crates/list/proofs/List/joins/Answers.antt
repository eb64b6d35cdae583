use Rattle.std.proofs.Common.{ap, ◌∙◌, arith, tests}
use Rattle.list.specs.Cells.{holds}
use Rattle.list.specs.Meaning.{codes_of}
use Rattle.list.proofs.Searches.{finds}
use Rattle.list.proofs.List.joins.Goals as goal

pub returns-then-is_ok : goal.returns-then-is_ok
returns-then-is_ok c =
    let s = c.args.self.now in
    let xs = codes_of s in
    c.is_ok-then-is_ok.ensures.value
    ∙ finds s.count xs c.used.result.now c.used.ensures s.fits s.rising c.edge_code.result c.binary_search.result c.binary_search.ensures.position
    ∙ ap (holds s.count xs) c.edge_code.ensures
    ∙ grind (arith, tests, c.is_ok.ensures.value, c.if-is_ok.true, c.check_ends.ensures)
