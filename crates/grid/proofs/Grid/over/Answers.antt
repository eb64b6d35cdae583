use Rattle.std.proofs.Common.{◌≡◌, ◌*◌, ◌≤◌, length, sym, ap, ◌∙◌, subst, arith}
use Rattle.graph.specs.Graph.{Simple, empty}
use Rattle.grid.specs.Rows.{grid}
use Rattle.grid.proofs.Wipes.{wiped_empty, empty_simple, wiped_length}
use Rattle.grid.proofs.Grid.over.Goals as goal

pub invariant_of-result : goal.invariant_of-result
invariant_of-result c =
    let n = c.args.n in
    let xs = c.args.memory.now in
    let words = c.wipe_rows.new.words in
    let none : grid n words ≡ empty n = ap (grid n) c.wipe_rows.ensures ∙ wiped_empty n xs in
    let simple = subst Simple (sym none) (empty_simple n (omega arith) (omega arith)) in
    let room : 4 * n ≤ length words = omega (arith, ap length c.wipe_rows.ensures, wiped_length n xs (omega arith)) in
    record { some = simple.some; small = c.requires.1.0; room = room; even = simple.symmetric; loose = simple.irreflexive; within = simple.bounded }
