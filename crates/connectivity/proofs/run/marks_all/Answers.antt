use Rattle.std.proofs.Common.{◌≡◌, Bool, true, false, not, sym, refl, ap, ◌∙◌}
use Rattle.std.specs.Option.{is_none}
use Rattle.rows.specs.Marks.{marked}
use Rattle.connectivity.proofs.Ends.{none_open}
use Rattle.connectivity.proofs.run.marks_all.Goals as goal

-- Turned twice.
turned : (b : Bool) → b ≡ not (not b)
turned true = refl
turned false = refl

-- None is found exactly where all are marked.
pub returns-clause-all : goal.returns-clause-all
returns-clause-all g c =
    let e : c.is_none.result ≡ is_none c.next_unmarked.result = turned c.is_none.result ∙ sym (ap not c.is_none.ensures) in
    rw (← c.node_count-n.ensures.value, e)
    (none_open (marked c.args.marks.now) c.node_count-n.result c.next_unmarked.result c.next_unmarked.ensures)
