-- What is written so far is what the rows passed give.
use Rattle.std.proofs.Common.{◌≡◌}
use Rattle.rows.specs.Marks.{marked}
use Rattle.plan.specs.Writing.{crossing_row}
use Rattle.plan.proofs.Placing.{gathered, Written}
use Rattle.plan.proofs.line.Line.write_rows.Given as goal

abbrev pub invariant-loop-u : goal.invariant-loop-u
invariant-loop-u g l =
    (l.self ≡ l.initial.self)
    × (l.cut.slots.ghost_name ≡ l.initial.cut.slots.ghost_name)
    × Written l.initial.cut.slots.now l.cut.slots.now l.initial.cut.len l.cut.len (gathered (crossing_row (g.M.Map.graph l.initial.self.map) (marked l.marks)) l.u)
