-- What is written so far is what the pairs passed give.
use Rattle.std.proofs.Common.{◌≡◌, ◌-◌, ◌<◌, ◌≤◌}
use Rattle.rows.specs.Marks.{marked}
use Rattle.plan.proofs.Cuts.{row_at}
use Rattle.plan.proofs.Placing.{gathered, Written}
use Rattle.plan.proofs.line.Line.write_row.Given as goal

abbrev pub invariant-loop-v : goal.invariant-loop-v
invariant-loop-v g l =
    (l.self ≡ l.initial.self)
    × (l.u < l.w)
    × (l.w ≤ l.n)
    × (l.cut.slots.ghost_name ≡ l.initial.cut.slots.ghost_name)
    × Written l.initial.cut.slots.now l.cut.slots.now l.initial.cut.len l.cut.len (gathered (row_at (g.M.Map.graph l.initial.self.map) (marked l.marks) l.u) l.w)

abbrev pub decreases-loop-v : goal.decreases-loop-v
decreases-loop-v g l = l.n - l.w
