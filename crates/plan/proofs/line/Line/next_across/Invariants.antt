-- Up to where the row has been looked at, no neighbour is on the other side.
use Rattle.std.proofs.Common.{◌≡◌, ◌-◌}
use Rattle.graph.proofs.Leaps.{Scan}
use Rattle.rows.specs.Marks.{marked}
use Rattle.plan.proofs.Cuts.{across}
use Rattle.plan.proofs.line.Line.next_across.Given as goal

abbrev pub invariant-loop-v : goal.invariant-loop-v
invariant-loop-v g l = (l.self ≡ l.initial.self) × Scan (across (g.M.Map.graph l.initial.self.map) (marked l.marks) l.u) l.w l.from

abbrev pub decreases-loop-v : goal.decreases-loop-v
decreases-loop-v g l = l.n - l.from
