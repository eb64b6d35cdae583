-- Each number passed is in the set, or no neighbour, and the store is as it was.
use Rattle.std.proofs.Common.{◌≡◌, ◌-◌}
use Rattle.graph.proofs.Leaps.{Scan}
use Rattle.rows.specs.Marks.{marked, fresh}
use Rattle.store.proofs.Map.next_outside.Given as goal

abbrev pub invariant-loop-v : goal.invariant-loop-v
invariant-loop-v g l = (l.self ≡ l.initial.self) × Scan (fresh (marked l.set) ((g.Self.Map.graph l.initial.self).joined l.u)) l.w l.from

abbrev pub decreases-loop-v : goal.decreases-loop-v
decreases-loop-v g l = (g.Self.Map.graph l.initial.self).order - l.from
