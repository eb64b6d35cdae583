-- Each number passed is in the set, or no arc leads to it, and the plan is as it was.
use Rattle.std.proofs.Common.{◌≡◌, ◌-◌}
use Rattle.graph.proofs.Leaps.{Scan}
use Rattle.rows.specs.Marks.{marked, fresh}
use Rattle.plan.proofs.Plan.arc_outside.Given as goal

abbrev pub invariant-loop-q : goal.invariant-loop-q
invariant-loop-q g l = (l.self ≡ l.initial.self) × Scan (fresh (marked l.set) ((g.Self.Plan.digraph l.initial.self).arc l.p)) l.w l.from

abbrev pub decreases-loop-q : goal.decreases-loop-q
decreases-loop-q g l = (g.Self.Plan.digraph l.initial.self).nodes - l.from
