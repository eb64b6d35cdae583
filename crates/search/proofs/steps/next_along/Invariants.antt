-- Each number passed was marked, or no arc with room leads to it from p.
use Rattle.std.proofs.Common.{◌≡◌, ◌-◌}
use Rattle.rows.specs.Marks.{marked, fresh}
use Rattle.search.specs.Steps.{along}
use Rattle.graph.proofs.Leaps.{Scan}
use Rattle.search.proofs.steps.next_along.Given as goal

abbrev pub invariant-loop-q : goal.invariant-loop-q
invariant-loop-q g l =
    (l.plan ≡ l.initial.plan)
    × Scan (fresh (marked l.marks) (along (g.P.Plan.digraph l.initial.plan) (g.F.Carries.arcs l.flow) l.p)) l.w l.v

abbrev pub decreases-loop-q : goal.decreases-loop-q
decreases-loop-q g l = (g.P.Plan.digraph l.initial.plan).nodes - l.v
