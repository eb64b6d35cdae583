-- Each number passed was marked, or the flow does not lead from it to p.
use Rattle.std.proofs.Common.{◌-◌}
use Rattle.flows.specs.Flow.{back}
use Rattle.rows.specs.Marks.{marked, fresh}
use Rattle.graph.proofs.Leaps.{Scan}
use Rattle.search.proofs.steps.next_back.Given as goal

abbrev pub invariant-loop-q : goal.invariant-loop-q
invariant-loop-q g l = Scan (fresh (marked l.marks) (back (g.F.Carries.arcs l.flow) l.p)) l.w l.v

abbrev pub decreases-loop-q : goal.decreases-loop-q
decreases-loop-q g l = l.n - l.v
