-- The nodes passed so far are no heads.
use Rattle.graph.proofs.Leaps.{Scan}
use Rattle.rows.specs.Flow.{carried}
use Rattle.routes.proofs.route.next_head.Given as goal

abbrev pub invariant-loop-q : goal.invariant-loop-q
invariant-loop-q l = Scan (carried l.flow l.p) l.w l.q
