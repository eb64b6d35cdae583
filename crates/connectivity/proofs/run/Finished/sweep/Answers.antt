-- The marks are the residual side of a largest flow, so the arcs that leave them are the nearest cut.
use Rattle.std.proofs.Common.{sym, ap, ◌∙◌}
use mathlib.Core.Path.{fun_ext}
use Rattle.rows.specs.Flow.{carried}
use Rattle.connectivity.proofs.run.Finished.sweep.Goals as goal

pub returns-clause-side : goal.returns-clause-side
returns-clause-side g c =
    let p = c.args.plan.now in
    let run = c.args.self.now in
    let largest = c.requires.largest in
    let told = g.met.P.CutPlan.told p run.from run.to (carried c.args.flow.now) run.value c.requires.asked largest.flow largest.stuck in
    ap (g.P.CutPlan.crossing p run.from) (fun_ext c.mark_side.ensures.side) ∙ sym told.1
