-- Where every node is closed to the end, it is not reached.
use Rattle.rows.specs.Flow.{carried}
use Rattle.rows.specs.Marks.{marked}
use Rattle.connectivity.proofs.Ends.{cut_off}
use Rattle.connectivity.proofs.run.Searching.seek.Goals as goal

pub returns-then-marks_all-clause-stuck : goal.returns-then-marks_all-clause-stuck
returns-then-marks_all-clause-stuck g c _ =
    let p = c.args.plan.now in
    let run = c.args.self.now in
    let d = g.P.Plan.digraph p in
    let ends = g.met.P.CutPlan.two p run.from run.to c.requires.asked in
    cut_off d (carried c.args.flow.now) run.from run.to ends.0 ends.2 c.requires.ends (marked c.closed_to-closed.result)
    (c.closed_to-closed.ensures.closed d c.requires.far) (c.marks_all.ensures.all.0 c.if-marks_all.true)
