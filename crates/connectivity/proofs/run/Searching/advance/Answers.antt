-- The path that was noted is read back, and pushing along it adds one.
use Rattle.std.proofs.Common.{refl}
use Rattle.connectivity.proofs.Found.{read_nodes, read_held}
use Rattle.connectivity.proofs.run.Searching.advance.Goals as goal

-- What is read back are heads.
pub augment-requires : goal.augment-requires
augment-requires g c =
    let p = c.args.plan.now in
    let run = c.args.self.now in
    let ends = g.met.P.CutPlan.two p run.from run.to c.requires.asked in
    read_nodes (g.P.Plan.digraph p) run c.args.flow.now (g.P.Plan.small p) (g.P.Plan.sound p) c.requires.flow ends.0
    c.seek.new.scratch.notes.before.now (c.if-not-seek.ensures.noted refl)

-- Pushing along it adds one.
pub returns-clause-pushed : goal.returns-clause-pushed
returns-clause-pushed g c _ =
    let p = c.args.plan.now in
    let run = c.args.self.now in
    let ends = g.met.P.CutPlan.two p run.from run.to c.requires.asked in
    read_held (g.P.Plan.digraph p) run c.args.flow.now (g.P.Plan.small p) (g.P.Plan.sound p) c.requires.flow ends.0
    c.seek.new.scratch.notes.before.now (c.if-not-seek.ensures.noted refl) ends.2 _ c.augment.ensures.heads c.augment.ensures.arcs
