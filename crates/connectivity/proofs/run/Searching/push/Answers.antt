-- A value is never above the number of nodes, so one more fits; and where no path leads on, the
-- flow has the value of the pair.
use Rattle.std.proofs.Common.{◌+◌, sym, refl, arith}
use Rattle.rows.specs.Flow.{carried}
use Rattle.connectivity.proofs.Found.{value_most}
use Rattle.connectivity.proofs.run.Searching.push.Goals as goal

pub overflow_add-result : goal.overflow_add-result
overflow_add-result g c =
    let p = c.args.plan.now in
    let run = c.args.self in
    let most = value_most (g.P.Plan.digraph p) run.from run.to (carried c.advance-found.new.flow) (run.value + 1) (c.if-found.ensures.pushed refl).flow in
    omega (arith, most, g.P.Plan.small p)

pub returns-else-found-clause-value : goal.returns-else-found-clause-value
returns-else-found-clause-value g c =
    let run = c.args.self in
    sym (g.met.P.CutPlan.told c.args.plan.now run.from run.to (carried c.args.flow.now) run.value c.requires.asked c.requires.flow.flow
    (c.if-found.ensures.stuck refl)).0
