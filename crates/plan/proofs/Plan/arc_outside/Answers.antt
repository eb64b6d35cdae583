use Rattle.std.proofs.Common.{sym, ◌∙◌, arith}
use Rattle.graph.proofs.Firsts.{Found, first_some}
use Rattle.rows.specs.Layout.{set_limit}
use Rattle.rows.proofs.Fresh.{hit, none, leap, leap_none, found_in, none_in}
use Rattle.plan.proofs.Plan.arc_outside.Given as given
use Rattle.plan.proofs.Plan.arc_outside.Goals as goal
use Rattle.plan.proofs.Plan.arc_outside.Goals.{In-Some}

-- The next arc leads to a node.
near : (g : given.Over) (c : In-Some g) → Found ((g.Self.Plan.digraph c.args.self.now).arc c.args.p) c.loop-q.from (g.Self.Plan.digraph c.args.self.now).nodes c.in-Some.q
near g c =
    found_in (λ x. (g.Self.Plan.digraph x).arc c.args.p) (λ x. (g.Self.Plan.digraph x).nodes) c.loop-q.from c.loop-q.invariant.0 c.in-Some.ensures.value

pub returns-then-not-has-clause-value : goal.returns-then-not-has-clause-value
returns-then-not-has-clause-value g c =
    let f = near g (goal.at.returns-then-not-has-clause-value g c).In-Some in
    hit _ _ c.loop-q.invariant.1 (λ k h. h) f f.below c.has.ensures c.if-not-has.true f.here

pub overflow_add-q : goal.overflow_add-q
overflow_add-q g c =
    omega (arith, (near g (goal.at.overflow_add-q g c).In-Some).below, g.Self.Plan.small c.args.self.now)

pub returns-in_err-from-clause-value : goal.returns-in_err-from-clause-value
returns-in_err-from-clause-value g c =
    let f = near g (goal.at.returns-in_err-from-clause-value g c).In-Some in
    c.from_residual.ensures
    ∙ leap_none _ _ c.loop-q.invariant.1 (λ k h. h) f c.has.ensures c.if-not-has.false set_limit (omega (arith, g.Self.Plan.small c.args.self.now)) c.in_err-from.ensures

pub loop-q-smaller : goal.loop-q-smaller
loop-q-smaller g c =
    let f = near g (goal.at.loop-q-smaller g c).In-Some in
    let u = first_some _ _ _ _ (sym c.in_ok-from.ensures) in
    omega (arith, f.from, f.below, u.from)

pub loop-q-preserved : goal.loop-q-preserved
loop-q-preserved g c =
    let f = near g (goal.at.loop-q-preserved g c).In-Some in
    (c.in-Some.ensures.same ∙ c.loop-q.invariant.0, leap _ _ c.loop-q.invariant.1 (λ k h. h) f c.has.ensures c.if-not-has.false set_limit c.in_ok-from.ensures)

pub returns-clause-value : goal.returns-clause-value
returns-clause-value g c =
    let all = none_in (λ x. (g.Self.Plan.digraph x).arc c.args.p) (λ x. (g.Self.Plan.digraph x).nodes) c.loop-q.from c.loop-q.invariant.0 c.in_default.ensures.value in
    none _ _ c.loop-q.invariant.1 (λ k h. h) (omega arith) all
