use Rattle.std.proofs.Common.{sym, ◌∙◌, arith}
use Rattle.graph.proofs.Firsts.{Found, first_some}
use Rattle.rows.specs.Layout.{set_limit}
use Rattle.rows.proofs.Fresh.{hit, none, leap, leap_none, found_in, none_in}
use Rattle.store.proofs.Map.next_outside.Given as given
use Rattle.store.proofs.Map.next_outside.Goals as goal
use Rattle.store.proofs.Map.next_outside.Goals.{In-Some}

-- The next neighbour is a vertex.
near : (g : given.Over) (c : In-Some g) → Found ((g.Self.Map.graph c.args.self.now).joined c.args.u) c.loop-v.from (g.Self.Map.graph c.args.self.now).order c.in-Some.v
near g c =
    found_in (λ x. (g.Self.Map.graph x).joined c.args.u) (λ x. (g.Self.Map.graph x).order) c.loop-v.from c.loop-v.invariant.0 c.in-Some.ensures.value

pub returns-then-not-has-clause-value : goal.returns-then-not-has-clause-value
returns-then-not-has-clause-value g c =
    let f = near g (goal.at.returns-then-not-has-clause-value g c).In-Some in
    hit _ _ c.loop-v.invariant.1 (λ k h. h) f f.below c.has.ensures c.if-not-has.true f.here

pub overflow_add-v : goal.overflow_add-v
overflow_add-v g c =
    omega (arith, (near g (goal.at.overflow_add-v g c).In-Some).below, (g.Self.Map.simple c.args.self.now).small)

pub returns-in_err-from-clause-value : goal.returns-in_err-from-clause-value
returns-in_err-from-clause-value g c =
    let f = near g (goal.at.returns-in_err-from-clause-value g c).In-Some in
    c.from_residual.ensures
    ∙ leap_none _ _ c.loop-v.invariant.1 (λ k h. h) f c.has.ensures c.if-not-has.false set_limit (omega (arith, (g.Self.Map.simple c.args.self.now).small)) c.in_err-from.ensures

pub loop-v-smaller : goal.loop-v-smaller
loop-v-smaller g c =
    let f = near g (goal.at.loop-v-smaller g c).In-Some in
    let u = first_some _ _ _ _ (sym c.in_ok-from.ensures) in
    omega (arith, f.from, f.below, u.from)

pub loop-v-preserved : goal.loop-v-preserved
loop-v-preserved g c =
    let f = near g (goal.at.loop-v-preserved g c).In-Some in
    (c.in-Some.ensures.same ∙ c.loop-v.invariant.0, leap _ _ c.loop-v.invariant.1 (λ k h. h) f c.has.ensures c.if-not-has.false set_limit c.in_ok-from.ensures)

pub returns-clause-value : goal.returns-clause-value
returns-clause-value g c =
    let all = none_in (λ x. (g.Self.Map.graph x).joined c.args.u) (λ x. (g.Self.Map.graph x).order) c.loop-v.from c.loop-v.invariant.0 c.in_default.ensures.value in
    none _ _ c.loop-v.invariant.1 (λ k h. h) (omega arith) all
