use Rattle.std.proofs.Common.{sym, ◌∙◌, arith}
use Rattle.graph.proofs.Firsts.{first_some, first_all}
use Rattle.rows.specs.Layout.{set_limit}
use Rattle.rows.proofs.Fresh.{hit, past, none, leap, leap_none}
use Rattle.search.proofs.steps.next_back.Goals as goal

pub returns-then-q-n : goal.returns-then-q-n
returns-then-q-n g c = past _ _ c.loop-q.invariant (λ k h. h) (first_some _ _ set_limit _ (sym c.in-Some.ensures)) c.if-q-n.true

pub returns-then-not-has : goal.returns-then-not-has
returns-then-not-has g c =
    let f = first_some _ _ set_limit _ (sym c.in-Some.ensures) in
    hit _ _ c.loop-q.invariant (λ k h. h) f c.if-q-n.false c.has.ensures c.if-not-has.true f.here

pub returns-in_err-v : goal.returns-in_err-v
returns-in_err-v g c =
    let f = first_some _ _ set_limit _ (sym c.in-Some.ensures) in
    c.from_residual.ensures ∙ leap_none _ _ c.loop-q.invariant (λ k h. h) f c.has.ensures c.if-not-has.false c.args.n (omega arith) c.in_err-v.ensures

pub loop-q-smaller : goal.loop-q-smaller
loop-q-smaller g c =
    let f = first_some _ _ set_limit _ (sym c.in-Some.ensures) in
    let u = first_some _ _ _ _ (sym c.in_ok-v.ensures) in
    omega (arith, f.from, c.if-q-n.false, u.from)

pub loop-q-preserved : goal.loop-q-preserved
loop-q-preserved g c =
    let f = first_some _ _ set_limit _ (sym c.in-Some.ensures) in
    leap _ _ c.loop-q.invariant (λ k h. h) f c.has.ensures c.if-not-has.false c.args.n c.in_ok-v.ensures

pub returns : goal.returns
returns g c = none _ _ c.loop-q.invariant (λ k h. h) c.requires (first_all _ _ set_limit (sym c.in_default.ensures))
