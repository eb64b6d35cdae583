-- A run begins with the flow of value 0, and each push that goes on raises its value, which no
-- number of nodes passes.
use Rattle.std.proofs.Common.{◌≡◌, ◌+◌, refl, ap, arith}
use Rattle.rows.specs.Flow.{carried}
use Rattle.connectivity.specs.declared.run.Searching.{Searching}
use Rattle.connectivity.specs.Runs.{Held}
use Rattle.connectivity.proofs.Found.{value_most}
use Rattle.connectivity.proofs.run.complete.Goals as goal

pub loop-next-init : goal.loop-next-init
loop-next-init g c =
    let e = c.begin-run.ensures.run in
    let same = c.far_from-far.ensures.same in
    let held : Held (g.P.Plan.digraph c.far_from-far.new.plan) c.begin-run.result c.begin-run.new.flow = rw (same, c.begin-run.ensures.same) c.begin-run.ensures.held in
    (refl, rw e, rw e, rw same c.far_from-far.ensures.far, held)

pub loop-next-smaller : goal.loop-next-smaller
loop-next-smaller g c =
    let d = g.P.Plan.digraph c.far_from-far.new.plan in
    let next = c.in-Continue.next in
    let after = c.in-Continue.ensures.after in
    let more : next.value ≡ c.loop-next.run.value + 1 = ap (λ (r : Searching). r.value) after.0 in
    let held : Held d next c.push.new.flow = rw (← c.loop-next.invariant.0) after.1 in
    omega (arith, more, value_most d next.from next.to (carried c.push.new.flow) next.value held.flow)
