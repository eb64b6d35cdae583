use Rattle.std.proofs.Common.{length, get_or, refl, sym, ap, ◌∙◌, arith}
use Rattle.rows.specs.Flow.{carried}
use Rattle.routes.proofs.Ways.{arc_ends, step, arc_step, route_step, taken_last, taken_step}
use Rattle.routes.proofs.way.take_way.Goals as goal

-- The arc is one of the flow, so it has a tail and a head.
pub take_noted-tail-requires : goal.take_noted-tail-requires
take_noted-tail-requires c =
    let before = c.args.notes.now.before.now in
    let l = c.loop-tail in
    let q = get_or before l.tail 0 in
    arc_ends l.flow l.tail q (arc_step before c.args.web.to l.tail l.invariant.0 c.loop-tail-test.true q refl (carried l.flow) l.invariant.1)

-- The rest of the way is shorter.
pub loop-tail-smaller : goal.loop-tail-smaller
loop-tail-smaller c =
    let before = c.args.notes.now.before.now in
    let k = step before c.args.web.to c.loop-tail.tail c.loop-tail.invariant.0 c.loop-tail-test.true c.take_noted-tail.result c.take_noted-tail.ensures.node in
    omega (arith, ap length k.0)

-- It goes on along what is left.
pub loop-tail-preserved : goal.loop-tail-preserved
loop-tail-preserved c =
    let before = c.args.notes.now.before.now in
    let to = c.args.web.to in
    let l = c.loop-tail in
    let t = c.take_noted-tail in
    let f = carried l.flow in
    let h = carried t.new.flow in
    let q = get_or before l.tail 0 in
    let on = route_step before to l.tail l.invariant.0 c.loop-tail-test.true q refl f h t.ensures.arcs l.invariant.1 in
    let taken = taken_step before to l.tail l.invariant.0 c.loop-tail-test.true q refl f h t.ensures.arcs in
    rw t.ensures.node
    ((step before to l.tail l.invariant.0 c.loop-tail-test.true q refl).1, on, taken ∙ l.invariant.2, t.ensures.same_reference ∙ l.invariant.3)

-- At the end of the way all is taken.
pub returns-clause-arcs : goal.returns-clause-arcs
returns-clause-arcs c =
    let l = c.loop-tail in
    sym (taken_last c.args.notes.now.before.now c.args.web.to l.tail l.invariant.0 (carried l.flow) c.loop-tail-test.false) ∙ l.invariant.2
