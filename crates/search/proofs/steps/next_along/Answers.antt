use Rattle.std.proofs.Common.{◌∙◌, arith}
use Rattle.graph.proofs.Firsts.{Found}
use Rattle.rows.specs.Marks.{marked, fresh}
use Rattle.rows.proofs.Fresh.{found_in, none_in}
use Rattle.search.proofs.Fresh.{along_hit, along_on, along_end}
use Rattle.search.proofs.steps.next_along.Given as given
use Rattle.search.proofs.steps.next_along.Goals as goal
use Rattle.search.proofs.steps.next_along.Goals.{In-Some}

-- The next arc leads to a node of the plan that is not marked.
next : (g : given.Over) (c : In-Some g)
    → Found (fresh (marked c.args.marks.now) ((g.P.Plan.digraph c.args.plan.now).arc c.args.p)) c.loop-q.v (g.P.Plan.digraph c.args.plan.now).nodes c.in-Some.q
next g c =
    let D = g.P.Plan.digraph in
    found_in (λ x. fresh (marked c.args.marks.now) ((D x).arc c.args.p)) (λ x. (D x).nodes) c.loop-q.v c.loop-q.invariant.0 c.in-Some.ensures.value

pub returns-then-has_room-clause-value : goal.returns-then-has_room-clause-value
returns-then-has_room-clause-value g c =
    let d = g.P.Plan.digraph c.args.plan.now in
    let f = next g (goal.at.returns-then-has_room-clause-value g c).In-Some in
    along_hit d (g.F.Carries.arcs c.args.flow.now) (marked c.args.marks.now) c.args.p c.loop-q.invariant.1 f c.has_room.ensures c.if-has_room.true

pub overflow_add-v : goal.overflow_add-v
overflow_add-v g c = omega (arith, (next g (goal.at.overflow_add-v g c).In-Some).below, g.P.Plan.small c.args.plan.now)

pub loop-q-smaller : goal.loop-q-smaller
loop-q-smaller g c =
    let f = next g (goal.at.loop-q-smaller g c).In-Some in
    omega (arith, f.from, f.below)

pub loop-q-preserved : goal.loop-q-preserved
loop-q-preserved g c =
    let d = g.P.Plan.digraph c.args.plan.now in
    let f = next g (goal.at.loop-q-preserved g c).In-Some in (
      c.in-Some.ensures.same ∙ c.loop-q.invariant.0,
      along_on d (g.F.Carries.arcs c.args.flow.now) (marked c.args.marks.now) c.args.p c.loop-q.invariant.1 f c.has_room.ensures c.if-has_room.false,
    )

pub returns-clause-value : goal.returns-clause-value
returns-clause-value g c =
    let D = g.P.Plan.digraph in
    along_end (D c.args.plan.now) (g.F.Carries.arcs c.args.flow.now) (marked c.args.marks.now) c.args.p c.loop-q.invariant.1
    (none_in (λ x. fresh (marked c.args.marks.now) ((D x).arc c.args.p)) (λ x. (D x).nodes) c.loop-q.v c.loop-q.invariant.0 c.in_default.ensures.value)
