use Rattle.std.proofs.Common.{◌≡◌, ◌+◌, ◌-◌, ◌<◌, ℕ, sym, ◌∙◌, arith}
use Rattle.graph.specs.Graph.{node_limit}
use Rattle.rows.specs.Flow.{carried}
use Rattle.augment.proofs.PushBacks.{back_here, back_one, back_more, first_back, rest_back}
use Rattle.augment.proofs.push.augment.Goals as goal

-- The node noted and the one before it are nodes.
pub step-requires : goal.step-requires
step-requires c =
    let before = c.args.notes.now.before.now in
    let n = node_limit - c.loop.counter in
    let node : ℕ → Type 0 = λ x. x < c.args.flow.now.heads in
    let rest = rest_back node before c.args.from c.loop.q n (omega arith) c.if-q-from.false c.loop.invariant.1 in (
      rw (c.loop.invariant.3, c.noted-p.ensures) (first_back node before c.args.from _ (n - 1) (omega arith) rest),
      rw c.loop.invariant.3 (first_back node before c.args.from c.loop.q n (omega arith) c.loop.invariant.1),
    )

pub loop-preserved : goal.loop-preserved
loop-preserved c =
    let before = c.args.notes.now.before.now in
    let n = node_limit - c.loop.counter in
    let less : n - 1 ≡ node_limit - (c.loop.counter + 1) = omega arith in
    let more = back_more (carried c.loop.flow) before c.args.from c.loop.q n (omega arith) c.if-q-from.false in
    let rest = rest_back (λ x. x < c.args.flow.now.heads) before c.args.from c.loop.q n (omega arith) c.if-q-from.false c.loop.invariant.1 in (
      rw (c.step.ensures.arcs, c.noted-p.ensures, ← less) (sym more ∙ c.loop.invariant.0),
      rw (c.noted-p.ensures, ← less) rest,
      c.step.ensures.same_reference ∙ c.loop.invariant.2,
      c.step.ensures.heads ∙ c.loop.invariant.3,
    )

-- One node is left.
pub returns-after-loop-clause-arcs : goal.returns-after-loop-clause-arcs
returns-after-loop-clause-arcs c =
    let one : node_limit - c.loop.counter ≡ 1 = omega arith in
    sym (back_one (carried c.loop.flow) c.args.notes.now.before.now c.args.from c.loop.q) ∙ (rw one at c.loop.invariant.0)

-- The first node is come to.
pub returns-then-q-from-clause-arcs : goal.returns-then-q-from-clause-arcs
returns-then-q-from-clause-arcs c =
    sym (back_here (carried c.loop.flow) c.args.notes.now.before.now c.args.from c.loop.q (node_limit - c.loop.counter) (omega arith) c.if-q-from.true) ∙ c.loop.invariant.0
