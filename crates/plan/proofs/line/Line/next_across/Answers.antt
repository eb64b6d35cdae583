use Rattle.std.proofs.Common.{◌≡◌, ap, ◌∙◌, sym, arith}
use Rattle.graph.proofs.Firsts.{Found, first_some}
use Rattle.plan.specs.declared.line.Line.{Line}
use Rattle.rows.specs.Marks.{marked}
use Rattle.plan.proofs.Across.{as_now, no_more, found, to_other, none_other}
use Rattle.plan.proofs.line.Line.next_across.Given as given
use Rattle.plan.proofs.line.Line.next_across.Goals as goal
use Rattle.plan.proofs.line.Line.next_across.Goals.{After-next, In-Some}

-- The map is as it was.
as_first : (g : given.Over) (c : After-next g) → g.M.Map.graph c.loop-v.self.map ≡ g.M.Map.graph c.args.self.now.map
as_first g c = ap (λ (s : Line g.row.M.Denot). g.M.Map.graph s.map) c.loop-v.invariant.0

-- The next neighbour.
next_one : (g : given.Over) (c : In-Some g)
    → Found ((g.M.Map.graph c.args.self.now.map).joined c.args.u) c.loop-v.from (g.M.Map.graph c.args.self.now.map).order c.in-Some.v
next_one g c = as_now (g.M.Map.graph c.args.self.now.map) (marked c.args.marks.now) c.args.u (as_first g (goal.at.In-Some g c).After-next) c.in-Some.ensures.value

pub returns-then-are_apart-clause-value : goal.returns-then-are_apart-clause-value
returns-then-are_apart-clause-value g c =
    found (g.M.Map.graph c.args.self.now.map) (marked c.args.marks.now) c.args.u c.loop-v.invariant.1 (next_one g (goal.at.returns-then-are_apart-clause-value g c).In-Some) c.are_apart.ensures c.if-are_apart.true

pub overflow_add-v : goal.overflow_add-v
overflow_add-v g c = omega (arith, (next_one g (goal.at.overflow_add-v g c).In-Some).below, c.requires, c.ranges.n.fits)

pub returns-in_err-from-clause-value : goal.returns-in_err-from-clause-value
returns-in_err-from-clause-value g c =
    c.from_residual.ensures
    ∙ none_other (g.M.Map.graph c.args.self.now.map) (marked c.args.marks.now) c.args.u c.loop-v.invariant.1 (next_one g (goal.at.returns-in_err-from-clause-value g c).In-Some) c.are_apart.ensures c.if-are_apart.false c.args.n
    c.requires c.in_err-from.ensures

pub loop-v-smaller : goal.loop-v-smaller
loop-v-smaller g c =
    let f = next_one g (goal.at.loop-v-smaller g c).In-Some in
    let o = first_some _ _ _ _ (sym c.in_ok-from.ensures) in
    omega (arith, f.from, f.below, o.from, c.requires)

pub loop-v-preserved : goal.loop-v-preserved
loop-v-preserved g c =
    let f = next_one g (goal.at.loop-v-preserved g c).In-Some in (
      ap {B = Line g.row.M.Denot} (λ x. record { map = x }) c.in-Some.ensures.same ∙ c.loop-v.invariant.0,
      to_other (g.M.Map.graph c.args.self.now.map) (marked c.args.marks.now) c.args.u c.loop-v.invariant.1 f c.are_apart.ensures c.if-are_apart.false c.args.n c.in_ok-from.ensures,
    )

pub returns-clause-value : goal.returns-clause-value
returns-clause-value g c = no_more (g.M.Map.graph c.args.self.now.map) (marked c.args.marks.now) c.args.u c.loop-v.invariant.1 (as_first g (goal.at.returns-clause-value g c).After-next) c.in_default.ensures.value
