use Rattle.std.proofs.Common.{arith, rules}
use Rattle.graph.proofs.Firsts.{Found}
use Rattle.rows.specs.Marks.{marked, fresh}
use Rattle.rows.proofs.Fresh.{found_in, none_in}
use Rattle.strike.specs.declared.Strike.{Strike}
use Rattle.strike.specs.Kept.{noted}
use Rattle.strike.proofs.Walks.{scan_hit, scan_past, scan_end}
use Rattle.strike.proofs.StrikeMap.next_outside.Given as given
use Rattle.strike.proofs.StrikeMap.next_outside.Goals as goal
use Rattle.strike.proofs.StrikeMap.next_outside.Goals.{In-Some}

-- What the store joins outside the set is found in the store as it was.
near : (g : given.Over) (c : In-Some g)
    → Found (fresh (marked c.args.set.now) ((g.S.Map.graph c.args.self.now.store).joined c.args.u)) c.loop-v.low (g.S.Map.graph c.args.self.now.store).order c.in-Some.v
near g c =
    let G = λ (x : Strike g.row.S.Denot). g.S.Map.graph x.store in
    found_in (λ x. fresh (marked c.args.set.now) ((G x).joined c.args.u)) (λ x. (G x).order) c.loop-v.low c.loop-v.invariant.0 c.in-Some.ensures.value

-- A neighbour that is not struck is the one.
pub returns-then-not-has-clause-value : goal.returns-then-not-has-clause-value
returns-then-not-has-clause-value g c =
    let s = c.args.self.now in
    let f = near g (goal.at.returns-then-not-has-clause-value g c).In-Some in
    scan_hit (g.S.Map.graph s.store) (noted s) (marked c.args.set.now) c.args.u c.loop-v.invariant.1 f (rw (← c.loop-v.invariant.0) c.has.ensures) c.if-not-has.true

pub overflow_add-low : goal.overflow_add-low
overflow_add-low g c =
    omega (arith, (near g (goal.at.overflow_add-low g c).In-Some).below, (g.S.Map.simple c.args.self.now.store).small)

pub loop-v-smaller : goal.loop-v-smaller
loop-v-smaller g c =
    let f = near g (goal.at.loop-v-smaller g c).In-Some in
    omega (arith, f.from, f.below)

pub loop-v-preserved : goal.loop-v-preserved
loop-v-preserved g c =
    let s = c.args.self.now in
    let f = near g (goal.at.loop-v-preserved g c).In-Some in (
      search rules,
      scan_past (g.S.Map.graph s.store) (noted s) (marked c.args.set.now) c.args.u c.loop-v.invariant.1 f (rw (← c.loop-v.invariant.0) c.has.ensures) c.if-not-has.false,
    )

-- Where the store has no more, the layer has none.
pub returns-clause-value : goal.returns-clause-value
returns-clause-value g c =
    let s = c.args.self.now in
    let G = λ (x : Strike g.row.S.Denot). g.S.Map.graph x.store in
    scan_end (g.S.Map.graph s.store) (noted s) (marked c.args.set.now) c.args.u c.loop-v.invariant.1
    (none_in (λ x. fresh (marked c.args.set.now) ((G x).joined c.args.u)) (λ x. (G x).order) c.loop-v.low c.loop-v.invariant.0 c.in_default.ensures.value)
