use Rattle.std.proofs.Common.{◌≡◌, ◌+◌, ◌<◌, ◌≤◌, ap, arith, rules}
use Rattle.graph.specs.Graph.{next}
use Rattle.strike.specs.Struck.{without}
use Rattle.strike.specs.Kept.{noted}
use Rattle.strike.proofs.Walks.{walk_found, walk_goes, walk_none}
use Rattle.strike.proofs.StrikeMap.next.Given as given
use Rattle.strike.proofs.StrikeMap.next.Goals as goal

-- A neighbour that is not struck is the one.
pub returns-then-not-has-clause-value : goal.returns-then-not-has-clause-value
returns-then-not-has-clause-value g c =
    let s = c.loop-v.self in
    let found = walk_found (g.S.Map.graph s.store) (noted s) c.args.u c.args.w c.loop-v.from c.loop-v.invariant.1 c.in-Some.v c.in-Some.ensures.value c.has.result c.has.ensures c.if-not-has.true in
    rw (← c.loop-v.invariant.0) found

-- What a turn that goes on shows.
goes : (g : given.Over) (c : goal.Else-not-has g) → let s = c.loop-v.self in let h = without (g.S.Map.graph s.store) (noted s) in
    (next h c.args.u c.args.w ≡ next h c.args.u (c.in-Some.v + 1)) × (c.loop-v.from ≤ c.in-Some.v) × (c.in-Some.v < (g.S.Map.graph s.store).order)
goes g c =
    let s = c.loop-v.self in
    walk_goes (g.S.Map.graph s.store) (noted s) c.args.u c.args.w c.loop-v.from c.loop-v.invariant.1 c.in-Some.v c.in-Some.ensures.value c.has.result c.has.ensures c.if-not-has.false

pub overflow_add-from : goal.overflow_add-from
overflow_add-from g c = omega (arith, (goes g c).2, (g.S.Map.simple c.loop-v.self.store).small)

pub loop-v-smaller : goal.loop-v-smaller
loop-v-smaller g c =
    let e = ap (λ t. (g.S.Map.graph t).order) c.next.ensures.same in
    omega (arith, e, (goes g c).1, (goes g c).2)

pub loop-v-preserved : goal.loop-v-preserved
loop-v-preserved g c = (search rules, rw c.next.ensures.same (goes g c).0)

-- Where the store has no more, the layer has none.
pub returns-clause-value : goal.returns-clause-value
returns-clause-value g c =
    let s = c.loop-v.self in
    let none = walk_none (g.S.Map.graph s.store) (noted s) c.args.u c.args.w c.loop-v.from c.loop-v.invariant.1 c.in_default.ensures.value in
    rw (← c.loop-v.invariant.0) none
