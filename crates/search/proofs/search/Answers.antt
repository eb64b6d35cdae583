use Rattle.std.proofs.Common.{◌≡◌, ℕ, ◌+◌, ◌<◌, Bool, false, IfSome, List, [], ◌∷◌, ◌++◌, map, length, inl, sym, refl, ap, ◌∙◌, arith}
use Rattle.std.proofs.lemmas.List.{length-map}
use Rattle.std.proofs.lemmas.Bool.{or_left, eqb-true}
use Rattle.graph.proofs.Firsts.{Found}
use Rattle.flows.specs.Flow.{back}
use Rattle.rows.specs.Marks.{marked, fresh}
use Rattle.search.specs.Steps.{along}
use Rattle.search.specs.Goals.{Closed}
use Rattle.search.proofs.States.{leaves_off, State, Nobody, nowhere, unmarked, begun, ended, missed}
use Rattle.search.proofs.Finds.{goal_missed, no_goal, passed_by, found_on}
use Rattle.search.proofs.Fresh.{along_step}
use Rattle.search.proofs.Turns.{Turn, back_all, found, has_room, by_along, by_back}
use Rattle.search.proofs.Queues.{each, first_marks, along_found, found_at, none_at, value_in, found_in, taken_first, arcs_done}
use Rattle.search.proofs.search.Given as given
use Rattle.search.proofs.search.Goals as goal
use Rattle.search.proofs.search.Goals.{After-finds_goal, After-next_along, In-Some-next_along, After-finds_goal-in-Some-next_along, After-next_back, In-Some-next_back, After-finds_goal-in-Some-next_back}

-- At first the start alone is marked, and waits, unless the search leaves off at it.
state_first : (g : given.Over) (c : After-finds_goal g) (stop : ℕ → Bool) (before : List ℕ) → stop c.args.from ≡ false
    → State (g.P.Plan.digraph c.args.plan.now) (g.F.Carries.arcs c.args.flow.now) c.args.from stop Nobody
    (map g.E.Waiting.node c.enter.new.queue.items) (marked c.enter.new.marks) before
state_first g c stop before goes =
    let alone = ap (λ (z : List g.row.E.Denot). map g.E.Waiting.node z ++ (c.args.from ∷ [])) c.new-queue.ensures.items in
    let marks = first_marks c.args.from c.clear.ensures c.enter.ensures.marks in
    begun c.requires.start marks goes (c.enter.ensures.nodes ∙ alone)

-- The plan is as it was given, while arcs are looked at.
kept_ahead : (g : given.Over) (c : After-next_along g) → c.search.plan ≡ c.args.plan.now
kept_ahead g c = c.search.invariant.0 ∙ c.finds_goal.ensures.same ∙ c.node_count-n.ensures.same

-- While arcs are looked at, a node is, with its arcs up to the next.
turn_ahead : (g : given.Over) (c : After-next_along g)
    → Turn (g.P.Plan.digraph c.search.plan) (g.F.Carries.arcs c.args.flow.now) c.args.from (leaves_off c.args.goal (marked c.args.closed.now)) c.node-p.result c.along.ahead 0
    (map g.E.Waiting.node c.along.queue.items) (marked c.along.marks) c.along.notes.before.now
    (length (map g.E.Waiting.node c.pop.new.self.items) + unmarked (marked c.search.marks) c.node_count-n.result)
turn_ahead g c =
    c.along.invariant.4
    (taken_first g.P.Plan.digraph g.E.Waiting.node c.search.invariant.0 c.search.invariant.2 c.node-p.ensures c.in-Some.ensures.items
    c.search.invariant.4)

-- The node that was found along an arc is fresh.
next_ahead : (g : given.Over) (c : In-Some-next_along g)
    → Found (fresh (marked c.along.marks) (along (g.P.Plan.digraph c.search.plan) (g.F.Carries.arcs c.args.flow.now) c.node-p.result))
    c.along.ahead (g.P.Plan.digraph c.search.plan).nodes c.in-Some-next_along.q
next_ahead g c = along_found g.P.Plan.digraph c.along.invariant.0 _ _ _ _ c.in-Some-next_along.ensures.value

-- There is room to note the node before it.
wide_ahead : (g : given.Over) (c : In-Some-next_along g) → c.in-Some-next_along.q < length c.along.notes.before.now
wide_ahead g c =
    omega (arith, (next_ahead g c).below, g.P.Plan.small c.search.plan, c.along.notes.fits)

-- The arcs of the node have been looked at, and the plan is as it was.
nodes_behind : (g : given.Over) (c : After-next_back g) → c.node_count-n.result ≡ (g.P.Plan.digraph c.next_along.new.plan).nodes
nodes_behind g c = rw (c.in_default-next_along.ensures.same, c.along.invariant.0) c.search.invariant.2

-- While the flow is looked at, a node is, with all its arcs, and with the flow up to the next.
turn_behind : (g : given.Over) (c : After-next_back g)
    → Turn (g.P.Plan.digraph c.next_along.new.plan) (g.F.Carries.arcs c.args.flow.now) c.args.from (leaves_off c.args.goal (marked c.args.closed.now)) c.node-p.result
    c.node_count-n.result c.back.behind
    (map g.E.Waiting.node c.back.queue.items) (marked c.back.marks) c.back.notes.before.now
    (length (map g.E.Waiting.node c.along.queue.items) + unmarked (marked c.along.marks) c.node_count-n.result)
turn_behind g c =
    c.back.invariant.3
    (arcs_done g.P.Plan.digraph c.along.invariant.0 c.in_default-next_along.ensures.same c.search.invariant.2 c.in_default-next_along.ensures.value
    (turn_ahead g (goal.at.After-next_back g c).After-next_along))

-- The node that was found back along the flow is fresh.
next_behind : (g : given.Over) (c : In-Some-next_back g)
    → Found (fresh (marked c.back.marks) (back (g.F.Carries.arcs c.args.flow.now) c.node-p.result))
    c.back.behind (g.P.Plan.digraph c.next_along.new.plan).nodes c.in-Some-next_back.q
next_behind g c = found_at _ _ (nodes_behind g (goal.at.In-Some-next_back g c).After-next_back) c.in-Some-next_back.ensures

-- There is room to note the node before it.
wide_behind : (g : given.Over) (c : In-Some-next_back g) → c.in-Some-next_back.q < length c.back.notes.before.now
wide_behind g c =
    let small = g.P.Plan.small c.next_along.new.plan in
    omega (arith, (next_behind g c).below, small, c.back.notes.fits)

pub search-init : goal.search-init
search-init g c =
    let at = goal.at.search-init g c in
    let same = c.finds_goal.ensures.same ∙ c.node_count-n.ensures.same in
    let none = no_goal c.args.goal (marked c.args.closed.now) _ c.args.from c.args.notes.now.before.now (sym c.finds_goal.ensures.value ∙ c.if-finds_goal.false) in
    let goes = none.0 in (
      refl,
      refl,
      rw same c.node_count-n.ensures.value,
      omega (arith, c.enter.ensures.room, c.new-queue.ensures.room, c.args.slots.now.fits),
      rw same (state_first g at.After-finds_goal _ c.finds_goal.new.notes.before.now goes),
      refl,
    )

pub note-requires : goal.note-requires
note-requires g c = omega (arith, (next_ahead g (goal.at.note-requires g c).In-Some-next_along).below, g.P.Plan.small c.search.plan)

pub enter-requires-in-Some-next_along : goal.enter-requires-in-Some-next_along
enter-requires-in-Some-next_along g c =
    let at = goal.at.enter-requires-in-Some-next_along g c in
    let o = next_ahead g at.In-Some-next_along in
    let small = g.P.Plan.small c.search.plan in
    let roomy = has_room (turn_ahead g at.After-next_along) (wide_ahead g at.In-Some-next_along) refl _ o (along_step _ _ _ _) in (
      omega (arith, o.below, small),
      omega (arith, roomy, small, c.along.invariant.3, length-map c.along.queue.items g.E.Waiting.node),
    )

pub overflow_add-ahead : goal.overflow_add-ahead
overflow_add-ahead g c = omega (arith, (next_ahead g (goal.at.overflow_add-ahead g c).In-Some-next_along).below, g.P.Plan.small c.search.plan)

pub along-smaller : goal.along-smaller
along-smaller g c =
    let o = next_ahead g (goal.at.along-smaller g c).In-Some-next_along in
    omega (arith, o.from, o.below, c.search.invariant.2)

pub along-preserved : goal.along-preserved
along-preserved g c =
    let at = goal.at.along-preserved g c in
    let same = c.finds_goal-in-Some-next_along.ensures.same ∙ c.in-Some-next_along.ensures.same ∙ c.along.invariant.0 in
    let after = passed_by c.args.goal (marked c.args.closed.now) _ c.in-Some-next_along.q c.along.notes.before.now c.node-p.result c.finds_goal-in-Some-next_along.ensures.value
    c.if-finds_goal-2.false c.finds_goal-in-Some-next_along.ensures.notes c.note.ensures.notes in (
      same,
      c.along.invariant.1,
      rw same c.search.invariant.2,
      omega (arith, c.enter-in-Some-next_along.ensures.room, c.along.invariant.3),
      λ _. by_along (turn_ahead g at.After-next_along) (wide_ahead g at.In-Some-next_along) after.1 (each c.enter-in-Some-next_along.ensures.marks)
          c.enter-in-Some-next_along.ensures.nodes after.0 (next_ahead g at.In-Some-next_along),
      c.finds_goal-in-Some-next_along.ensures.same_reference ∙ c.note.ensures.same_reference ∙ c.along.invariant.5,
    )

pub note-requires-in-Some-next_back : goal.note-requires-in-Some-next_back
note-requires-in-Some-next_back g c =
    omega (arith, (next_behind g (goal.at.note-requires-in-Some-next_back g c).In-Some-next_back).below, g.P.Plan.small c.next_along.new.plan)

pub enter-requires-in-Some-next_back : goal.enter-requires-in-Some-next_back
enter-requires-in-Some-next_back g c =
    let at = goal.at.enter-requires-in-Some-next_back g c in
    let o = next_behind g at.In-Some-next_back in
    let small = g.P.Plan.small c.next_along.new.plan in
    let roomy = has_room (turn_behind g at.After-next_back) (wide_behind g at.In-Some-next_back) refl _ o (or_left _ _) in (
      omega (arith, o.below, small),
      omega (arith, roomy, small, c.back.invariant.2, length-map c.back.queue.items g.E.Waiting.node),
    )

pub overflow_add-behind : goal.overflow_add-behind
overflow_add-behind g c = omega (arith, (next_behind g (goal.at.overflow_add-behind g c).In-Some-next_back).below, g.P.Plan.small c.next_along.new.plan)

pub back-smaller : goal.back-smaller
back-smaller g c =
    let at = goal.at.back-smaller g c in
    let o = next_behind g at.In-Some-next_back in
    omega (arith, o.from, o.below, nodes_behind g at.After-next_back)

pub back-preserved : goal.back-preserved
back-preserved g c =
    let at = goal.at.back-preserved g c in
    let after = passed_by c.args.goal (marked c.args.closed.now) _ c.in-Some-next_back.q c.back.notes.before.now c.node-p.result c.finds_goal-in-Some-next_back.ensures.value
    c.if-finds_goal-3.false c.finds_goal-in-Some-next_back.ensures.notes c.note-in-Some-next_back.ensures.notes in (
      c.finds_goal-in-Some-next_back.ensures.same ∙ c.back.invariant.0,
      c.back.invariant.1,
      omega (arith, c.enter-in-Some-next_back.ensures.room, c.back.invariant.2),
      λ _. by_back (turn_behind g at.After-next_back) (wide_behind g at.In-Some-next_back) after.1 (each c.enter-in-Some-next_back.ensures.marks)
          c.enter-in-Some-next_back.ensures.nodes after.0 (next_behind g at.In-Some-next_back),
      c.finds_goal-in-Some-next_back.ensures.same_reference ∙ c.note-in-Some-next_back.ensures.same_reference ∙ c.back.invariant.4,
    )

pub search-smaller : goal.search-smaller
search-smaller g c =
    let at = goal.at.search-smaller g c in
    let a = ap (λ (k : ℕ). unmarked (marked c.along.marks) k) c.search.invariant.2 in
    let b = ap (λ (k : ℕ). unmarked (marked c.back.marks) k) (nodes_behind g at.After-next_back) in
    let first = ap (λ (z : List g.row.E.Denot). length (map g.E.Waiting.node z)) c.in-Some.ensures.items in
    omega (arith, (turn_ahead g at.After-next_along).sum, (turn_behind g at.After-next_back).sum, a, b, first)

pub search-preserved : goal.search-preserved
search-preserved g c =
    let at = goal.at.search-preserved g c in
    let behind = c.in_default-next_along.ensures.same ∙ c.along.invariant.0 ∙ c.search.invariant.0 in
    let same = c.back.invariant.0 ∙ behind in
    let nodes = nodes_behind g at.After-next_back in (
      same,
      c.back.invariant.1,
      rw c.back.invariant.0 nodes,
      c.back.invariant.2,
      rw (← behind) (back_all (turn_behind g at.After-next_back) nodes (none_at _ _ nodes c.in_default-next_back.ensures)),
      c.back.invariant.4 ∙ c.along.invariant.5 ∙ c.search.invariant.5,
    )

pub returns-then-finds_goal-clause-found : goal.returns-then-finds_goal-clause-found
returns-then-finds_goal-clause-found g c _ =
    let at = goal.at.returns-then-finds_goal-clause-found g c in
    let f = g.F.Carries.arcs c.args.flow.now in
    let closed = marked c.args.closed.now in
    let start = state_first g at.After-finds_goal nowhere c.args.notes.now.before.now refl in
    let marks = first_marks c.args.from c.clear.ensures c.enter.ensures.marks in
    found_in g.P.Plan.digraph c.node_count-n.ensures.same f closed c.args.goal c.args.from c.args.from c.args.notes.now.before.now c.finds_goal.ensures.notes
    (found_on closed c.args.goal start start.start c.requires.start (omega (arith, g.P.Plan.small c.args.plan.now, c.args.notes.now.fits))
    (λ x h. inl (eqb-true x c.args.from (sym (marks x) ∙ h))) c.requires.goal
    (value_in g.P.Plan.digraph c.node_count-n.ensures.same f closed c.args.goal c.args.from c.finds_goal.ensures.value c.if-finds_goal.true))

pub returns-then-finds_goal-2-clause-found : goal.returns-then-finds_goal-2-clause-found
returns-then-finds_goal-2-clause-found g c _ =
    let at = goal.at.returns-then-finds_goal-2-clause-found g c in
    let f = g.F.Carries.arcs c.args.flow.now in
    let closed = marked c.args.closed.now in
    let kept = kept_ahead g at.After-next_along in
    let here = c.in-Some-next_along.ensures.same ∙ c.along.invariant.0 in
    let sought : IfSome c.args.goal (λ t. (t < (g.P.Plan.digraph c.search.plan).nodes) × Closed (g.P.Plan.digraph c.search.plan) f t closed) = rw kept c.requires.goal in
    rw (← kept)
    (found_in g.P.Plan.digraph here f closed c.args.goal c.in-Some-next_along.q c.args.from c.note.new.self.before.now c.finds_goal-in-Some-next_along.ensures.notes
    (found (turn_ahead g at.After-next_along) (wide_ahead g at.In-Some-next_along) c.note.ensures.notes c.args.goal closed (λ x h. h) _
    (next_ahead g at.In-Some-next_along) (along_step _ _ _ _) sought (omega (arith, g.P.Plan.small c.search.plan, c.note.new.self.fits))
    (value_in g.P.Plan.digraph here f closed c.args.goal c.in-Some-next_along.q c.finds_goal-in-Some-next_along.ensures.value c.if-finds_goal-2.true)))

pub returns-then-finds_goal-3-clause-found : goal.returns-then-finds_goal-3-clause-found
returns-then-finds_goal-3-clause-found g c _ =
    let at = goal.at.returns-then-finds_goal-3-clause-found g c in
    let f = g.F.Carries.arcs c.args.flow.now in
    let closed = marked c.args.closed.now in
    let kept = c.in_default-next_along.ensures.same ∙ c.along.invariant.0 ∙ kept_ahead g at.After-next_along in
    let sought : IfSome c.args.goal (λ t. (t < (g.P.Plan.digraph c.next_along.new.plan).nodes) × Closed (g.P.Plan.digraph c.next_along.new.plan) f t closed) =
    rw kept c.requires.goal in
    rw (← kept)
    (found_in g.P.Plan.digraph c.back.invariant.0 f closed c.args.goal c.in-Some-next_back.q c.args.from c.note-in-Some-next_back.new.self.before.now c.finds_goal-in-Some-next_back.ensures.notes
    (found (turn_behind g at.After-next_back) (wide_behind g at.In-Some-next_back) c.note-in-Some-next_back.ensures.notes c.args.goal closed (λ x h. h) _
    (next_behind g at.In-Some-next_back) (or_left _ _) sought (omega (arith, g.P.Plan.small c.next_along.new.plan, c.note-in-Some-next_back.new.self.fits))
    (value_in g.P.Plan.digraph c.back.invariant.0 f closed c.args.goal c.in-Some-next_back.q c.finds_goal-in-Some-next_back.ensures.value c.if-finds_goal-3.true)))

-- Nothing waits any more.
pub returns-in_default-clause-swept : goal.returns-in_default-clause-swept
returns-in_default-clause-swept g c _ =
    rw (← (c.finds_goal.ensures.same ∙ c.node_count-n.ensures.same)) (ended (ap (map g.E.Waiting.node) c.in_default.ensures.items) c.search.invariant.4)

pub returns-in_default-clause-missed : goal.returns-in_default-clause-missed
returns-in_default-clause-missed g c _ =
    rw (← (c.finds_goal.ensures.same ∙ c.node_count-n.ensures.same))
    (goal_missed c.args.goal (marked c.args.closed.now) (missed (ap (map g.E.Waiting.node) c.in_default.ensures.items) c.search.invariant.4))
