-- Between two nodes, what is marked has trails, and waits or has been looked at. While the steps
-- out of a node are looked at, what held of it at the first still holds, and of all that they lead
-- to so far. The notes lie over the same numbers. Each node that is taken from the queue lowers what waits and what is not marked.
use Rattle.std.proofs.Common.{◌≡◌, ◌+◌, ◌-◌, ◌≤◌, false, map, length}
use Rattle.graph.specs.Graph.{node_limit}
use Rattle.rows.specs.Marks.{marked}
use Rattle.search.proofs.States.{leaves_off, State, Nobody, unmarked}
use Rattle.search.proofs.Turns.{Turn}
use Rattle.search.proofs.search.Given as goal

abbrev pub invariant-search : goal.invariant-search
invariant-search g l =
    (l.plan ≡ l.initial.plan)
    × (l.found ≡ false)
    × (l.n ≡ (g.P.Plan.digraph l.plan).nodes)
    × (node_limit ≤ l.queue.room)
    × State (g.P.Plan.digraph l.initial.plan) (g.F.Carries.arcs l.flow) l.from (leaves_off l.goal (marked l.closed)) Nobody
    (map g.E.Waiting.node l.queue.items) (marked l.marks) l.notes.before.now
    × (l.notes.before.ghost_name ≡ l.initial.notes.before.ghost_name)

abbrev pub decreases-search : goal.decreases-search
decreases-search g l = length (map g.E.Waiting.node l.queue.items) + unmarked (marked l.marks) l.n

abbrev pub invariant-along : goal.invariant-along
invariant-along g l =
    let first = map g.E.Waiting.node l.initial.queue.items in
    let e = length first + unmarked (marked l.initial.marks) l.n in
    (l.plan ≡ l.initial.plan)
    × (l.found ≡ false)
    × (l.n ≡ (g.P.Plan.digraph l.plan).nodes)
    × (node_limit ≤ l.queue.room)
    × (Turn (g.P.Plan.digraph l.initial.plan) (g.F.Carries.arcs l.flow) l.from (leaves_off l.goal (marked l.closed)) l.p 0 0
    first (marked l.initial.marks) l.initial.notes.before.now e
    → Turn (g.P.Plan.digraph l.initial.plan) (g.F.Carries.arcs l.flow) l.from (leaves_off l.goal (marked l.closed)) l.p l.ahead 0
    (map g.E.Waiting.node l.queue.items) (marked l.marks) l.notes.before.now e)
    × (l.notes.before.ghost_name ≡ l.initial.notes.before.ghost_name)

abbrev pub decreases-along : goal.decreases-along
decreases-along g l = l.n - l.ahead

abbrev pub invariant-back : goal.invariant-back
invariant-back g l =
    let first = map g.E.Waiting.node l.initial.queue.items in
    let e = length first + unmarked (marked l.initial.marks) l.n in
    (l.plan ≡ l.initial.plan)
    × (l.found ≡ false)
    × (node_limit ≤ l.queue.room)
    × (Turn (g.P.Plan.digraph l.initial.plan) (g.F.Carries.arcs l.flow) l.from (leaves_off l.goal (marked l.closed)) l.p l.n 0
    first (marked l.initial.marks) l.initial.notes.before.now e
    → Turn (g.P.Plan.digraph l.initial.plan) (g.F.Carries.arcs l.flow) l.from (leaves_off l.goal (marked l.closed)) l.p l.n l.behind
    (map g.E.Waiting.node l.queue.items) (marked l.marks) l.notes.before.now e)
    × (l.notes.before.ghost_name ≡ l.initial.notes.before.ghost_name)

abbrev pub decreases-back : goal.decreases-back
decreases-back g l = l.n - l.behind
