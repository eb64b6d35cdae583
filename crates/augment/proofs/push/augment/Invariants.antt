-- What is pushed so far, and back along the nodes that are left, is what is pushed back along all; what is
-- left are nodes, and the words and the heads are the same as at first.
use Rattle.std.proofs.Common.{◌≡◌, ◌-◌, ◌<◌, All}
use Rattle.graph.specs.Graph.{node_limit}
use Rattle.rows.specs.Flow.{carried}
use Rattle.augment.specs.Trails.{walk_back, pushed_back}
use Rattle.augment.proofs.push.augment.Given as goal

abbrev pub invariant-loop : goal.invariant-loop
invariant-loop l =
    let before = l.notes.before.now in
    (pushed_back (carried l.flow) (walk_back before l.from l.q (node_limit - l.counter)) ≡ pushed_back (carried l.initial.flow) (walk_back before l.from l.to node_limit))
    × All (λ x. x < l.initial.flow.heads) (walk_back before l.from l.q (node_limit - l.counter))
    × (l.flow.words.ghost_name ≡ l.initial.flow.words.ghost_name)
    × (l.flow.heads ≡ l.initial.flow.heads)
