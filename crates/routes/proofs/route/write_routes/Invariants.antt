-- Between two routes: what was taken and written so far obeys the rules, the rest of the flow goes on, and flow
-- and notes lie in the memory in which they lay.
use Rattle.std.proofs.Common.{◌≡◌, ◌-◌}
use Rattle.rows.specs.Flow.{carried}
use Rattle.routes.proofs.Draws.{Sofar}
use Rattle.routes.proofs.route.write_routes.Given as goal

abbrev pub invariant-loop-second : goal.invariant-loop-second
invariant-loop-second l =
    Sofar l.web.nodes l.web.order (carried l.initial.flow) (carried l.flow) l.web.from l.web.to l.w l.at l.initial.bytes l.bytes
    × (l.flow.words.ghost_name ≡ l.initial.flow.words.ghost_name)
    × (l.notes.before.ghost_name ≡ l.initial.notes.before.ghost_name)

abbrev pub decreases-loop-second : goal.decreases-loop-second
decreases-loop-second l = l.web.nodes - l.w
