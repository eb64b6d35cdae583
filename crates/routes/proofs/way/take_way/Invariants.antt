-- The notes lead on along what is left of the flow; what is taken so far, and along the rest of the way, is
-- what is taken along it all; the words are the same as at first.
use Rattle.std.proofs.Common.{◌≡◌, length}
use Rattle.flows.specs.Flow.{without}
use Rattle.flows.specs.Routes.{Route}
use Rattle.rows.specs.Flow.{carried}
use Rattle.augment.specs.Trails.{way, LeadsBack}
use Rattle.routes.proofs.way.take_way.Given as goal

abbrev pub invariant-loop-tail : goal.invariant-loop-tail
invariant-loop-tail l =
    let before = l.notes.before.now in
    let to = l.web.to in
    LeadsBack before to l.tail (way before to l.tail)
    × Route (carried l.flow) l.tail to (way before to l.tail)
    × (without (carried l.flow) (way before to l.tail) ≡ without (carried l.initial.flow) (way before to l.web.from))
    × (l.flow.words.ghost_name ≡ l.initial.flow.words.ghost_name)

abbrev pub decreases-loop-tail : goal.decreases-loop-tail
decreases-loop-tail l = length (way l.notes.before.now l.web.to l.tail)
