-- The notes lead on from p; what is written so far, and the vertices of the rest of the way behind it, are
-- those of the whole way.
use Rattle.std.proofs.Common.{◌≡◌, ◌+◌, length}
use Rattle.augment.specs.Trails.{way, LeadsBack}
use Rattle.plan.specs.Writing.{placed}
use Rattle.routes.specs.Routes.{vertices}
use Rattle.routes.proofs.way.write_way.Given as goal

abbrev pub invariant-loop-p : goal.invariant-loop-p
invariant-loop-p l =
    let before = l.notes.before.now in
    let rest = vertices l.web.order (way before l.web.to l.p) in
    let all = vertices l.web.order (way before l.web.to l.web.from) in
    LeadsBack before l.web.to l.p (way before l.web.to l.p)
    × (l.end + length rest ≡ l.at + length all)
    × (placed l.end rest l.bytes ≡ placed l.at all l.initial.bytes)

abbrev pub decreases-loop-p : goal.decreases-loop-p
decreases-loop-p l = length (way l.notes.before.now l.web.to l.p)
