-- Each number passed is in the set, or no neighbour in the layer, and the layer is as it was.
use Rattle.std.proofs.Common.{◌≡◌, ◌-◌}
use Rattle.graph.proofs.Leaps.{Scan}
use Rattle.rows.specs.Marks.{marked, fresh}
use Rattle.strike.specs.Struck.{without}
use Rattle.strike.specs.Kept.{noted}
use Rattle.strike.proofs.StrikeMap.next_outside.Given as goal

abbrev pub invariant-loop-v : goal.invariant-loop-v
invariant-loop-v g l =
    (l.self ≡ l.initial.self)
    × Scan (fresh (marked l.set) ((without (g.S.Map.graph l.initial.self.store) (noted l.initial.self)).joined l.u)) l.w l.low

-- The store has fewer vertices left from turn to turn.
abbrev pub decreases-loop-v : goal.decreases-loop-v
decreases-loop-v g l = (g.S.Map.graph l.initial.self.store).order - l.low
