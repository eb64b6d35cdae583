use Rattle.std.proofs.Common.{◌≡◌, ◌-◌}
use Rattle.graph.specs.Graph.{next}
use Rattle.strike.specs.Struck.{without}
use Rattle.strike.specs.Kept.{noted}
use Rattle.strike.proofs.StrikeMap.next.Given as goal

-- The neighbour to find is the lowest from `from` up, and the layer is as it was.
abbrev pub invariant-loop-v : goal.invariant-loop-v
invariant-loop-v g l =
    (l.self ≡ l.initial.self)
    × (let h = without (g.S.Map.graph l.self.store) (noted l.self) in next h l.u l.w ≡ next h l.u l.from)

-- The store has fewer vertices left from turn to turn.
abbrev pub decreases-loop-v : goal.decreases-loop-v
decreases-loop-v g l = (g.S.Map.graph l.self.store).order - l.from
