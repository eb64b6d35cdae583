use Rattle.std.proofs.Common.{◌≡◌, ◌≤◌}
use Rattle.graph.specs.Graph.{count}
use Rattle.strike.specs.Struck.{without}
use Rattle.strike.specs.Kept.{noted}
use Rattle.strike.proofs.StrikeMap.degree.Given as goal

-- The neighbours below v are counted, and the layer is as it was.
abbrev pub invariant-loop-v : goal.invariant-loop-v
invariant-loop-v g l =
    (l.self ≡ l.initial.self)
    × (l.d ≡ count ((without (g.S.Map.graph l.self.store) (noted l.self)).joined l.u) l.v)
    × (l.d ≤ l.v)
