-- Of the nodes below p, those from which no arc leads to t are in the set, and no others.
use Rattle.std.proofs.Common.{◌≡◌, ℕ, not, ◌&&◌, ltb}
use Rattle.rows.specs.Marks.{marked}
use Rattle.search.proofs.goal.far_from.Given as goal

abbrev pub invariant-loop-p : goal.invariant-loop-p
invariant-loop-p g l =
    (l.plan ≡ l.initial.plan)
    × ((q : ℕ) → marked l.far q ≡ (ltb q l.p && not ((g.P.Plan.digraph l.initial.plan).arc q l.t)))
