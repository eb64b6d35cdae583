use Rattle.std.proofs.Common.{sym, refl, ◌∙◌, arith}
use Rattle.graph.proofs.Counts.{count_zero, count_more}
use Rattle.strike.specs.Struck.{without}
use Rattle.strike.specs.Kept.{noted}
use Rattle.strike.proofs.StrikeMap.degree.Goals as goal
use Rattle.strike.proofs.StrikeMap.degree.Goals.{then-joined, else-joined}

pub loop-v-init : goal.loop-v-init
loop-v-init g c = (refl, sym (count_zero _), omega arith)

pub loop-v-preserved : goal.loop-v-preserved
loop-v-preserved g c =
    let more = count_more ((without (g.S.Map.graph c.loop-v.self.store) (noted c.loop-v.self)).joined c.args.u) c.loop-v.v in
    let asked = c.joined.ensures.value in
    let same = c.joined.ensures.same in
    let inv = c.loop-v.invariant in
    elim c.if-joined.branch [
      | then-joined w ↦ (same ∙ inv.0, rw same (grind arith), grind arith)
      | else-joined w ↦ (same ∙ inv.0, rw same (grind arith), grind arith)
    ]
