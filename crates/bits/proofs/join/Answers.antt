use Rattle.std.proofs.Common.{◌∙◌, arith}
use Rattle.bits.proofs.Joins.{joined_none, joined_more, joined_all}
use Rattle.bits.proofs.join.Goals as goal

pub loop-i-init : goal.loop-i-init
loop-i-init c = joined_none _ _

pub loop-i-preserved : goal.loop-i-preserved
loop-i-preserved c = joined_more _ _ _ _ _ (omega arith) c.word_joined.ensures c.loop-i.invariant

pub returns : goal.returns
returns c = λ j. c.loop-i.invariant j ∙ joined_all _ _ _ j (omega arith) (omega arith)
