use Rattle.std.proofs.Common.{◌≡◌, ◌+◌, ◌-◌, ◌*◌, ◌<◌, length, Some, arith}
use Rattle.graph.specs.Graph.{first}
use Rattle.graph.proofs.Firsts.{first_missing}
use Rattle.bits.proofs.Scans.{outside, says_outside, in_word, past_word}
use Rattle.bits.proofs.next_outside.Goals as goal

-- The bit that the word has, as the set's.
found : (c : goal.In-Some)
    → (c.in-Some.j < 64) × (Some (64 * c.loop-i.i + c.in-Some.j) ≡ first (outside c.args.words.now c.args.others.now) c.args.w (64 * length c.args.words.now - c.args.w))
found c =
    in_word (outside c.args.words.now c.args.others.now) c.args.w c.loop-i.i (length c.args.words.now) c.word_outside-word.result c.loop-i.k
    (omega arith) (omega arith) (says_outside c.args.words.now c.args.others.now c.loop-i.i c.word_outside-word.result c.word_outside-word.ensures) c.loop-i.invariant.0 c.loop-i.invariant.1 c.in-Some.j c.in-Some.ensures

pub overflow_add-result : goal.overflow_add-result
overflow_add-result c = omega (arith, (found c).0)

pub returns-in-Some : goal.returns-in-Some
returns-in-Some c = (found c).1

pub loop-i-preserved : goal.loop-i-preserved
loop-i-preserved c = (
  omega arith,
  past_word (outside c.args.words.now c.args.others.now) c.args.w c.loop-i.i (length c.args.words.now) c.word_outside-word.result c.loop-i.k
      (omega arith) (omega arith) (says_outside c.args.words.now c.args.others.now c.loop-i.i c.word_outside-word.result c.word_outside-word.ensures) c.loop-i.invariant.0 c.loop-i.invariant.1 c.in_default.ensures,
)

pub returns : goal.returns
returns c = first_missing (outside c.args.words.now c.args.others.now) c.args.w (64 * length c.args.words.now) (λ k a b. c.loop-i.invariant.1 k a (omega arith))
