-- The words below i have the numbers of both sets.
use Rattle.std.proofs.Common.{◌≡◌, ℕ}
use Rattle.bits.specs.Bits.{has}
use Rattle.bits.proofs.Joins.{joined_to}
use Rattle.bits.proofs.join.Given as goal

abbrev pub invariant-loop-i : goal.invariant-loop-i
invariant-loop-i l = (j : ℕ) → has l.words 0 j ≡ joined_to l.initial.words l.others l.i j
