use Rattle.std.proofs.Common.{◌≡◌, ℕ, ◌-◌, ◌*◌, ◌<◌, ◌≤◌, false}
use Rattle.bits.proofs.Scans.{outside}
use Rattle.bits.proofs.next_outside.Given as goal

-- A word is looked at from where w stands in it, and the words before have nothing from w up.
abbrev pub invariant-loop-i : goal.invariant-loop-i
invariant-loop-i l = (l.k ≡ l.w - 64 * l.i) × ((k : ℕ) → l.w ≤ k → k < 64 * l.i → outside l.words l.others k ≡ false)
