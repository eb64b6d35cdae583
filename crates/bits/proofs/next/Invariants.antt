use Rattle.std.proofs.Common.{◌≡◌, ℕ, ◌-◌, ◌*◌, ◌<◌, ◌≤◌, false}
use Rattle.bits.proofs.Scans.{looked_for}
use Rattle.bits.proofs.next.Given as goal

-- A word is looked at from where w stands in it, and the words before have nothing from w up.
abbrev pub invariant-loop-i : goal.invariant-loop-i
invariant-loop-i l = (l.k ≡ l.w - 64 * l.i) × ((k : ℕ) → l.w ≤ k → k < 64 * l.i → looked_for l.on l.words k ≡ false)
