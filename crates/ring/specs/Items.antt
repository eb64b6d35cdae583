-- Items in slots that are used in a circle: behind the last slot comes the first again.
--
--   round        the slot at a place that is counted on past the last slot
--   ring_items   the items, in their order
use Rattle.std.specs.Prelude.{ℕ, ◌+◌, ◌-◌, cond, List, ◌++◌, length, take, drop, nat_lt}

-- The slot at place i of that many slots, if i is below twice their number.
abbrev pub round : ℕ → ℕ → ℕ
round size i = cond (nat_lt i size) i (i - size)

-- The n items from the slot h on: those up to the last slot, then as many of the first slots as are left.
unfoldable pub ring_items : {X : Type 0} → List X → ℕ → ℕ → List X
ring_items s h n = take n (drop h s) ++ take (h + n - length s) s
