-- The nodes of the split digraph of the ends a and b, over a map of n vertices.
--
--   edges_out    the vertex whose edges lead out of a node
--   exit_from    the exit of an entry, looking from w up
--   exit_outside the same, unless it is in a set
use Rattle.std.specs.Prelude.{ℕ, ◌+◌, ◌-◌, Bool, cond, not, ◌&&◌, Option, nat_le, nat_lt}
use Rattle.std.specs.Bool.{then_some}
use Rattle.cuts.specs.Pairs.{is_end}

-- An end itself, or another vertex whose exit p is.
abbrev pub edges_out : ℕ → ℕ → ℕ → ℕ → Option ℕ
edges_out n a b p = cond (nat_lt p n) (then_some (is_end a b p) p) (then_some (not (is_end a b (p - n))) (p - n))

-- The exit of the vertex p, unless p is none or w is past the exit.
abbrev pub exit_from : ℕ → ℕ → ℕ → Option ℕ
exit_from n p w = then_some (nat_lt p n && nat_le w (n + p)) (n + p)

-- The same exit, unless it is in a set.
abbrev pub exit_outside : ℕ → (ℕ → Bool) → ℕ → ℕ → Option ℕ
exit_outside n m p w = then_some ((nat_lt p n && nat_le w (n + p)) && not (m (n + p))) (n + p)
