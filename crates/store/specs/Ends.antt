-- What is answered of two numbers before a store is asked about the edge between them.
use Rattle.std.specs.Prelude.{ℕ, cond, not, ◌&&◌, Ok, Err, ◌==◌, nat_lt}
use Rattle.model.specs.Table.{Reply}
use Rattle.model.specs.declared.refusal.Refusal.TheVariants.{NoVertex, SameVertex}

-- Whether two numbers are two vertices of a graph of that order.
abbrev pub ends_reply : ℕ → ℕ → ℕ → Reply
ends_reply order u v = cond (not (nat_lt u order && nat_lt v order)) (Err NoVertex) (cond (u == v) (Err SameVertex) (Ok tt))
