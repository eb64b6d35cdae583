-- The pairs of which a plan tells.
--
--   Two          two different vertices
--   Unjoined     two different vertices that no edge joins
use Rattle.std.specs.Prelude.{◌≡◌, ℕ, ◌<◌, false}
use Rattle.graph.specs.Graph.{Graph}

pub record Two (g : Graph) (a b : ℕ) : Type 0 where
  pub one : a < g.order
  pub other : b < g.order
  pub apart : a ≡ b → ⊥

pub record Unjoined (g : Graph) (a b : ℕ) : Type 0 where
  pub two : Two g a b
  pub loose : g.joined a b ≡ false
