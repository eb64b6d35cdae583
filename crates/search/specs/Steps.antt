-- The residual steps out of a node that go along an arc; the others go back along the flow.
--
--   along   whether an arc leads from p to q, and the flow leaves room on it
use Rattle.std.specs.Prelude.{ℕ, Bool, not, ◌&&◌}
use Rattle.flows.specs.Flow.{Digraph}

-- An arc with room.
unfoldable pub along : Digraph → (ℕ → ℕ → Bool) → ℕ → ℕ → Bool
along d f p q = d.arc p q && not (f p q)
