-- Nodes without arcs: what a flow leaves of them are the flow's own arcs, back along them.
--
--   bare         so many nodes
--   bare_sound   its arcs lead between nodes, as there are none
use Rattle.std.specs.Prelude.{ℕ, false}
use Rattle.std.proofs.Common.{refl}
use Rattle.std.proofs.lemmas.Bool.{both_ways}
use Rattle.flows.specs.Flow.{Digraph, Sound}

-- So many nodes, and no arc.
abbrev pub bare : ℕ → Digraph
bare n = record { nodes = n; arc = λ p q. false }

-- No arc leads out of the nodes.
pub bare_sound : (n : ℕ) → Sound (bare n)
bare_sound n = record { bounded = λ p q e. absurd (both_ways false refl e) }
