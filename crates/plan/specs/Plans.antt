-- What a plan answers, and that the digraphs of a map are sound and small.
--
--   next_arc                              the lowest node from w up to which an arc leads from p
--   arc_outside                           the lowest of them that is not in a set
--   both_ways_sound, both_ways_small      of each edge as two arcs
--   split_is_sound, split_small           of the split digraph of two ends
use Rattle.std.specs.Prelude.{ℕ, ◌-◌, ◌≤◌, Bool, Option}
use Rattle.std.proofs.Common.{arith}
use Rattle.graph.specs.Graph.{Graph, Simple, node_limit, first}
use Rattle.flows.specs.Flow.{Digraph, Sound}
use Rattle.rows.specs.Marks.{fresh}
use Rattle.cuts.specs.Pairs.{both_ways, split}
use Rattle.cuts.proofs.EdgeNearest.{both_sound}
use Rattle.cuts.proofs.VertexSplit.{split_sound}

-- The lowest node from w up to which an arc leads from p, or none.
abbrev pub next_arc : Digraph → ℕ → ℕ → Option ℕ
next_arc d p w = first (d.arc p) w (d.nodes - w)

-- The lowest of them that is not in a set, or none.
abbrev pub arc_outside : Digraph → (ℕ → Bool) → ℕ → ℕ → Option ℕ
arc_outside d m p w = first (fresh m (d.arc p)) w (d.nodes - w)

-- Edges join vertices, so arcs join nodes.
pub both_ways_sound : (g : Graph) → Simple g → Sound (both_ways g)
both_ways_sound = both_sound

-- One node for each vertex.
pub both_ways_small : (g : Graph) → Simple g → (both_ways g).nodes ≤ node_limit
both_ways_small g s = omega (arith, s.small)

-- Arcs join entries and exits.
pub split_is_sound : (g : Graph) (a b : ℕ) → Simple g → Sound (split g a b)
split_is_sound = split_sound

-- Two nodes for each vertex.
pub split_small : (g : Graph) (a b : ℕ) → Simple g → (split g a b).nodes ≤ node_limit
split_small g a b s = omega (arith, s.small)
