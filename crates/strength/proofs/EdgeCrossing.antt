-- What a reaches without some edges, as a set: it has a, lacks what is parted from a, and is left
-- by no more edges than those.
use Rattle.std.proofs.Common.{◌≡◌, ℕ, ◌<◌, ◌≤◌, Bool, true, false, List, length}
use Rattle.graph.specs.Graph.{Graph, Simple}
use Rattle.flows.specs.Reach.{reaches}
use Rattle.flows.specs.Flow.{leaving}
use Rattle.flows.proofs.Reached.{reached_self}
use Rattle.cuts.specs.declared.edge.Edge.{Edge}
use Rattle.cuts.specs.Edges.{without_edges}
use Rattle.cuts.specs.Cuts.{edges_part}
use Rattle.cuts.specs.Pairs.{crossing_edges}
use Rattle.cuts.proofs.EdgeParts as parts

module _ (g : Graph) (ok : Simple g) where
  -- The edges that cross a set with a and without b part them.
  pub crossing_parts : (u : ℕ → Bool) (a b : ℕ) → a < g.order → u a ≡ true → u b ≡ false → edges_part g a b (crossing_edges g u) ≡ true
  crossing_parts u a b h ua ub = parts.crossing_parts g ok a b h u (ua, ub)

  -- What a reaches without the edges c.
  unfoldable pub rest : List Edge → ℕ → ℕ → Bool
  rest c a = reaches g.order (without_edges g c).joined a

  -- It has a.
  pub rest_self : (c : List Edge) (a : ℕ) → a < g.order → rest c a a ≡ true
  unfolding rest
  rest_self c a h = reached_self g.order (without_edges g c).joined a h

  -- It lacks what c parts from a.
  pub rest_parts : (c : List Edge) (a b : ℕ) → a < g.order → edges_part g a b c ≡ true → rest c a b ≡ false
  unfolding rest
  rest_parts c a b h e = (parts.parted_between g ok a b h c e).1

  -- No more edges leave it than c has.
  pub rest_left : (c : List Edge) (a : ℕ) → a < g.order → leaving g.order g.joined (rest c a) ≤ length c
  unfolding rest
  rest_left c a h = parts.leaving_most g ok a h c
