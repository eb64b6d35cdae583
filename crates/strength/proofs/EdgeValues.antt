-- Edge values and edge connectivity against sets of vertices: a value is no more than what leaves
-- a set between the two, it is met by a cut, and no value is below the connectivity.
use Rattle.std.proofs.Common.{◌≡◌, ℕ, ◌<◌, ◌≤◌, Bool, true, false, eqb, List, length, sym, refl, ◌∙◌, arith}
use Rattle.std.proofs.lemmas.Bool.{both_ways, not-true, not_from_false, eq-eqb, ne_eqb, ltb-true}
use Rattle.graph.specs.Graph.{Graph, Simple, degree}
use Rattle.flows.specs.Lists.{upto, among}
use Rattle.flows.specs.Flow.{leaving}
use Rattle.flows.proofs.Lists.{among_upto, any_upto_at, any_upto_from, all_upto_at, all_off, never_true}
use Rattle.cuts.specs.declared.edge.Edge.{Edge}
use Rattle.cuts.specs.Edges.{edge_list, without_edges, side}
use Rattle.cuts.specs.Cuts.{edges_part, edge_value, is_edge_cut, edge_connectivity}
use Rattle.cuts.specs.Pairs.{crossing_edges}
use Rattle.cuts.proofs.EdgeLists.{crossing_count}
use Rattle.cuts.proofs.Smallest.{Sub, size_least, size_met, kept_sub}
use Rattle.strength.proofs.EdgeSets.{leaving_one}
use Rattle.strength.proofs.EdgeCrossing.{crossing_parts}

module _ (g : Graph) (ok : Simple g) where
  -- No value is more than what leaves a set that has a and not b.
  pub value_below : (u : ℕ → Bool) (a b : ℕ) → a < g.order → u a ≡ true → u b ≡ false → edge_value g a b ≤ leaving g.order g.joined u
  unfolding edge_value
  value_below u a b h ua ub =
      omega (arith, size_least (edges_part g a b) (edge_list g) (crossing_edges g u) (kept_sub _ (edge_list g)) (crossing_parts g ok u a b h ua ub), crossing_count g ok u)

  -- The edges at a part it from any other vertex.
  crossing_one : (a b : ℕ) → a < g.order → (a ≡ b → ⊥) → edges_part g a b (crossing_edges g (λ q. eqb q a)) ≡ true
  crossing_one a b h d = crossing_parts g ok (λ q. eqb q a) a b h (eq-eqb a a refl) (ne_eqb b a (λ e. d (sym e)))

  -- No value is more than the degree of its first vertex.
  pub value_degree : (a b : ℕ) → a < g.order → (a ≡ b → ⊥) → edge_value g a b ≤ degree g a
  value_degree a b h d =
      omega (arith, value_below (λ q. eqb q a) a b h (eq-eqb a a refl) (ne_eqb b a (λ e. d (sym e))), leaving_one g ok a)

  -- Some edges of that number part the two.
  pub value_met : (a b : ℕ) → a < g.order → (a ≡ b → ⊥) → (c : List Edge) × Sub c (edge_list g) × (edges_part g a b c ≡ true) × (length c ≡ edge_value g a b)
  unfolding edge_value
  value_met a b h d = size_met (edges_part g a b) (edge_list g) (crossing_edges g (λ q. eqb q a)) (kept_sub _ (edge_list g)) (crossing_one a b h d)

  -- What parts two vertices is an edge cut.
  pub parts_cut : (c : List Edge) (a b : ℕ) → a < g.order → b < g.order → edges_part g a b c ≡ true → is_edge_cut g c ≡ true
  parts_cut c a b ha hb e =
      any_upto_at _ g.order a ha
      (not_from_false _ (never_true _ (λ h. both_ways (among (side (without_edges g c) a) b) (not-true _ e) (all_upto_at _ g.order h b hb))))

  -- An edge cut parts two vertices.
  pub cut_parts : (c : List Edge) → is_edge_cut g c ≡ true → (a : ℕ) × (b : ℕ) × (a < g.order) × (b < g.order) × (edges_part g a b c ≡ true)
  cut_parts c e =
      let w = any_upto_from _ g.order e in
      let z = all_off (among (side (without_edges g c) w.0)) (upto g.order) (not-true _ w.2) in
      (w.0, z.0, w.1, ltb-true z.0 g.order (sym (among_upto g.order z.0) ∙ z.1), not_from_false _ z.2)

  -- The connectivity is no more than any value.
  pub connectivity_below : (a b : ℕ) → a < g.order → b < g.order → (a ≡ b → ⊥) → edge_connectivity g ≤ edge_value g a b
  unfolding edge_connectivity
  connectivity_below a b ha hb d =
      let m = value_met a b ha d in
      omega (arith, size_least (is_edge_cut g) (edge_list g) m.0 m.1 (parts_cut m.0 a b ha hb m.2), m.3)

  -- An edge cut has that number of edges.
  pub connectivity_met : 2 ≤ g.order → (c : List Edge) × (is_edge_cut g c ≡ true) × (length c ≡ edge_connectivity g)
  unfolding edge_connectivity
  connectivity_met two =
      let cut = parts_cut (crossing_edges g (λ q. eqb q 0)) 0 1 (omega arith) (omega arith) (crossing_one 0 1 (omega arith) (λ e. omega arith)) in
      let m = size_met (is_edge_cut g) (edge_list g) (crossing_edges g (λ q. eqb q 0)) (kept_sub _ (edge_list g)) cut in
      (m.0, m.2, m.3)
