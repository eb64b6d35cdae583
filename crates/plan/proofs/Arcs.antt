-- The arcs out of a node of the split digraph, and the lowest of them from w up.
--
--   by_edges, next_by_edges    out of an end, and out of the exit of another vertex
--   by_exit, next_by_exit      out of the other nodes: at most the arc to the exit
--   outside_by_edges, outside_by_exit      the same, of the nodes that are not in a set
use Rattle.std.proofs.Common.{◌≡◌, ℕ, ◌+◌, ◌-◌, ◌≤◌, Bool, true, false, not, ◌&&◌, eqb, ltb, leb, Some, None, sym, ap, ◌∙◌, ⊎_elim, arith}
use Rattle.std.specs.Bool.{then_some}
use Rattle.std.proofs.lemmas.Bool.{cases_Bool, and_parts, eqb-true, le-leb, ltb-true, leb-true, not-true, not-false}
use Rattle.std.proofs.lemmas.Bool.Decides.{nat_tests}
use Rattle.graph.specs.Graph.{Graph, Simple, next}
use Rattle.graph.proofs.Firsts.{first_ext, first_found, first_missing, first_short}
use Rattle.cuts.specs.Pairs.{split}
use Rattle.rows.specs.Marks.{fresh}
use Rattle.rows.proofs.Fresh.{fresh_marked, fresh_off, fresh_from, fresh_ext}
use Rattle.store.specs.Outside.{next_outside}
use Rattle.plan.specs.Plans.{next_arc, arc_outside}
use Rattle.plan.specs.Nodes.{edges_out, exit_from, exit_outside}

module _ (g : Graph) (a b p w : ℕ) where
  -- Out of other nodes one arc leads at most, from an entry to its exit.
  by_exit : None ≡ edges_out g.order a b p → (q : ℕ) → (split g a b).arc p q ≡ (ltb p g.order && eqb q (g.order + p))
  by_exit none q = grind (arith, nat_tests)

  -- So the exit is the lowest, unless w is past it.
  pub next_by_exit : None ≡ edges_out g.order a b p → exit_from g.order p w ≡ next_arc (split g a b) p w
  next_by_exit none =
      ⊎_elim
      (λ e. let k = and_parts (ltb p g.order) _ e in
      let l = ltb-true p g.order k.0 in
      ap (λ (t : Bool). then_some t (g.order + p)) e
      ∙ first_found _ w (g.order + p) (g.order + g.order) (leb-true w (g.order + p) k.1) (omega arith)
      (λ q _ m. by_exit none q ∙ grind (arith, nat_tests))
      (by_exit none (g.order + p) ∙ grind (arith, nat_tests)))
      (λ e. ap (λ (t : Bool). then_some t (g.order + p)) e ∙ first_missing _ w (g.order + g.order) (λ q l _. by_exit none q ∙ grind (arith, nat_tests)))
      (cases_Bool (ltb p g.order && leb w (g.order + p)))

  -- The same, unless the exit is in a set.
  pub outside_by_exit : (m : ℕ → Bool) → None ≡ edges_out g.order a b p → exit_outside g.order m p w ≡ arc_outside (split g a b) m p w
  outside_by_exit m none =
      let n = g.order in
      let arc = (split g a b).arc p in
      ⊎_elim
      (λ e. let k = and_parts (ltb p n && leb w (n + p)) (not (m (n + p))) e in
      let j = and_parts (ltb p n) (leb w (n + p)) k.0 in
      let l = ltb-true p n j.0 in
      ap (λ (t : Bool). then_some t (n + p)) e
      ∙ first_found _ w (n + p) (n + n) (leb-true w (n + p) j.1) (omega arith)
      (λ q _ z. fresh_off m arc q (by_exit none q ∙ grind (arith, nat_tests)))
      (fresh_from m arc (n + p) (not-true (m (n + p)) k.1) (by_exit none (n + p) ∙ grind (arith, nat_tests))))
      (λ e. ap (λ (t : Bool). then_some t (n + p)) e ∙ first_missing _ w (n + n) (λ q l _.
      ⊎_elim
      (λ x. let k = and_parts (ltb p n) (eqb q (n + p)) (sym (by_exit none q) ∙ x) in
      let at = eqb-true q (n + p) k.1 in
      let low : leb w (n + p) ≡ true = le-leb w (n + p) (omega (arith, at)) in
      fresh_marked m arc q (ap m at ∙ not-false (m (n + p)) (rw (k.0, low) at e)))
      (λ x. fresh_off m arc q x)
      (cases_Bool (arc q))))
      (cases_Bool ((ltb p n && leb w (n + p)) && not (m (n + p))))

  module _ (s : Simple g) (u : ℕ) (some : Some u ≡ edges_out g.order a b p) where
    -- Nothing is joined to a number that is no vertex.
    outside : (q : ℕ) → g.order ≤ q → g.joined u q ≡ false
    outside q l = ⊎_elim (λ e. let z : ⊥ = omega (arith, (s.bounded u q e).1) in absurd z) (λ e. e) (cases_Bool (g.joined u q))

    -- Out of an end, and out of the exit of another vertex, the edges of that vertex lead.
    by_edges : (q : ℕ) → g.joined u q ≡ (split g a b).arc p q
    by_edges q = ⊎_elim (λ e. let l = (s.bounded u q e).1 in grind (arith, nat_tests)) (λ e. grind (arith, nat_tests)) (cases_Bool (g.joined u q))

    -- So the lowest neighbour is the lowest entry.
    pub next_by_edges : next g u w ≡ next_arc (split g a b) p w
    next_by_edges =
        sym (first_short (g.joined u) w g.order (g.order + g.order) (omega arith) (λ q l _. outside q l))
        ∙ first_ext _ _ w (g.order + g.order - w) (λ q _ _. by_edges q)

    -- And so with those that are not in a set.
    pub outside_by_edges : (m : ℕ → Bool) → next_outside g m u w ≡ arc_outside (split g a b) m p w
    outside_by_edges m =
        sym (first_short (fresh m (g.joined u)) w g.order (g.order + g.order) (omega arith) (λ q l _. fresh_off m (g.joined u) q (outside q l)))
        ∙ first_ext _ _ w (g.order + g.order - w) (λ q _ _. fresh_ext m (g.joined u) ((split g a b).arc p) q (by_edges q))
