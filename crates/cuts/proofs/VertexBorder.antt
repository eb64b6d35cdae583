-- The border of a side: what a list of vertices that parts a and b must have, and the bound that
-- a flow in the split digraph puts on it.
use Rattle.std.proofs.Common.{◌≡◌, ℕ, ◌+◌, ◌<◌, ◌≤◌, Bool, true, false, not, ◌&&◌, ltb, List, length, sym, ap, ◌∙◌, ⊎_elim, arith}
use Rattle.std.proofs.lemmas.Bool.{cases_Bool, cases_lt, both_ways, and_from, and_parts, not-true, not_from_false, lt-ltb, le-ltb}
use Rattle.graph.specs.Graph.{Graph, Simple, count}
use Rattle.flows.specs.Lists.{among}
use Rattle.flows.specs.Reach.{reaches}
use Rattle.flows.specs.Flow.{Flow, leaving, residual_side}
use Rattle.flows.proofs.Lists.{never_true, any_upto_from}
use Rattle.flows.proofs.Reached.{reached_self, reached_step, reached_least}
use Rattle.flows.proofs.Sums.{count_grows}
use Rattle.flows.proofs.Largest.{largest_flow_lem}
use Rattle.cuts.specs.Edges.{without_vertices}
use Rattle.cuts.specs.Cuts.{vertices_part, others}
use Rattle.cuts.specs.Pairs.{split}
use Rattle.cuts.proofs.Smallest.{Sub}
use Rattle.cuts.proofs.VertexLists.{count_le, count_among, sub_among}
use Rattle.cuts.proofs.VertexLaws.{step_parts, step_from, others_are, no_end}
use Rattle.cuts.proofs.VertexSplit.{split_sound, next_to, border, doubled, doubled_exit, doubled_between, leaves_most}

module _ (g : Graph) (a b : ℕ) (s : Simple g) (ha : a < g.order) (hb : b < g.order) (c : List ℕ) (sub : Sub c (others g a b)) (part : vertices_part g a b c ≡ true) where
  -- What a reaches without c.
  abbrev pub left : ℕ → Bool
  left = reaches g.order (without_vertices g c).joined a

  -- It has a.
  left_start : left a ≡ true
  left_start = reached_self g.order (without_vertices g c).joined a ha

  -- It does not have b.
  left_end : left b ≡ false
  left_end = not-true _ part

  -- None of it is in c.
  left_off : (q : ℕ) → left q ≡ true → among c q ≡ false
  left_off q h =
      not-true _ (reached_least g.order (without_vertices g c).joined a ha (λ x. not (among c x)) (not_from_false _ (no_end g a b c sub).0)
      (λ x y _ _ _ e. not_from_false _ (step_parts g c x y e).2) q h)

  -- Its border is in c.
  border_in : (q : ℕ) → border g a b left q ≡ true → among c q ≡ true
  border_in q h =
      let k = and_parts (next_to g a b left q) (not (left q)) h in
      let w = any_upto_from (λ p. left p && g.joined p q) g.order k.0 in
      let l = and_parts (left w.0) (g.joined w.0 q) w.2 in
      ⊎_elim (λ e. e)
      (λ e. absurd (both_ways (left q) (not-true _ k.1)
      (reached_step g.order (without_vertices g c).joined a ha w.0 q (s.bounded w.0 q l.1).1 l.0 (step_from g c w.0 q l.1 (left_off w.0 l.0) e))))
      (cases_Bool (among c q))

  -- So b is not next to it.
  border_end : next_to g a b left b ≡ false
  border_end = never_true _ (λ e. both_ways (among c b) (no_end g a b c sub).1 (border_in b (and_from _ _ e (not_from_false _ left_end))))

  -- And the border is no larger than c is long.
  border_few : count (border g a b left) g.order ≤ length c
  border_few = omega (arith, count_le (border g a b left) (among c) g.order (λ q _. border_in q), count_among c g.order)

  module _ (f : ℕ → ℕ → Bool) (v : ℕ) (fl : Flow (split g a b) a b f v) (stuck : residual_side (split g a b) f a b ≡ false) where
    -- The flow is no larger than the arcs that leave the nodes of what is reached.
    border_most : v ≤ leaving (g.order + g.order) (split g a b).arc (doubled g a b left)
    border_most =
        (largest_flow_lem (split g a b) a b f v (split_sound g a b s) fl (omega arith) stuck).2 (doubled g a b left)
        (doubled_between g a b left s ha hb left_start left_end border_end)

    -- And those arcs are no more than the border.
    leaves_few : leaving (g.order + g.order) (split g a b).arc (doubled g a b left) ≤ count (border g a b left) g.order
    leaves_few = leaves_most g a b left s ha hb left_start left_end border_end

    -- A list that parts a and b is no shorter than the flow's value.
    pub no_less : v ≤ length c
    no_less = omega (arith, border_most, leaves_few, border_few)

    -- One that is as short leaves a reaching all whose exit is on the residual side.
    pub reaches_exits : length c ≡ v → (q : ℕ) → residual_side (split g a b) f a (g.order + q) ≡ true → left q ≡ true
    reaches_exits l q r =
        sym (doubled_exit g a b left q)
        ∙ (largest_flow_lem (split g a b) a b f v (split_sound g a b s) fl (omega arith) stuck).3 (doubled g a b left)
        (doubled_between g a b left s ha hb left_start left_end border_end) (omega (arith, border_most, leaves_few, border_few)) (g.order + q) r

    -- One that is as short is the border of what it leaves a reaching.
    pub is_border : length c ≡ v → (q : ℕ) → among c q ≡ (ltb q g.order && border g a b left q)
    is_border l q =
        ⊎_elim
        (λ h. ⊎_elim
        (λ same. sym (same q h) ∙ sym (ap (λ (t : Bool). t && border g a b left q) (lt-ltb q g.order h)))
        (λ less. absurd (omega (arith, less, border_most, leaves_few, count_among c g.order)))
        (count_grows (border g a b left) (among c) g.order (λ i _. border_in i)))
        (λ h. never_true _ (λ m. omega (arith, (others_are g a b q (sub_among sub q m)).0)) ∙ sym (ap (λ (t : Bool). t && border g a b left q) (le-ltb q g.order h)))
        (cases_lt q g.order)
