-- The vertex value is the value of a largest flow in the split digraph, and the nearest cut is
-- what crosses the residual side.
use Rattle.std.proofs.Common.{◌≡◌, ℕ, ◌+◌, ◌<◌, ◌≤◌, Bool, true, false, not, ◌&&◌, ◌||◌, eqb, ltb, ◌⊎◌, List, [], length, sym, refl, ap, ◌∙◌, subst, inl, inr, ⊎_elim, arith}
use mathlib.Core.Path.{fun_ext}
use Rattle.std.proofs.lemmas.Bool.{cases_eq, both_ways, and_from, not_from_false, eq-eqb, ne_eqb, lt-ltb}
use Rattle.graph.specs.Graph.{Graph, Simple}
use Rattle.flows.specs.Lists.{upto, all, among}
use Rattle.flows.specs.Reach.{reaches}
use Rattle.flows.specs.Flow.{Flow, residual, residual_side}
use Rattle.flows.proofs.Lists.{same_test, never_true, all_at, all_from}
use Rattle.flows.proofs.Reached.{reached_self, reached_each}
use Rattle.flows.proofs.Largest.{largest_flow_lem}
use Rattle.flows.proofs.Most.{most_exists_lem}
use Rattle.cuts.specs.Edges.{without_vertices, side}
use Rattle.cuts.specs.Choices.{In, inside}
use Rattle.cuts.specs.Cuts.{vertices_part, others, vertex_cuts, vertex_value, nearest_vertex_cut}
use Rattle.cuts.specs.Pairs.{split, crossing_vertices, VertexValueByFlow, NearestVertexCut}
use Rattle.cuts.proofs.Smallest.{Sub, size_least, size_met, smallest_each, smallest_every}
use Rattle.cuts.proofs.Standing.{all_in, in_all, find_in}
use Rattle.cuts.proofs.VertexLists.{among_filter, sub_same, apart_upto, apart_kept}
use Rattle.cuts.proofs.VertexLaws.{step_parts, kept_others}
use Rattle.cuts.proofs.VertexSplit.{split_sound, leaves_least, border}
use Rattle.cuts.proofs.VertexBorder.{no_less, reaches_exits, is_border}
use Rattle.cuts.proofs.VertexExits.{exit_step}

-- The test of a crossing vertex, by its parts: the entry, the exit, whether it is a, whether a is
-- joined to it.
abbrev crosses : Bool → Bool → Bool → Bool → Bool
crosses x y z j = (x && not y && not z) || (not x && j)

-- The start does not cross.
never_a : (x y z j : Bool) → x ≡ true → z ≡ true → crosses x y z j ≡ false
never_a x y z j p q = grind arith

-- Nor does what is neither entered nor joined to a.
never_b : (x y z j : Bool) → x ≡ false → j ≡ false → crosses x y z j ≡ false
never_b x y z j p q = grind arith

-- A neighbour of a that does not cross is entered.
enters : (x y z j : Bool) → j ≡ true → crosses x y z j ≡ false → x ≡ true
enters x y z j p q = grind arith

-- What is entered, is not a and does not cross is left.
exits : (x y z j : Bool) → x ≡ true → z ≡ false → crosses x y z j ≡ false → y ≡ true
exits x y z j p r q = grind arith

module _ (g : Graph) (a b : ℕ) (f : ℕ → ℕ → Bool) (v : ℕ) (s : Simple g) (ha : a < g.order) (hb : b < g.order) (ab : a ≡ b → ⊥) (loose : g.joined a b ≡ false)
    (fl : Flow (split g a b) a b f v) (stuck : residual_side (split g a b) f a b ≡ false) where
  -- The residual side.
  abbrev near : ℕ → Bool
  near = residual_side (split g a b) f a

  -- It has a.
  near_a : near a ≡ true
  near_a = reached_self (g.order + g.order) (residual (split g a b) f) a (omega arith)

  -- The crossing vertices, as a test and as a list.
  crossing : ℕ → Bool
  crossing q = crosses (near q) (near (g.order + q)) (eqb q a) (g.joined a q)

  cut : List ℕ
  cut = crossing_vertices g a near

  -- The list has neither end.
  cut_sub : Sub cut (others g a b)
  unfolding cut crossing
  cut_sub = kept_others g a b crossing (never_a _ _ _ _ near_a (eq-eqb a a refl)) (never_b _ _ (eqb b a) _ stuck loose)

  -- What is not in it does not cross.
  cut_off : (q : ℕ) → q < g.order → among cut q ≡ false → crossing q ≡ false
  unfolding cut crossing
  cut_off q h m = never_true _ (λ e. both_ways _ m (among_filter crossing g.order q ∙ and_from _ _ (lt-ltb q g.order h) e))

  -- What a reaches without the cut: itself, and vertices whose exit is on the side.
  Within : ℕ → Type 0
  Within q = ((q ≡ a) ⊎ (near (g.order + q) ≡ true)) × (q ≡ b → ⊥)

  -- A step between vertices that do not cross keeps to those.
  within_step : (p q : ℕ) → q < g.order → Within p → g.joined p q ≡ true → crossing q ≡ false → Within q
  unfolding Within crossing
  within_step p q hq w j off =
      let entry : near q ≡ true =
      ⊎_elim (λ i. enters (near q) (near (g.order + q)) (eqb q a) (g.joined a q) (ap (λ (x : ℕ). g.joined x q) (sym i) ∙ j) off)
      (λ d. exit_step g a b s ha hb f v fl p q d w.1 hq j (⊎_elim (λ i. absurd (d i)) (λ e. e) w.0))
      (cases_eq p a) in (
        ⊎_elim (λ i. inl i) (λ d. inr (exits (near q) (near (g.order + q)) (eqb q a) (g.joined a q) entry (ne_eqb q a d) off)) (cases_eq q a),
        λ i. both_ways (near b) stuck (ap near (sym i) ∙ entry),
      )

  -- So nothing else is reached.
  within : (q : ℕ) → reaches g.order (without_vertices g cut).joined a q ≡ true → Within q
  unfolding Within
  within =
      reached_each g.order (without_vertices g cut).joined a ha Within (inl refl, ab)
      (λ p q _ hq w e. let k = step_parts g cut p q e in within_step p q hq w k.0 (cut_off q hq k.2))

  -- And so the list parts a and b.
  cut_parts : vertices_part g a b cut ≡ true
  unfolding Within
  cut_parts = not_from_false _ (never_true _ (λ r. (within b r).1 refl))

  -- It is no longer than the value.
  cut_short : length cut ≤ v
  unfolding cut
  cut_short = omega (arith, leaves_least g a b ha near near_a stuck, (largest_flow_lem (split g a b) a b f v (split_sound g a b s) fl (omega arith) stuck).0)

  -- No list that parts them is shorter than the value, so this one is a smallest.
  pub value_is : vertex_value g a b ≡ v
  unfolding vertex_value
  value_is =
      let w = size_met (vertices_part g a b) (others g a b) cut cut_sub cut_parts in
      omega (
        arith,
        cut_short,
        size_least (vertices_part g a b) (others g a b) cut cut_sub cut_parts,
        no_less g a b s ha hb w.0 w.1 w.2 f v fl stuck,
        w.3,
      )

  -- So it is among the smallest cuts.
  cut_in : In cut (vertex_cuts g a b)
  unfolding vertex_value
  cut_in =
      smallest_every (vertices_part g a b) (others g a b) cut cut_sub cut_parts
      (omega (arith, cut_short, value_is, no_less g a b s ha hb cut cut_sub cut_parts f v fl stuck))

  -- What a smallest cut is.
  pub record Smallest (d : List ℕ) : Type 0 where
    pub sub : Sub d (others g a b)
    pub parts : vertices_part g a b d ≡ true
    pub long : length d ≡ v

  -- Every one of the smallest cuts is such.
  pub each : (d : List ℕ) → In d (vertex_cuts g a b) → Smallest d
  unfolding vertex_value
  each d i =
      let k = smallest_each (vertices_part g a b) (others g a b) d i in
      record { sub = k.0; parts = k.1; long = k.2 ∙ value_is }

  -- The cut lies nearer than every other smallest one.
  cut_inside : (d : List ℕ) → In d (vertex_cuts g a b) → inside (side (without_vertices g cut) a) (side (without_vertices g d) a) ≡ true
  unfolding Within
  cut_inside d i =
      let k = each d i in
      all_from (among (side (without_vertices g d) a)) (side (without_vertices g cut) a)
      (λ q m. ⊎_elim
      (λ e. ap (reaches g.order (without_vertices g d).joined a) e ∙ reached_self g.order (without_vertices g d).joined a ha)
      (λ e. reaches_exits g a b s ha hb d k.sub k.parts f v fl stuck k.long q e)
      (within q m).0)

  -- And it is the only one that does.
  cut_only : (d : List ℕ) → In d (vertex_cuts g a b)
      → ((e : List ℕ) → In e (vertex_cuts g a b) → inside (side (without_vertices g d) a) (side (without_vertices g e) a) ≡ true) → d ≡ cut
  cut_only d i h =
      let k = each d i in
      let l = each cut cut_in in
      let same = fun_ext (λ q. same_test _ _ (all_at _ _ (h cut cut_in) q) (all_at _ _ (cut_inside d i) q)) in
      sub_same k.sub cut_sub (apart_kept _ (upto g.order) (apart_upto g.order))
      (λ q. is_border g a b s ha hb d k.sub k.parts f v fl stuck k.long q
      ∙ ap (λ (u : ℕ → Bool). ltb q g.order && border g a b u q) same
      ∙ sym (is_border g a b s ha hb cut l.sub l.parts f v fl stuck l.long q))

  -- So it is the one that the search for the nearest finds.
  nearest_is : nearest_vertex_cut g a b ≡ cut
  unfolding nearest_vertex_cut
  nearest_is =
      let cs = vertex_cuts g a b in
      let r = find_in (λ c. all (λ d. inside (side (without_vertices g c) a) (side (without_vertices g d) a)) cs) [] cut cs cut_in (in_all _ cs cut_inside) in
      cut_only _ r.0 (λ e i. all_in _ e cs r.1 i)

  -- The two together.
  pub by_flow : (vertex_value g a b ≡ v) × (nearest_vertex_cut g a b ≡ crossing_vertices g a near)
  unfolding cut
  by_flow = (value_is, nearest_is)

  -- All that is said of the nearest cut, from a largest flow.
  pub nearest_by :
      In (nearest_vertex_cut g a b) (vertex_cuts g a b)
      × ((d : List ℕ) → In d (vertex_cuts g a b) → (vertices_part g a b d ≡ true) × (length d ≡ vertex_value g a b))
      × ((d : List ℕ) → In d (vertex_cuts g a b) → inside (side (without_vertices g (nearest_vertex_cut g a b)) a) (side (without_vertices g d) a) ≡ true)
      × ((d : List ℕ) → In d (vertex_cuts g a b)
      → ((e : List ℕ) → In e (vertex_cuts g a b) → inside (side (without_vertices g d) a) (side (without_vertices g e) a) ≡ true) → d ≡ nearest_vertex_cut g a b)
  nearest_by = (
    subst (λ (c : List ℕ). In c (vertex_cuts g a b)) (sym nearest_is) cut_in,
    (λ d i. let k = each d i in (k.parts, k.long ∙ sym value_is)),
    (λ d i. ap (λ (c : List ℕ). inside (side (without_vertices g c) a) (side (without_vertices g d) a)) nearest_is ∙ cut_inside d i),
    (λ d i h. cut_only d i h ∙ sym nearest_is),
  )

-- The theorem, with its arguments in order.
pub vertex_value_by_flow_lem : VertexValueByFlow
vertex_value_by_flow_lem g a b f v s ha hb ab loose fl stuck = by_flow g a b f v s ha hb ab loose fl stuck

-- There is a largest flow, and the cut that it gives has all that is said of the nearest.
pub nearest_cut : NearestVertexCut
nearest_cut g a b s ha hb ab loose =
    let m = most_exists_lem (split g a b) a b (split_sound g a b s) (omega arith) ab in
    nearest_by g a b m.flow m.value s ha hb ab loose m.flows m.stuck
