-- The runs of the edge computation: how many, what each of them is, and that no set of vertices
-- is left by fewer edges than the least of their values and of the degrees.
use Rattle.std.proofs.Common.{◌≡◌, ℕ, ◌-◌, ◌/◌, ◌<◌, ◌≤◌, Bool, true, false, not, eqb, ltb, List, [], ◌∷◌, map, length, sym, refl, ap, ◌∙◌, subst, inl, inr, arith}
use Rattle.std.proofs.lemmas.List.{length-map}
use Rattle.std.proofs.lemmas.Bool.{not-true, not_from_true, not_from_false, cases_eq, cases_lt, cases_Bool, both_ways, cond_both, ltb-true, eq-eqb, eqb-true}
use Rattle.graph.specs.Graph.{Graph, Simple, degree}
use Rattle.graph.proofs.Edges.{few_edges_lem}
use Rattle.flows.specs.Lists.{upto, among}
use Rattle.flows.specs.Routes.{Apart}
use Rattle.flows.specs.Flow.{leaving}
use Rattle.flows.proofs.Lists.{any_nil, among_head, among_tail, among_cases, among_upto}
use Rattle.cuts.specs.declared.edge.Edge.{Edge}
use Rattle.cuts.specs.declared.run.Run.{Run}
use Rattle.cuts.specs.Cuts.{edge_value}
use Rattle.cuts.specs.Computations.{Computed, least_degree, sparsest, least_value, probes, runs_from_first, edge_runs, edge_computation}
use Rattle.cuts.specs.Choices.{In}
use Rattle.cuts.proofs.Standing.{find_in, in_among, among_in, in_upto}
use Rattle.strength.specs.Strength.{FewEdgeRuns}
use Rattle.strength.proofs.EdgeLists.{item_map, map_item, least_default, least_item, least_is}
use Rattle.strength.proofs.EdgeSets.{Dominates, leaving_not, meets}
use Rattle.strength.proofs.EdgeProbes.{few_probes, probes_below, probes_apart, probes_dominate}
use Rattle.strength.proofs.EdgeValues.{value_below}

-- One run fewer than there are probes.
length_runs : (g : Graph) (vs : List ℕ) → length (runs_from_first g vs) ≡ length vs - 1
length_runs g [] = refl
length_runs g (v ∷ ws) = length-map ws (λ w. record { from = v; to = w; value = edge_value g v w }) ∙ omega arith

-- The computation hands on the runs, whichever way it ends.
pub computed_runs : (g : Graph) → (edge_computation g).runs ≡ edge_runs g
unfolding edge_computation
computed_runs g =
    cond_both (ltb (least_value (least_degree g) (edge_runs g)) (least_degree g)) _ _ (λ (c : Computed Edge). c.runs ≡ edge_runs g) (λ _. refl) (λ _. refl)

-- At most half the order less one.
pub few_edge_runs_lem : FewEdgeRuns
unfolding edge_runs
few_edge_runs_lem g ok two =
    rw (computed_runs g)
    (cond_both (eqb (least_degree g) 0) [] (runs_from_first g (probes g)) (λ rs. length rs ≤ g.order / 2 - 1) (λ _. omega arith) (λ _. omega (arith, length_runs g (probes g), few_probes g ok)))

-- The least degree is no more than any.
pub least_degree_below : (g : Graph) (p : ℕ) → p < g.order → least_degree g ≤ degree g p
least_degree_below g p l = least_item g.order (degree g p) (map (degree g) (upto g.order)) (item_map (degree g) p (upto g.order) (in_upto g.order p l))

-- Some vertex has the least degree.
least_degree_met : (g : Graph) → Simple g → (p : ℕ) × In p (upto g.order) × (least_degree g ≡ degree g p)
least_degree_met g ok =
    elim (least_is g.order (map (degree g) (upto g.order))) [
      | inl e ↦ absurd (omega (arith, least_degree_below g 0 ok.some, (few_edges_lem g ok).1 0))
      | inr i ↦ map_item (degree g) (least_degree g) (upto g.order) i
    ]

-- The sparsest vertex has it.
pub sparsest_is : (g : Graph) → Simple g → (sparsest g < g.order) × (degree g (sparsest g) ≡ least_degree g)
sparsest_is g ok =
    let m = least_degree_met g ok in
    let f = find_in (λ v. eqb (degree g v) (least_degree g)) 0 m.0 (upto g.order) m.1 (eq-eqb _ _ (sym m.2)) in
    (ltb-true _ _ (sym (among_upto g.order (sparsest g)) ∙ in_among (sparsest g) (upto g.order) f.0), eqb-true _ _ f.1)

-- One run.
abbrev run : Graph → ℕ → ℕ → Run
run g v w = record { from = v; to = w; value = edge_value g v w }

-- What each run is: two different vertices and their edge value.
pub record Honest (g : Graph) (r : Run) : Type 0 where
  pub from_in : r.from < g.order
  pub to_in : r.to < g.order
  pub differ : r.from ≡ r.to → ⊥
  pub valued : r.value ≡ edge_value g r.from r.to

-- The runs from the first of some vertices are such.
honest_from : (g : Graph) (vs : List ℕ) → ((v : ℕ) → among vs v ≡ true → v < g.order) → Apart vs → (r : Run) → In r (runs_from_first g vs) → Honest g r
honest_from g [] below apart r i = absurd i
honest_from g (v ∷ ws) below apart r i =
    let m = map_item (run g v) r ws i in
    subst (Honest g) (sym m.2)
    (record {
      from_in = below v (among_head v ws);
      to_in = below m.0 (among_tail v ws m.0 (in_among m.0 ws m.1));
      differ = λ e. both_ways _ apart.0 (ap (among ws) e ∙ in_among m.0 ws m.1);
      valued = refl;
    })

-- So are those of the computation.
pub honest : (g : Graph) → Simple g → (r : Run) → In r (edge_runs g) → Honest g r
unfolding edge_runs
honest g ok r =
    cond_both (eqb (least_degree g) 0) [] (runs_from_first g (probes g)) (λ (rs : List Run). In r rs → Honest g r)
    (λ _ i. absurd i) (λ _. honest_from g (probes g) (probes_below g ok) (probes_apart g ok) r)

-- The least value is no more than that of each run.
run_least : (g : Graph) (d v w : ℕ) (ws : List ℕ) → In w ws → least_value d (runs_from_first g (v ∷ ws)) ≤ edge_value g v w
run_least g d v w ws i =
    least_item d (edge_value g v w) (map (λ (r : Run). r.value) (map (run g v) ws)) (item_map (λ (r : Run). r.value) (run g v w) (map (run g v) ws) (item_map (run g v) w ws i))

module _ (g : Graph) (ok : Simple g) where
  -- A probe that is not the first is run against the first.
  other : (v w : ℕ) (ws : List ℕ) (u : ℕ → Bool) → among (v ∷ ws) w ≡ true → u v ≡ true → u w ≡ false → In w ws
  other v w ws u h uv uw =
      elim (among_cases v ws w h) [ inl e ↦ absurd (both_ways (u w) uw (ap u e ∙ uv)) | inr k ↦ among_in w ws k ]

  -- The first of dominating vertices, run against the others: a set with one vertex in it and one
  -- outside is left by no fewer edges than the least value.
  runs_bound : (vs : List ℕ) → Dominates g (among vs) → ((v : ℕ) → among vs v ≡ true → v < g.order)
      → (u : ℕ → Bool) (p q : ℕ) → p < g.order → q < g.order → u p ≡ true → u q ≡ false
      → least_value (least_degree g) (runs_from_first g vs) ≤ leaving g.order g.joined u
  runs_bound [] dom below u p q hp hq up uq =
      elim (dom p hp) [ inl e ↦ absurd (both_ways _ (any_nil (eqb p)) e) | inr w ↦ absurd (both_ways _ (any_nil (eqb w.0)) w.2) ]
  runs_bound (v ∷ ws) dom below u p q hp hq up uq =
      elim (cases_lt (leaving g.order g.joined u) k) [
        | inr l ↦ l
        | inl few ↦
            (elim (cases_Bool (u v)) [
              | inl uv ↦
                  (let m = meets g ok (among (v ∷ ws)) (λ x. not (u x)) dom k low (omega (arith, leaving_not g ok u)) q hq (not_from_false _ uq) in
                  let out = not-true _ m.3 in
                  let i = other v m.0 ws u m.2 uv out in
                  omega (arith, run_least g (least_degree g) v m.0 ws i, value_below g ok u v m.0 (below v (among_head v ws)) uv out))
              | inr uv ↦
                  (let m = meets g ok (among (v ∷ ws)) u dom k low few p hp up in
                  let i = other v m.0 ws (λ x. not (u x)) m.2 (not_from_false _ uv) (not_from_true _ m.3) in
                  omega (
                    arith,
                    run_least g (least_degree g) v m.0 ws i,
                    leaving_not g ok u,
                    value_below g ok (λ x. not (u x)) v m.0 (below v (among_head v ws)) (not_from_false _ uv) (not_from_true _ m.3),
                  ))
            ])
      ]
    where
      -- The least of the degrees and the values.
      k : ℕ
      k = least_value (least_degree g) (runs_from_first g (v ∷ ws))

      -- It is no more than any degree.
      low : (x : ℕ) → x < g.order → k ≤ degree g x
      low x h = omega (arith, least_default (least_degree g) (map (λ (r : Run). r.value) (runs_from_first g (v ∷ ws))), least_degree_below g x h)

  -- So with the runs of the computation.
  pub least_bound : (u : ℕ → Bool) (p q : ℕ) → p < g.order → q < g.order → u p ≡ true → u q ≡ false
      → least_value (least_degree g) (edge_runs g) ≤ leaving g.order g.joined u
  unfolding edge_runs
  least_bound u p q hp hq up uq =
      cond_both (eqb (least_degree g) 0) [] (runs_from_first g (probes g)) (λ (rs : List Run). least_value (least_degree g) rs ≤ leaving g.order g.joined u)
      (λ e. omega (arith, eqb-true _ _ e, least_default (least_degree g) []))
      (λ e. runs_bound (probes g) (probes_dominate g ok (λ x h. some x h e)) (probes_below g ok) u p q hp hq up uq)
    where
      -- Each vertex has a neighbour.
      some : (x : ℕ) → x < g.order → eqb (least_degree g) 0 ≡ false → 0 < degree g x
      some x h e = elim (cases_eq (least_degree g) 0) [ inl z ↦ absurd (both_ways _ e (eq-eqb _ _ z)) | inr d ↦ omega (arith, d, least_degree_below g x h) ]
