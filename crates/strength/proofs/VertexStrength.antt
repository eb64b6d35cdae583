-- The strength of the vertex computation is the vertex connectivity, and no vertex cut is
-- smaller.
use Rattle.std.proofs.Common.{◌≡◌, ℕ, suc, ◌-◌, ◌<◌, ◌≤◌, Bool, true, false, not, ◌||◌, eqb, List, [], None, filter, sym, refl, ap, ◌∙◌, subst, ap₂, inl, inr, arith}
use Rattle.std.proofs.lemmas.Bool.{cases_lt, cases_Bool, both_ways, or_parts, or_from, not-true, not_from_false, eq-eqb, ne_eqb, cond-true, cond-false}
use Rattle.graph.specs.Graph.{Graph, Simple, count}
use Rattle.graph.proofs.Counts.{count_zero, count_most}
use Rattle.flows.specs.Lists.{upto, among}
use Rattle.cuts.specs.declared.run.Run.{Run}
use Rattle.cuts.specs.Cuts.{vertex_connectivity, complete}
use Rattle.cuts.specs.Computations.{Computed, least_degree, sparsest, least_value, far_runs, more_runs, vertex_runs, settle_vertices, vertex_computation}
use Rattle.cuts.specs.Choices.{In}
use Rattle.cuts.proofs.Smallest.{kept_in, kept_out}
use Rattle.cuts.proofs.Standing.{in_upto, upto_below}
use Rattle.strength.proofs.EdgeLists.{item_map, map_item}
use Rattle.strength.proofs.EdgeRuns.{least_degree_below, sparsest_is}
use Rattle.strength.specs.Strength.{NoSmallerVertexCut, VertexStrength}
use Rattle.strength.proofs.VertexCounts.{count_among}
use Rattle.strength.proofs.VertexSets.{Separation, rest, rest_from, turned, sides_unjoined}
use Rattle.strength.proofs.VertexCore.{Pinned}
use Rattle.strength.proofs.VertexCross.{crossing}
use Rattle.strength.proofs.VertexValue.{cut_separates}
use Rattle.strength.proofs.VertexLeast.{cut_size, cut_least, Smallest, cut_met, value_least, value_most, incomplete_cut, complete_uncut}
use Rattle.strength.proofs.VertexLists.{least_below, least_met, upto_up}
use Rattle.strength.proofs.VertexRuns.{run_of, Fair, Fairs, Ahead, Due, rounds_from, rounds_fair, rounds_find}

-- The far runs are of unjoined vertices, and have every vertex that r is not joined to.
pub far_fair : (g : Graph) (r : ℕ) → r < g.order → Fairs g (far_runs g r)
far_fair g r l run i =
    let c = map_item (run_of g r) run (filter (λ v. not (eqb v r || g.joined r v)) (upto g.order)) i in
    let k = kept_out (λ v. not (eqb v r || g.joined r v)) c.0 (upto g.order) c.1 in
    let o = or_parts (eqb c.0 r) (g.joined r c.0) (not-true _ k.1) in
    subst (Fair g) (sym c.2)
    (record { from_below = l; to_below = upto_below g.order c.0 k.0; differ = λ e. both_ways _ o.0 (eq-eqb c.0 r (sym e)); unjoined = o.1; worth = refl })

-- A vertex that r is not joined to has its far run.
far_has : (g : Graph) (r v : ℕ) → v < g.order → (v ≡ r → ⊥) → g.joined r v ≡ false → In (run_of g r v) (far_runs g r)
far_has g r v l d off =
    item_map (run_of g r) v (filter (λ v. not (eqb v r || g.joined r v)) (upto g.order))
    (kept_in (λ v. not (eqb v r || g.joined r v)) v (upto g.order) (in_upto g.order v l) (not_from_false _ (or_from _ _ (ne_eqb v r d) off)))

-- The value of a far run is at most the size of any separation with r on a side.
far_side : (g : Graph) (r : ℕ) → r < g.order → (T M : ℕ → Bool) → Separation g T M → M r ≡ true → least_value g.order (far_runs g r) ≤ count T g.order
far_side g r l T M k h =
    omega (
      arith,
      value_least g T M k r k.there l h k.there_out k.there_off,
      least_below (λ (x : Run). x.value) g.order (far_runs g r) (run_of g r k.there)
          (far_has g r k.there k.there_below (λ e. both_ways _ k.there_out (ap M e ∙ h)) (sides_unjoined g T M k r k.there h k.there_out k.there_off)),
    )

-- So some far run has at most the size of any separation that misses r.
far_misses : (g : Graph) → Simple g → (r : ℕ) → r < g.order → (T M : ℕ → Bool) → Separation g T M → T r ≡ false → least_value g.order (far_runs g r) ≤ count T g.order
far_misses g s r l T M k off =
    elim (cases_Bool (M r)) [
      | inl e ↦ far_side g r l T M k e
      | inr e ↦ far_side g r l T (rest T M) (turned g s T M k) (rest_from T M r e off)
    ]

-- The runs as rounds along the vertices.
pub runs_are : (g : Graph) (s : Simple g) → vertex_runs g ≡ rounds_from g s (sparsest g) (least_degree g) 0 g.order (far_runs g (sparsest g))
unfolding vertex_runs
runs_are g s =
    ap₂ (λ (i : ℕ) (l : List ℕ). more_runs g (least_degree g) i (filter (g.joined (sparsest g)) l) (far_runs g (sparsest g)))
    (ap suc (sym (count_zero (g.joined (sparsest g))))) (upto_up g.order)

-- All runs are of unjoined vertices.
pub runs_fair : (g : Graph) → Simple g → Fairs g (vertex_runs g)
runs_fair g s =
    subst (Fairs g) (sym (runs_are g s))
    (rounds_fair g s (sparsest g) (least_degree g) g.order 0 (far_runs g (sparsest g)) (omega arith) (far_fair g (sparsest g) (sparsest_is g s).0))

-- A pair that the rounds try has the size of a smallest cut, if no far run has.
found_ahead : (g : Graph) → Simple g → Smallest g → cut_size g < least_value g.order (far_runs g (sparsest g)) → Ahead g (sparsest g) (least_degree g) (cut_size g) 0
found_ahead g s m high =
    let r = sparsest g in
    let p = sparsest_is g s in
    let all : (T M : ℕ → Bool) → Separation g T M → count T g.order ≡ count m.cut g.order → T r ≡ true =
    λ T M k e. elim (cases_Bool (T r)) [ inl h ↦ h | inr h ↦ absurd (omega (arith, far_misses g s r p.0 T M k h, m.many)) ] in
    let pin : Pinned g m.cut r = record {
      below = p.0;
      inside = all m.cut m.side m.separation refl;
      lowest = λ v l. omega (arith, p.1, least_degree_below g v l);
      least = λ T M k. omega (arith, m.many, cut_least g T M k);
      every = all;
    } in
    let c = crossing g s m.cut r pin m.side m.separation in
    record {
      x = c.x;
      y = c.y;
      from = omega arith;
      ascend = c.ascend;
      x_joined = c.x_joined;
      y_joined = c.y_joined;
      unjoined = sides_unjoined g m.cut c.side c.separation c.x c.y c.x_in c.y_out c.y_off;
      early = omega (arith, c.early, p.1);
      soon = omega (arith, c.soon, m.many);
      inner = omega (arith, c.inner, p.1);
      worth = omega (arith, m.many, value_least g m.cut c.side c.separation c.x c.y (s.bounded r c.x c.x_joined).1 c.x_in c.y_out c.y_off);
    }

-- The size of a smallest cut is found by the far runs, or is ahead.
pub due : (g : Graph) → Simple g → Smallest g → Due g (sparsest g) (least_degree g) (cut_size g) 0 (far_runs g (sparsest g))
due g s m = elim (cases_lt (cut_size g) (least_value g.order (far_runs g (sparsest g)))) [ inl l ↦ inr (found_ahead g s m l) | inr l ↦ inl l ]

-- A smallest cut of a graph that is not complete.
pub smallest_cut : (g : Graph) → Simple g → complete g ≡ false → Smallest g
smallest_cut g s h = let k = incomplete_cut g s h in cut_met g s k.0 k.1 k.2

-- The least value of the runs is the size of a smallest cut.
pub least_is : (g : Graph) → Simple g → complete g ≡ false → least_value g.order (vertex_runs g) ≡ cut_size g
least_is g s h =
    let m = smallest_cut g s h in
    let above = rounds_find g s (sparsest g) (least_degree g) (cut_size g) g.order 0 (far_runs g (sparsest g)) (omega arith) (due g s m) in
    let e = ap (least_value g.order) (runs_are g s) in
    let below : cut_size g ≤ least_value g.order (vertex_runs g) =
    elim (least_met (λ (x : Run). x.value) g.order (vertex_runs g)) [
      | inl q ↦ omega (arith, q, m.many, count_most m.cut g.order)
      | inr w ↦
          (let f = runs_fair g s w.0 w.1 in
          omega (arith, w.2, f.worth, value_most g s w.0.from w.0.to f.from_below f.to_below f.differ f.unjoined))
    ] in
    omega (arith, above, e, below)

-- The computation on a graph that is not complete.
pub computed_runs : (g : Graph) → complete g ≡ false → vertex_computation g ≡ settle_vertices g (vertex_runs g) (least_value g.order (vertex_runs g))
unfolding vertex_computation
computed_runs g h =
    cond-false (complete g) (record { strength = g.order - 1; runs = []; pair = None; cut = [] }) (settle_vertices g (vertex_runs g) (least_value g.order (vertex_runs g))) h

-- On a complete graph there is nothing to run.
pub computed_whole : (g : Graph) → complete g ≡ true → vertex_computation g ≡ record { strength = g.order - 1; runs = []; pair = None; cut = [] }
unfolding vertex_computation
computed_whole g h =
    cond-true (complete g) (record { strength = g.order - 1; runs = []; pair = None; cut = [] }) (settle_vertices g (vertex_runs g) (least_value g.order (vertex_runs g))) h

-- On any other graph the strength is the size of a smallest cut.
pub strength_is : (g : Graph) → Simple g → complete g ≡ false → (vertex_computation g).strength ≡ cut_size g
strength_is g s h = ap (λ (c : Computed ℕ). c.strength) (computed_runs g h) ∙ least_is g s h

-- No vertex cut is smaller than the strength.
pub no_smaller : NoSmallerVertexCut
no_smaller g s two c h =
    let k = cut_separates g s c h in
    elim (cases_Bool (complete g)) [
      | inl e ↦ absurd (complete_uncut g s e (among c) k.0 k.1)
      | inr e ↦ omega (arith, strength_is g s e, cut_least g (among c) k.0 k.1, count_among c g.order)
    ]

-- The strength is the connectivity.
pub vertex_strength_lem : VertexStrength
unfolding vertex_connectivity
vertex_strength_lem g s two =
    elim (cases_Bool (complete g)) [
      | inl e ↦ ap (λ (c : Computed ℕ). c.strength) (computed_whole g e) ∙ sym (cond-true (complete g) (g.order - 1) (cut_size g) e)
      | inr e ↦ strength_is g s e ∙ sym (cond-false (complete g) (g.order - 1) (cut_size g) e)
    ]
