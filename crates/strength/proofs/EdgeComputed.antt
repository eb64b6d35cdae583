-- The edge computation: its strength is the edge connectivity, no cut is smaller, the pair that
-- it names has that value, its cut parts that pair, and its runs have the values of theirs.
use Rattle.std.proofs.Common.{◌≡◌, ℕ, ◌<◌, ◌≤◌, Bool, true, false, cond, not, ◌&&◌, ◌||◌, eqb, ltb, ◌⊎◌, List, [], ◌∷◌, map, length, Some, filter, sym, refl, ap, ◌∙◌, ap₂, subst, inl, inr, arith}
use mathlib.Core.Path.{fun_ext}
use Rattle.std.proofs.lemmas.Bool.Decides.{nat_tests}
use Rattle.std.proofs.lemmas.Bool.{cases_eq, cases_Bool, cond-true, cond-false, cond_both, ltb-true, ltb-false, eq-eqb, eqb-true, ne_eqb}
use Rattle.graph.specs.Graph.{Graph, Simple}
use Rattle.cuts.specs.declared.edge.Edge.{Edge}
use Rattle.cuts.specs.declared.run.Run.{Run}
use Rattle.cuts.specs.Cuts.{edges_part, edge_value, nearest_edge_cut, is_edge_cut, edge_connectivity}
use Rattle.cuts.specs.Edges.{edge_list}
use Rattle.cuts.specs.Pairs.{crossing_edges, EdgeValueLaws}
use Rattle.cuts.specs.Computations.{Computed, least_degree, sparsest, least_value, first_with, pair_of, edge_runs, edges_at, edge_computation}
use Rattle.cuts.specs.Choices.{In, smallest, size}
use Rattle.cuts.proofs.Smallest.{Sub, kept_sub, smallest_each}
use Rattle.cuts.proofs.Standing.{find_in, sub_in}
use Rattle.cuts.proofs.EdgeLists.{edge_out, crossing_count}
use Rattle.cuts.proofs.EdgeNearest.{nearest_edge_cut_laws, parts_turn}
use Rattle.strength.specs.Strength.{EdgeRunsTrue, NoSmallerEdgeCut, EdgeStrength, EdgePair, EdgeCutFound, EdgeCutParts}
use Rattle.strength.proofs.EdgeLists.{map_item, least_default, least_is}
use Rattle.strength.proofs.EdgeCrossing.{crossing_parts, rest, rest_self, rest_parts, rest_left}
use Rattle.strength.proofs.EdgeValues.{value_below, value_degree, value_met, parts_cut, cut_parts, connectivity_below, connectivity_met}
use Rattle.strength.proofs.EdgeSets.{leaving_one}
use Rattle.strength.proofs.EdgeRuns.{sparsest_is, honest, least_bound}

-- The least of the degrees and of the values of the runs.
abbrev lowest : Graph → ℕ
lowest g = least_value (least_degree g) (edge_runs g)

-- It is no more than the least degree.
lowest_below : (g : Graph) → lowest g ≤ least_degree g
lowest_below g = least_default (least_degree g) (map (λ (r : Run). r.value) (edge_runs g))

-- That is the strength.
strength_is : (g : Graph) → (edge_computation g).strength ≡ lowest g
unfolding edge_computation
strength_is g =
    cond_both (ltb (lowest g) (least_degree g)) _ _ (λ (c : Computed Edge). c.strength ≡ lowest g)
    (λ _. refl) (λ e. omega (arith, ltb-false _ _ e, lowest_below g))

-- It is a degree, or the value of a run, and then the first such run has it.
lowest_met : (g : Graph) → (lowest g ≡ least_degree g) ⊎ (In (first_with (lowest g) (edge_runs g)) (edge_runs g) × ((first_with (lowest g) (edge_runs g)).value ≡ lowest g))
lowest_met g =
    elim (least_is (least_degree g) (map (λ (r : Run). r.value) (edge_runs g))) [
      | inl e ↦ inl e
      | inr i ↦
          (let m = map_item (λ (r : Run). r.value) (lowest g) (edge_runs g) i in
          let f = find_in (λ (r : Run). eqb r.value (lowest g)) (record { from = 0; to = 0; value = 0 }) m.0 (edge_runs g) m.1 (eq-eqb _ _ (sym m.2)) in
          inr (f.0, eqb-true _ _ f.1))
    ]

-- No edge cut is smaller.
cut_lowest : (g : Graph) → Simple g → (c : List Edge) → is_edge_cut g c ≡ true → lowest g ≤ length c
cut_lowest g ok c e =
    let w = cut_parts g ok c e in
    omega (arith, least_bound g ok (rest g ok c w.0) w.0 w.1 w.2 w.3 (rest_self g ok c w.0 w.2) (rest_parts g ok c w.0 w.1 w.2 w.4), rest_left g ok c w.0 w.2)

-- So no edge cut is smaller than the strength.
pub no_smaller_edge_cut_lem : NoSmallerEdgeCut
no_smaller_edge_cut_lem g ok two c e = omega (arith, strength_is g, cut_lowest g ok c e)

-- No edge value is smaller.
value_lowest : (g : Graph) → Simple g → (a b : ℕ) → a < g.order → b < g.order → (a ≡ b → ⊥) → lowest g ≤ edge_value g a b
value_lowest g ok a b ha hb d =
    let m = value_met g ok a b ha d in
    omega (arith, cut_lowest g ok m.0 (parts_cut g ok m.0 a b ha hb m.2), m.3)

-- Another vertex than r.
another : ℕ → ℕ
another r = cond (eqb r 0) 1 0

-- It is one, and another.
another_is : (n r : ℕ) → 2 ≤ n → (another r < n) × (r ≡ another r → ⊥)
unfolding another
another_is n r two =
    elim (cases_eq r 0) [
      | inl e ↦ (let z : ◌≡◌ {A = ℕ} (another r) 1 = cond-true (eqb r 0) 1 0 (eq-eqb r 0 e) in (omega arith, λ h. omega arith))
      | inr d ↦ (let z : ◌≡◌ {A = ℕ} (another r) 0 = cond-false (eqb r 0) 1 0 (ne_eqb r 0 d) in (omega arith, λ h. omega (arith, d)))
    ]

-- The connectivity is no more than the least degree.
connectivity_degree : (g : Graph) → Simple g → 2 ≤ g.order → edge_connectivity g ≤ least_degree g
connectivity_degree g ok two =
    let r = sparsest_is g ok in
    let x = another_is g.order (sparsest g) two in
    omega (arith, connectivity_below g ok (sparsest g) (another (sparsest g)) r.0 x.0 x.1, value_degree g ok (sparsest g) (another (sparsest g)) r.0 x.1, r.1)

-- Nor more than the strength.
connectivity_lowest : (g : Graph) → Simple g → 2 ≤ g.order → edge_connectivity g ≤ lowest g
connectivity_lowest g ok two =
    elim (lowest_met g) [
      | inl e ↦ omega (arith, connectivity_degree g ok two)
      | inr m ↦ (let h = honest g ok (first_with (lowest g) (edge_runs g)) m.0 in omega (arith, m.1, h.valued, connectivity_below g ok _ _ h.from_in h.to_in h.differ))
    ]

-- And a smallest cut is no smaller than the strength.
pub edge_strength_lem : EdgeStrength
edge_strength_lem g ok two =
    let m = connectivity_met g ok two in
    omega (arith, strength_is g, connectivity_lowest g ok two, cut_lowest g ok m.0 m.1, m.2)

-- The pair that is named where a run is below the least degree.
pair_run : (g : Graph) → ltb (lowest g) (least_degree g) ≡ true → (edge_computation g).pair ≡ pair_of (first_with (lowest g) (edge_runs g))
unfolding edge_computation
pair_run g e = ap (λ (c : Computed Edge). c.pair) (cond-true (ltb (lowest g) (least_degree g)) _ _ e)

-- And where none is.
pair_sparsest : (g : Graph) → ltb (lowest g) (least_degree g) ≡ false → (edge_computation g).pair ≡ Some (sparsest g, another (sparsest g))
unfolding edge_computation another
pair_sparsest g e = ap (λ (c : Computed Edge). c.pair) (cond-false (ltb (lowest g) (least_degree g)) _ _ e)

-- The cut where a run is below the least degree, and where none is.
cut_run : (g : Graph) → ltb (lowest g) (least_degree g) ≡ true
    → (edge_computation g).cut ≡ nearest_edge_cut g (first_with (lowest g) (edge_runs g)).from (first_with (lowest g) (edge_runs g)).to
unfolding edge_computation
cut_run g e = ap (λ (c : Computed Edge). c.cut) (cond-true (ltb (lowest g) (least_degree g)) _ _ e)

cut_sparsest : (g : Graph) → ltb (lowest g) (least_degree g) ≡ false → (edge_computation g).cut ≡ edges_at g (sparsest g)
unfolding edge_computation
cut_sparsest g e = ap (λ (c : Computed Edge). c.cut) (cond-false (ltb (lowest g) (least_degree g)) _ _ e)

-- Tests that agree on a list keep the same of it.
kept_same : (p q : Edge → Bool) (xs : List Edge) → ((e : Edge) → In e xs → p e ≡ q e) → filter p xs ≡ filter q xs
kept_same p q [] h = refl
kept_same p q (x ∷ xs) h =
    ap₂ (λ (b : Bool) (ys : List Edge). cond b (x ∷ ys) ys) (h x (inl refl)) (kept_same p q xs (λ e i. h e (inr i)))

-- The edges at a vertex are those that cross the set of it alone.
edges_at_cross : (g : Graph) (r : ℕ) → edges_at g r ≡ crossing_edges g (λ q. eqb q r)
edges_at_cross g r = kept_same _ _ (edge_list g) (λ e i. one_end e.low e.high (edge_out g e i).0)
  where
    one_end : (l h : ℕ) → l < h → (eqb l r || eqb h r) ≡ ((eqb l r && not (eqb h r)) || (eqb h r && not (eqb l r)))
    one_end l h lt = grind (arith, nat_tests)

-- The named pair and the cut: two different vertices whose value is the strength, and as many
-- edges of the graph, which part them.
pub record Shown (g : Graph) : Type 0 where
  pub from : ℕ
  pub to : ℕ
  pub named : (edge_computation g).pair ≡ Some (from, to)
  pub from_in : from < g.order
  pub to_in : to < g.order
  pub differ : from ≡ to → ⊥
  pub valued : edge_value g from to ≡ (edge_computation g).strength
  pub edges : Sub (edge_computation g).cut (edge_list g)
  pub parted : edges_part g from to (edge_computation g).cut ≡ true
  pub sized : length (edge_computation g).cut ≡ (edge_computation g).strength

-- Where a run is below the least degree, they are the first such run and its nearest cut.
shown_run : (g : Graph) → Simple g → ltb (lowest g) (least_degree g) ≡ true → In (first_with (lowest g) (edge_runs g)) (edge_runs g)
    → (first_with (lowest g) (edge_runs g)).value ≡ lowest g → Shown g
shown_run g ok e i least =
    let r = first_with (lowest g) (edge_runs g) in
    let h = honest g ok r i in
    let laws = nearest_edge_cut_laws g r.from r.to ok h.from_in h.to_in h.differ in
    let near = laws.1 (nearest_edge_cut g r.from r.to) laws.0 in
    let sub = (smallest_each (edges_part g r.from r.to) (edge_list g) _ laws.0).0 in
    let worth = sym h.valued ∙ least ∙ sym (strength_is g) in
    record {
      from = r.from;
      to = r.to;
      named = pair_run g e;
      from_in = h.from_in;
      to_in = h.to_in;
      differ = h.differ;
      valued = worth;
      edges = subst (λ (c : List Edge). Sub c (edge_list g)) (sym (cut_run g e)) sub;
      parted = ap (edges_part g r.from r.to) (cut_run g e) ∙ near.0;
      sized = ap length (cut_run g e) ∙ near.1 ∙ worth;
    }

-- Where none is, they are the sparsest vertex beside another, and the edges at it.
shown_sparsest : (g : Graph) → Simple g → 2 ≤ g.order → ltb (lowest g) (least_degree g) ≡ false → Shown g
shown_sparsest g ok two e =
    let r = sparsest_is g ok in
    let s = sparsest g in
    let x = another_is g.order s two in
    let b = another s in
    let alone = ne_eqb b s (λ q. x.1 (sym q)) in
    let at = cut_sparsest g e ∙ edges_at_cross g s in
    let count = leaving_one g ok s in
    let size = crossing_count g ok (λ q. eqb q s) in
    let most = value_below g ok (λ q. eqb q s) s b r.0 (eq-eqb s s refl) alone in
    let least = value_lowest g ok s b r.0 x.0 x.1 in
    let bound = ltb-false _ _ e in
    record {
      from = s;
      to = b;
      named = pair_sparsest g e;
      from_in = r.0;
      to_in = x.0;
      differ = x.1;
      valued = omega (arith, bound, lowest_below g, strength_is g, r.1, count, most, least);
      edges =
          subst (λ (c : List Edge). Sub c (edge_list g)) (sym (cut_sparsest g e))
          (kept_sub (λ (y : Edge). eqb y.low s || eqb y.high s) (edge_list g));
      parted = ap (edges_part g s b) at ∙ crossing_parts g ok (λ q. eqb q s) s b r.0 (eq-eqb s s refl) alone;
      sized = ap length at ∙ omega (arith, size, count, r.1, bound, lowest_below g, strength_is g, most, least);
    }

-- So there are such in both cases.
pub edge_shown : (g : Graph) → Simple g → 2 ≤ g.order → Shown g
edge_shown g ok two =
    elim (cases_Bool (ltb (lowest g) (least_degree g))) [
      | inl e ↦
          (elim (lowest_met g) [
            | inl z ↦ absurd (omega (arith, z, ltb-true _ _ e))
            | inr m ↦ shown_run g ok e m.0 m.1
          ])
      | inr e ↦ shown_sparsest g ok two e
    ]

-- The value of the named pair is the strength.
pub edge_pair_lem : EdgePair
edge_pair_lem g ok two = let s = edge_shown g ok two in (s.from, s.to, s.named, s.from_in, s.to_in, s.differ, s.valued)

-- The cut is an edge cut of the strength's size.
pub edge_cut_found_lem : EdgeCutFound
edge_cut_found_lem g ok two =
    let s = edge_shown g ok two in
    (parts_cut g ok _ s.from s.to s.from_in s.to_in s.parted, s.sized)

-- It is made of edges of the graph, and parts the named pair.
pub edge_cut_parts_lem : EdgeCutParts
edge_cut_parts_lem g ok two =
    let s = edge_shown g ok two in
    (s.from, s.to, s.named, λ e i. sub_in s.edges e i, s.parted)

-- The value has no direction.
value_turn : (g : Graph) → Simple g → (a b : ℕ) → a < g.order → b < g.order → edge_value g a b ≡ edge_value g b a
unfolding edge_value
value_turn g ok a b ha hb = ap (λ (p : List Edge → Bool). size (smallest p (edge_list g))) (fun_ext (parts_turn g ok a b ha hb))

-- Values are the same both ways, and at most the degree of either end.
pub edge_value_laws_lem : EdgeValueLaws
edge_value_laws_lem g a b ok ha hb ne =
    let turn = value_turn g ok a b ha hb in
    (turn, value_degree g ok a b ha ne, omega (arith, turn, value_degree g ok b a hb (λ e. ne (sym e))))

-- The runs are those that were made.
runs_are : (g : Graph) → (edge_computation g).runs ≡ edge_runs g
unfolding edge_computation
runs_are g =
    cond_both (ltb (lowest g) (least_degree g)) _ _ (λ (c : Computed Edge). c.runs ≡ edge_runs g)
    (λ _. refl) (λ _. refl)

-- Each has the value of its pair, which are two vertices.
pub edge_runs_true_lem : EdgeRunsTrue
edge_runs_true_lem g ok two r i =
    let h = honest g ok r (subst (λ (rs : List Run). In r rs) (runs_are g) i) in
    (h.from_in, h.to_in, h.differ, h.valued)
