-- The pair that the vertex computation names, and how many runs it takes.
use Rattle.std.proofs.Common.{◌≡◌, ℕ, suc, ◌+◌, ◌-◌, ◌*◌, ◌/◌, ◌<◌, ◌≤◌, Bool, false, not, ◌||◌, eqb, leb, ◌⊎◌, List, length, take, filter, sym, refl, ap, ◌∙◌, subst, ap₂, inl, inr, arith, length-append, length-take}
use lib.ListN.{length-map}
use Rattle.std.proofs.lemmas.Bool.{cases_Bool, and_parts, or_left, eq-eqb, ne_eqb, eqb-true, leb-true}
use Rattle.graph.specs.Graph.{Graph, Simple, count, degree}
use Rattle.graph.proofs.Counts.{count_zero, count_miss, count_one}
use Rattle.flows.specs.Lists.{upto}
use Rattle.cuts.specs.declared.run.Run.{Run}
use Rattle.cuts.specs.Cuts.{complete}
use Rattle.cuts.specs.Computations.{Computed, least_degree, sparsest, least_value, first_with, far_runs, vertex_runs, vertex_computation}
use Rattle.cuts.specs.Choices.{In}
use Rattle.cuts.proofs.Smallest.{sub_length, kept_sub}
use Rattle.cuts.proofs.Standing.{find_in}
use Rattle.strength.proofs.EdgeRuns.{least_degree_below, sparsest_is}
use Rattle.strength.specs.Strength.{VertexPair, FewVertexRuns}
use Rattle.strength.proofs.VertexCounts.{count_up, count_rest}
use Rattle.strength.proofs.VertexSets.{around, some_unjoined}
use Rattle.cuts.proofs.EdgeLists.{kept_count}
use Rattle.strength.proofs.VertexLeast.{cut_size, cut_least, Smallest}
use Rattle.strength.proofs.VertexLists.{least_met, count_on, count_off, up}
use Rattle.strength.proofs.VertexRuns.{run_of, Due, place, rounds_from, round, follow, due_skip, due_on}
use Rattle.strength.proofs.VertexStrength.{runs_are, runs_fair, due, smallest_cut, least_is, computed_runs, computed_whole, strength_is}

-- A smallest cut leaves a vertex out.
cut_below : (g : Graph) → Smallest g → cut_size g < g.order
cut_below g m =
    omega (arith, m.many, count_miss m.cut m.separation.here g.order m.separation.here_below (m.separation.disjoint m.separation.here m.separation.here_in))

-- The run that the pair is taken from: it stands among the runs, and has the least value.
pub named : (g : Graph) → Simple g → complete g ≡ false
    → In (first_with (least_value g.order (vertex_runs g)) (vertex_runs g)) (vertex_runs g)
    × ((first_with (least_value g.order (vertex_runs g)) (vertex_runs g)).value ≡ least_value g.order (vertex_runs g))
named g s h =
    elim (least_met (λ (x : Run). x.value) g.order (vertex_runs g)) [
      | inl e ↦ absurd (omega (arith, e, least_is g s h, cut_below g (smallest_cut g s h)))
      | inr w ↦
          (let r = find_in (λ (x : Run). eqb x.value (least_value g.order (vertex_runs g))) (record { from = 0; to = 0; value = 0 }) w.0 (vertex_runs g) w.1 (eq-eqb _ _ w.2) in
          (r.0, eqb-true _ _ r.1))
    ]

-- The named pair are two unjoined vertices whose value is the strength.
pub vertex_pair_lem : VertexPair
vertex_pair_lem g s two h =
    let c = computed_runs g h in
    let n = named g s h in
    let f = runs_fair g s (first_with (least_value g.order (vertex_runs g)) (vertex_runs g)) n.0 in (
      (first_with (least_value g.order (vertex_runs g)) (vertex_runs g)).from,
      (first_with (least_value g.order (vertex_runs g)) (vertex_runs g)).to,
      ap (λ (x : Computed ℕ). x.pair) c,
      f.from_below,
      f.to_below,
      f.differ,
      f.unjoined,
      sym f.worth ∙ n.1 ∙ sym (ap (λ (x : Computed ℕ). x.strength) c),
    )

-- Twice the number of runs that m rounds take at most.
abbrev twice_runs : ℕ → ℕ → ℕ
twice_runs δ m = m * (2 * δ - m - 3)

-- One round more.
runs_step : (δ m : ℕ) → m + 4 ≤ δ → twice_runs δ (suc m) ≡ twice_runs δ m + 2 * (δ - 1 - suc m)
runs_step δ m l =
    let a : 2 * δ - suc m - 3 ≡ m + 4 + 2 * (δ - (m + 4)) = omega arith in
    let b : 2 * δ - m - 3 ≡ m + 5 + 2 * (δ - (m + 4)) = omega arith in
    let d : 2 * (δ - 1 - suc m) ≡ 2 * (δ - (m + 4)) + 4 = omega arith in
    ap (λ (z : ℕ). suc m * z) a ∙ product m (δ - (m + 4)) ∙ sym (ap₂ (λ (z y : ℕ). m * z + y) b d)
  where
    product : (m c : ℕ) → suc m * (m + 4 + 2 * c) ≡ m * (m + 5 + 2 * c) + (2 * c + 4)
    product m c = grind arith

-- More rounds take no fewer.
runs_grow : (δ m k : ℕ) → m ≤ k → k ≤ δ → (m ≡ 0) ⊎ (m + 3 ≤ δ) → twice_runs δ m ≤ twice_runs δ k
runs_grow δ m k l h z =
    elim z [
      | inl e ↦ rw e (omega arith)
      | inr t ↦
          (let a : 2 * δ - m - 3 ≡ m + (k - m) + (2 * δ - k - m - 3) = omega arith in
          let b : 2 * δ - k - 3 ≡ m + (2 * δ - k - m - 3) = omega arith in
          let c : k ≡ m + (k - m) = omega arith in
          omega (arith, ap (λ (x : ℕ). m * x) a, ap₂ (λ (x y : ℕ). x * y) c b, product m (k - m) (2 * δ - k - m - 3)))
    ]
  where
    product : (m d e : ℕ) → (m + d) * (m + e) ≡ m * (m + d + e) + d * e
    product m d e = grind arith

-- A round has at most as many runs as there are later places but the last.
round_few : (g : Graph) (s : Simple g) (r δ w m : ℕ) → length (round g s r δ w m) ≤ δ - 1 - place g s r δ w
round_few g s r δ w m =
    let bs = filter (g.joined r) (up (suc w) m) in
    let t = δ - 1 - place g s r δ w in
    omega (arith, length-map (filter (λ b. not (g.joined w b)) (take t bs)) (run_of g w), sub_length (kept_sub (λ b. not (g.joined w b)) (take t bs)), length-take t bs)

-- With the value k found or ahead, at most k rounds take place, and none from the place δ − 2 on.
rounds_few : (g : Graph) (s : Simple g) (r δ k : ℕ) → k ≤ δ → (m w : ℕ) (runs : List Run) → w + m ≡ g.order
    → Due g r δ k w runs → count (g.joined r) w ≤ k → (count (g.joined r) w ≡ 0) ⊎ (count (g.joined r) w + 3 ≤ δ)
    → 2 * length (rounds_from g s r δ w m runs) + twice_runs δ (count (g.joined r) w) ≤ 2 * length runs + twice_runs δ k
rounds_few g s r δ k h =
    follow g s r δ Few
    (λ w runs _ _ l z. omega (arith, runs_grow δ (at w) k l h z))
    (λ w runs out _ off few d l z.
    subst (λ (c : ℕ). 2 * length out + twice_runs δ c ≤ 2 * length runs + twice_runs δ k) (count_off (g.joined r) w off)
    (few (due_skip g s r δ k w runs off d) (omega (arith, count_off (g.joined r) w off)) (subst (λ (c : ℕ). (c ≡ 0) ⊎ (c + 3 ≤ δ)) (sym (count_off (g.joined r) w off)) z)))
    (λ w runs _ _ _ _ l z. omega (arith, runs_grow δ (at w) k l h z))
    (λ w m runs out e yes' go few d l z.
    let t = and_parts (leb (place g s r δ w + 3) δ) _ go in
    let low = leb-true _ _ t.0 in
    let more = count_on (g.joined r) w yes' in
    let step = runs_step δ (at w) (omega (arith, low)) in
    let same : at (suc w) ≡ suc (at w) = omega arith in
    let next = few (due_on g s r δ k w m runs e d) (omega (arith, reached w runs d (leb-true _ _ t.1))) (inr (omega (arith, low))) in
    omega (arith, next, step, ap (twice_runs δ) same, length-append runs (round g s r δ w m), round_few g s r δ w m))
  where
    -- How many rounds come before w.
    at : ℕ → ℕ
    at w = count (g.joined r) w

    -- What is shown of the rounds from w up.
    Few : ℕ → List Run → List Run → Type 0
    Few w runs out = Due g r δ k w runs → at w ≤ k → (at w ≡ 0) ⊎ (at w + 3 ≤ δ) → 2 * length out + twice_runs δ (at w) ≤ 2 * length runs + twice_runs δ k

    -- A round that takes place has a number of at most k.
    reached : (w : ℕ) (runs : List Run) → Due g r δ k w runs → place g s r δ w ≤ least_value g.order runs → at w + 1 ≤ k
    reached w runs d l = elim d [ inl x ↦ omega arith | inr a ↦ omega (arith, count_up (g.joined r) w a.x a.from, a.soon) ]

-- One far run for each vertex but r and its neighbours.
far_many : (g : Graph) → Simple g → (r : ℕ) → r < g.order → length (far_runs g r) + degree g r + 1 ≡ g.order
far_many g s r l =
    let kept : length (far_runs g r) ≡ count (λ v. not (eqb v r || g.joined r v)) g.order =
    length-map (filter (λ v. not (eqb v r || g.joined r v)) (upto g.order)) (run_of g r) ∙ kept_count (λ v. not (eqb v r || g.joined r v)) g.order in
    let one : count (λ v. eqb v r || g.joined r v) g.order ≡ degree g r + 1 =
    count_one (g.joined r) (λ v. eqb v r || g.joined r v) r g.order l (s.irreflexive r) (or_left _ _ (eq-eqb r r refl))
    (λ v _ d. ap (λ (b : Bool). b || g.joined r v) (ne_eqb v r d)) in
    omega (arith, kept, one, count_rest (λ v. eqb v r || g.joined r v) g.order)

-- The neighbours of a vertex of least degree are a cut.
size_degree : (g : Graph) → Simple g → complete g ≡ false → cut_size g ≤ least_degree g
size_degree g s h =
    let m = smallest_cut g s h in
    let p = sparsest_is g s in
    let w = some_unjoined g s m.cut m.side m.separation (sparsest g) p.0 (λ v l. omega (arith, p.1, least_degree_below g v l)) in
    omega (arith, p.1, cut_least g (g.joined (sparsest g)) (λ v. eqb v (sparsest g)) (around g s (sparsest g) w.0 p.0 w.1 w.2 w.3))

-- With k the size of a smallest cut, the runs keep to the bound.
few_by_size : (g : Graph) → Simple g → complete g ≡ false
    → length (vertex_runs g) ≤ g.order - least_degree g - 1 + cut_size g * (2 * least_degree g - cut_size g - 3) / 2
few_by_size g s h =
    let p = sparsest_is g s in
    let none = count_zero (g.joined (sparsest g)) in
    let few = rounds_few g s (sparsest g) (least_degree g) (cut_size g) (size_degree g s h) g.order 0 (far_runs g (sparsest g)) (omega arith)
    (due g s (smallest_cut g s h)) (omega (arith, none)) (inl none) in
    let all = ap length (runs_are g s) in
    let far = far_many g s (sparsest g) p.0 in
    omega (arith, few, all, far, p.1)

-- The bound on the runs, stated with the strength.
pub few_runs : FewVertexRuns
few_runs g s two =
    elim (cases_Bool (complete g)) [
      | inl e ↦ omega (arith, ap (λ (x : Computed ℕ). length x.runs) (computed_whole g e))
      | inr e ↦
          subst (λ (k : ℕ). length (vertex_computation g).runs ≤ g.order - least_degree g - 1 + k * (2 * least_degree g - k - 3) / 2) (sym (strength_is g s e))
          (omega (arith, few_by_size g s e, ap (λ (x : Computed ℕ). length x.runs) (computed_runs g e)))
    ]
