-- No pair is run twice among the vertex runs, in either order. The far runs start at r and end at
-- different vertices. A run of the round for w leads from w, a neighbour of r, to a later
-- neighbour of r, and no earlier run starts at a neighbour of r from w up.
use Rattle.std.proofs.Common.{◌≡◌, ℕ, zero, suc, ◌+◌, ◌-◌, ◌<◌, true, false, not, ◌||◌, eqb, List, [], ◌∷◌, ◌++◌, map, take, filter, sym, refl, ap, ◌∙◌, subst, inl, inr, arith}
use Rattle.std.proofs.lemmas.Bool.{both_ways, or_parts, not-true, eq-eqb}
use Rattle.graph.specs.Graph.{Graph, Simple, same_edge}
use Rattle.graph.proofs.Edges.{same_edge_ends}
use Rattle.flows.specs.Lists.{upto}
use Rattle.flows.proofs.Lists.{never_true}
use Rattle.cuts.specs.declared.run.Run.{Run}
use Rattle.cuts.specs.Choices.{In}
use Rattle.cuts.specs.Computations.{least_degree, sparsest, far_runs, vertex_runs}
use Rattle.cuts.specs.RouteRules.{Pairwise}
use Rattle.cuts.proofs.RouteFits.{pairwise_append}
use Rattle.cuts.proofs.Smallest.{in_either, kept_out}
use Rattle.cuts.proofs.Standing.{Distinct, distinct_kept, distinct_upto}
use Rattle.cuts.proofs.RouteCounts.{in_list_all}
use Rattle.strength.proofs.EdgeLists.{map_item}
use Rattle.strength.proofs.VertexLists.{in_taken, up, in_up}
use Rattle.strength.proofs.VertexRuns.{run_of, place, rounds_from, round, follow}
use Rattle.strength.proofs.VertexStrength.{runs_are}

-- Two runs of different pairs.
abbrev pub Differ : Run → Run → Type 0
Differ x y = same_edge x.from x.to y.from y.to ≡ false

-- The numbers from w up are different.
distinct_up : (w m : ℕ) → Distinct (up w m)
distinct_up w zero = tt
distinct_up w (suc m) = (λ i. omega (arith, (in_up (suc w) m w i).0), distinct_up (suc w) m)

-- Nothing stands twice in the front of a list in which nothing stands twice.
distinct_front : (t : ℕ) (xs : List ℕ) → Distinct xs → Distinct (take t xs)
distinct_front zero xs d = tt
distinct_front (suc t) [] d = tt
distinct_front (suc t) (x ∷ xs) d = (λ i. d.0 (in_taken x t xs i), distinct_front t xs d.1)

-- Runs from one vertex to different others are of different pairs.
one_start : (g : Graph) (a : ℕ) (bs : List ℕ) → Distinct bs → ((b : ℕ) → In b bs → b ≡ a → ⊥) → Pairwise Differ (map (run_of g a) bs)
one_start g a [] d off = tt
one_start g a (b ∷ bs) d off = (
  in_list_all (Differ (run_of g a b)) (map (run_of g a) bs) (λ y i. let c = map_item (run_of g a) y bs i in subst (Differ (run_of g a b)) (sym c.2) (other c.0 c.1)),
  one_start g a bs d.1 (λ c i. off c (inr i)),
)
  where
    other : (c : ℕ) → In c bs → same_edge a b a c ≡ false
    other c i =
        never_true _ (λ h.
        elim (same_edge_ends a b a c h) [ inl e ↦ d.0 (subst (λ (x : ℕ). In x bs) (sym e.1) i) | inr e ↦ off b (inl refl) e.1 ])

-- The far runs are of different pairs.
far_apart : (g : Graph) (r : ℕ) → Pairwise Differ (far_runs g r)
far_apart g r =
    one_start g r (filter (λ v. not (eqb v r || g.joined r v)) (upto g.order))
    (distinct_kept (λ v. not (eqb v r || g.joined r v)) (upto g.order) (distinct_upto g.order))
    (λ b i e. both_ways _ (or_parts (eqb b r) (g.joined r b) (not-true _ (kept_out (λ v. not (eqb v r || g.joined r v)) b (upto g.order) i).1)).0 (eq-eqb b r e))

-- Each of them starts at r.
far_start : (g : Graph) (r : ℕ) (run : Run) → In run (far_runs g r) → run.from ≡ r
far_start g r run i = ap (λ (x : Run). x.from) (map_item (run_of g r) run (filter (λ v. not (eqb v r || g.joined r v)) (upto g.order)) i).2

module _ (g : Graph) (s : Simple g) (r δ : ℕ) where
  -- A run that starts at a neighbour of r starts below w.
  abbrev Past : ℕ → Run → Type 0
  Past w run = g.joined r run.from ≡ true → run.from < w

  -- All runs so far are such, and of different pairs.
  abbrev Clear : ℕ → List Run → Type 0
  Clear w runs = Pairwise Differ runs × ((run : Run) → In run runs → Past w run)

  -- A run of the round for w starts there and ends at a later neighbour.
  round_ends : (w m : ℕ) (run : Run) → In run (round g s r δ w m) → (run.from ≡ w) × (w < run.to) × (g.joined r run.to ≡ true)
  round_ends w m run i =
      let bs = take (δ - 1 - place g s r δ w) (filter (g.joined r) (up (suc w) m)) in
      let c = map_item (run_of g w) run (filter (λ b. not (g.joined w b)) bs) i in
      let k = kept_out (λ b. not (g.joined w b)) c.0 bs c.1 in
      let q = kept_out (g.joined r) c.0 (up (suc w) m) (in_taken c.0 (δ - 1 - place g s r δ w) (filter (g.joined r) (up (suc w) m)) k.0) in
      let to_is = ap (λ (x : Run). x.to) c.2 in
      (ap (λ (x : Run). x.from) c.2, omega (arith, to_is, (in_up (suc w) m c.0 q.0).0), ap (g.joined r) to_is ∙ q.1)

  -- The runs of a round are of different pairs.
  round_apart : (w m : ℕ) → Pairwise Differ (round g s r δ w m)
  round_apart w m =
      let bs = take (δ - 1 - place g s r δ w) (filter (g.joined r) (up (suc w) m)) in
      one_start g w (filter (λ b. not (g.joined w b)) bs)
      (distinct_kept (λ b. not (g.joined w b)) bs (distinct_front (δ - 1 - place g s r δ w) (filter (g.joined r) (up (suc w) m)) (distinct_kept (g.joined r) (up (suc w) m) (distinct_up (suc w) m))))
      (λ b i e.
      let q = kept_out (g.joined r) b (up (suc w) m) (in_taken b (δ - 1 - place g s r δ w) (filter (g.joined r) (up (suc w) m)) (kept_out (λ b. not (g.joined w b)) b bs i).0) in
      omega (arith, (in_up (suc w) m b q.0).0))

  -- None of them is of the pair of an earlier run.
  round_new : (w m : ℕ) → g.joined r w ≡ true → (x y : Run) → Past w x → In y (round g s r δ w m) → Differ x y
  round_new w m on x y past i =
      let e = round_ends w m y i in
      never_true _ (λ h.
      elim (same_edge_ends x.from x.to y.from y.to h) [
        | inl p ↦ omega (arith, p.0, e.0, past (ap (g.joined r) (p.0 ∙ e.0) ∙ on))
        | inr p ↦ omega (arith, p.0, e.1, past (ap (g.joined r) p.0 ∙ e.2))
      ])

  -- A round keeps the runs clear.
  clear_on : (w m : ℕ) (runs : List Run) → g.joined r w ≡ true → Clear w runs → Clear (suc w) (runs ++ round g s r δ w m)
  clear_on w m runs on c = (
    pairwise_append Differ runs (round g s r δ w m) c.0 (round_apart w m) (λ x y i j. round_new w m on x y (c.1 x i) j),
    λ run i h.
        elim (in_either run runs (round g s r δ w m) i) [
          | inl j ↦ omega (arith, c.1 run j h)
          | inr j ↦ omega (arith, (round_ends w m run j).0)
        ],
  )

  -- So the runs of all the rounds are of different pairs.
  rounds_apart : (m w : ℕ) (runs : List Run) → w + m ≡ g.order → Clear w runs → Pairwise Differ (rounds_from g s r δ w m runs)
  rounds_apart =
      follow g s r δ (λ w runs out. Clear w runs → Pairwise Differ out)
      (λ w runs _ c. c.0)
      (λ w runs out _ _ h c. h (c.0, λ run i j. omega (arith, c.1 run i j)))
      (λ w runs _ _ _ c. c.0)
      (λ w m runs out _ on _ h c. h (clear_on w m runs on c))

-- No pair is run twice.
pub runs_apart : (g : Graph) → Simple g → Pairwise Differ (vertex_runs g)
runs_apart g s =
    subst (Pairwise Differ) (sym (runs_are g s))
    (rounds_apart g s (sparsest g) (least_degree g) g.order 0 (far_runs g (sparsest g)) (omega arith) (
      far_apart g (sparsest g),
      λ run i h. absurd (both_ways _ (s.irreflexive (sparsest g)) (ap (g.joined (sparsest g)) (sym (far_start g (sparsest g) run i)) ∙ h)),
    ))
