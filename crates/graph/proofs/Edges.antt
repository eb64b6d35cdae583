-- Graphs with an edge more or less: they stay simple, and the number of edges follows.
use Rattle.std.proofs.Common.{◌≡◌, ℕ, zero, suc, ◌+◌, ◌*◌, ◌<◌, ◌≤◌, Bool, true, false, not, ◌&&◌, ◌||◌, ◌⊎◌, sym, refl, ap, ◌∙◌, ap₂, ⊎_elim, arith}
use mathlib.Core.Path.{fun_ext}
use Rattle.std.proofs.lemmas.Bool.Decides.{nat_tests}
use Rattle.std.proofs.lemmas.Bool.{and_parts, or_cases, cases_eq, cases_lt, cases_Bool, true≢false}
use Rattle.graph.specs.Graph.{Graph, Simple, count, degree, edges_below, same_edge, added, removed, with_edge, without_edge}
use Rattle.graph.specs.Laws.{OneEdgeMore, OneEdgeLess, FewEdges}
use Rattle.graph.proofs.Counts.{count_ext, count_most, count_none, count_one, count_miss}

-- Two graphs of one order that join the same pairs are one graph.
pub same_graph : (g h : Graph) → g.order ≡ h.order → ((u v : ℕ) → g.joined u v ≡ h.joined u v) → g ≡ h
same_graph g h n e = ap₂ (λ (b : ℕ) (j : ℕ → ℕ → Bool). record { order = b; joined = j }) n (fun_ext (λ u. fun_ext (e u)))

-- An edge has no direction.
pub same_edge_swap : (a b u v : ℕ) → same_edge a b u v ≡ same_edge a b v u
same_edge_swap a b u v = grind (arith, nat_tests)

-- The two ends of an edge, in one order or the other.
pub same_edge_ends : (a b u v : ℕ) → same_edge a b u v ≡ true → ((a ≡ u) × (b ≡ v)) ⊎ ((a ≡ v) × (b ≡ u))
same_edge_ends a b u v h = grind (arith, nat_tests)

pub with_edge_simple : (g : Graph) (a b : ℕ) → Simple g → a < g.order → b < g.order → (a ≡ b → ⊥) → Simple (with_edge g a b)
with_edge_simple g a b s la lb ne = record {
  some = s.some;
  small = s.small;
  symmetric = λ u v. ap₂ (λ (x y : Bool). x || y) (s.symmetric u v) (same_edge_swap a b u v);
  irreflexive = λ u. rw (s.irreflexive u) (let z : same_edge a b u u ≡ false = grind (arith, nat_tests) in z);
  bounded = λ u v h.
      ⊎_elim (λ e. s.bounded u v e)
      (λ e. ⊎_elim (λ p. (omega (arith, p.0, p.1), omega (arith, p.0, p.1))) (λ p. (omega (arith, p.0, p.1), omega (arith, p.0, p.1))) (same_edge_ends a b u v e))
      (or_cases _ _ h);
}

pub without_edge_simple : (g : Graph) (a b : ℕ) → Simple g → Simple (without_edge g a b)
without_edge_simple g a b s = record {
  some = s.some;
  small = s.small;
  symmetric = λ u v. ap₂ (λ (x y : Bool). x && not y) (s.symmetric u v) (same_edge_swap a b u v);
  irreflexive = λ u. rw (s.irreflexive u);
  bounded = λ u v h. s.bounded u v (and_parts _ _ h).0;
}

-- What is joined among the pairs below n decides the number of edges below n.
pub edges_ext : (n : ℕ) (j k : ℕ → ℕ → Bool) → ((a b : ℕ) → a < n → b < a → j a b ≡ k a b) → edges_below n j ≡ edges_below n k
unfolding edges_below
edges_ext zero j k h = refl
edges_ext (suc n) j k h =
    ap₂ (λ (x y : ℕ). x + y) (edges_ext n j k (λ a b la lb. h a b (omega arith) lb)) (count_ext (j n) (k n) n (λ b l. h n b (omega arith) l))

pub edges_none : (n : ℕ) (j : ℕ → ℕ → Bool) → ((u v : ℕ) → j u v ≡ false) → edges_below n j ≡ 0
unfolding edges_below
edges_none zero j h = refl
edges_none (suc n) j h = omega (arith, edges_none n j h, count_none (j n) n (λ k l. h n k))

-- At most as many edges as pairs.
pub edges_most : (n : ℕ) (j : ℕ → ℕ → Bool) → 2 * edges_below n j + n ≤ n * n
unfolding edges_below
edges_most zero j = omega arith
edges_most (suc n) j =
    let sq : suc n * suc n ≡ n * n + 2 * n + 1 = grind arith in
    omega (arith, sq, count_most (j n) n, edges_most n j)

-- A new edge, counted at its higher end, is one more.
raised : (n : ℕ) (j k : ℕ → ℕ → Bool) (lo hi : ℕ) → lo < hi → hi < n → j hi lo ≡ false → k hi lo ≡ true
    → ((a b : ℕ) → b < a → ((a ≡ hi) × (b ≡ lo) → ⊥) → k a b ≡ j a b) → edges_below n k ≡ edges_below n j + 1
unfolding edges_below
raised zero j k lo hi l h off on other = let z : ⊥ = omega arith in absurd z
raised (suc n) j k lo hi l h off on other =
    ⊎_elim
    (λ e. let below : edges_below n k ≡ edges_below n j = edges_ext n k j (λ a b la lb. other a b lb (λ p. let q = p.0 in let z : ⊥ = omega arith in z)) in
    let row : count (k hi) hi ≡ count (j hi) hi + 1 = count_one (j hi) (k hi) lo hi l off on (λ b lb ne. other hi b lb (λ p. ne p.1)) in
    let r : count (k n) n ≡ count (j n) n + 1 = rw e at row in
    omega (arith, below, r))
    (λ ne. let row : count (k n) n ≡ count (j n) n = count_ext (k n) (j n) n (λ b lb. other n b lb (λ p. ne (sym p.0))) in
    omega (arith, row, raised n j k lo hi l (omega (arith, ne)) off on other))
    (cases_eq hi n)

or_off : (x y : Bool) → y ≡ false → (x || y) ≡ x
or_off true y h = refl
or_off false y h = h

or_on : (x y : Bool) → y ≡ true → (x || y) ≡ true
or_on true y h = refl
or_on false y h = h

pub edges_added : (n : ℕ) (j : ℕ → ℕ → Bool) (u v : ℕ) → u < n → v < n → (u ≡ v → ⊥) → j u v ≡ false → j v u ≡ false → edges_below n (added j u v) ≡ edges_below n j + 1
edges_added n j u v hu hv ne off off' =
    ⊎_elim
    (λ l. raised n j (added j u v) u v l hv off' (or_on (j v u) (same_edge u v v u) (grind (arith, nat_tests)))
    (λ a b lb other. or_off (j a b) (same_edge u v a b) (not_up a b l lb other)))
    (λ l. let l' : v < u = omega (arith, ne) in
    raised n j (added j u v) v u l' hu off (or_on (j u v) (same_edge u v u v) (grind (arith, nat_tests)))
    (λ a b lb other. or_off (j a b) (same_edge u v a b) (not_down a b l' lb other)))
    (cases_lt u v)
  where
    not_up : (a b : ℕ) → u < v → b < a → ((a ≡ v) × (b ≡ u) → ⊥) → same_edge u v a b ≡ false
    not_up a b l lb nope =
        ⊎_elim (λ e. ⊎_elim (λ f. let z : ⊥ = nope (e, f) in absurd z) (λ f. grind (arith, nat_tests)) (cases_eq b u)) (λ e. grind (arith, nat_tests)) (cases_eq a v)

    not_down : (a b : ℕ) → v < u → b < a → ((a ≡ u) × (b ≡ v) → ⊥) → same_edge u v a b ≡ false
    not_down a b l lb nope =
        ⊎_elim (λ e. ⊎_elim (λ f. let z : ⊥ = nope (e, f) in absurd z) (λ f. grind (arith, nat_tests)) (cases_eq b v)) (λ e. grind (arith, nat_tests)) (cases_eq a u)

-- A graph that lacks an edge has fewer edges than pairs.
pub edges_room : (n : ℕ) (j : ℕ → ℕ → Bool) (u v : ℕ) → u < n → v < n → (u ≡ v → ⊥) → j u v ≡ false → j v u ≡ false → 2 * edges_below n j + 2 + n ≤ n * n
edges_room n j u v hu hv ne off off' = omega (arith, edges_most n (added j u v), edges_added n j u v hu hv ne off off')

pub edges_removed : (n : ℕ) (j : ℕ → ℕ → Bool) (u v : ℕ) → u < n → v < n → (u ≡ v → ⊥) → ((a b : ℕ) → j a b ≡ j b a) → j u v ≡ true → edges_below n (removed j u v) + 1 ≡ edges_below n j
edges_removed n j u v hu hv ne even on =
    sym (edges_ext n j (added (removed j u v) u v) (λ a b la lb. back (j a b) (same_edge u v a b) (λ s. set_on a b s))
    ∙ edges_added n (removed j u v) u v hu hv ne (off (j u v) (same_edge u v u v) (grind (arith, nat_tests))) (off (j v u) (same_edge u v v u) (grind (arith, nat_tests))))
  where
    back : (x s : Bool) → (s ≡ true → x ≡ true) → x ≡ ((x && not s) || s)
    back true true h = refl
    back true false h = refl
    back false true h = h refl
    back false false h = refl

    off : (x s : Bool) → s ≡ true → (x && not s) ≡ false
    off true s h = ap not h
    off false s h = refl

    set_on : (a b : ℕ) → same_edge u v a b ≡ true → j a b ≡ true
    set_on a b s = ⊎_elim (λ (p : (u ≡ a) × (v ≡ b)). ap₂ j (sym p.0) (sym p.1) ∙ on) (λ (p : (u ≡ b) × (v ≡ a)). even a b ∙ ap₂ j (sym p.0) (sym p.1) ∙ on) (same_edge_ends u v a b s)

-- Joined vertices differ.
pub joined_differ : (g : Graph) → Simple g → (u v : ℕ) → g.joined u v ≡ true → u ≡ v → ⊥
joined_differ g s u v on e = true≢false (sym on ∙ ap (g.joined u) (sym e) ∙ s.irreflexive u)

-- A vertex outside the graph has no neighbour, and no neighbour is outside.
pub joined_outside : (g : Graph) → Simple g → (u v : ℕ) → ((u < g.order) × (v < g.order) → ⊥) → g.joined u v ≡ false
joined_outside g s u v out = ⊎_elim (λ e. let z : ⊥ = out (s.bounded u v e) in absurd z) (λ e. e) (cases_Bool (g.joined u v))

pub one_edge_more_lem : OneEdgeMore
one_edge_more_lem g u v s hu hv ne off =
    (with_edge_simple g u v s hu hv ne, edges_added g.order g.joined u v hu hv ne off (s.symmetric v u ∙ off))

pub one_edge_less_lem : OneEdgeLess
one_edge_less_lem g u v s on =
    let b = s.bounded u v on in
    (without_edge_simple g u v s, edges_removed g.order g.joined u v b.0 b.1 (joined_differ g s u v on) s.symmetric on)

pub few_edges_lem : FewEdges
few_edges_lem g s = (edges_most g.order g.joined, few)
  where
    few : (u : ℕ) → degree g u < g.order
    few u =
        ⊎_elim
        (λ l. count_miss (g.joined u) u g.order l (s.irreflexive u))
        (λ l. omega (arith, s.some, count_none (g.joined u) g.order (λ k h. joined_outside g s u k (λ p. omega (arith, p.0)))))
        (cases_lt u g.order)
