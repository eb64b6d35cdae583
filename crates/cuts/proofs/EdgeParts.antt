-- Sets of edges that part two vertices, and sets of vertices that lie between them.
use Rattle.std.proofs.Common.{◌≡◌, ℕ, zero, suc, ◌+◌, ◌<◌, ◌≤◌, Bool, true, false, cond, not, ◌&&◌, ◌||◌, eqb, List, [], ◌∷◌, length, sym, refl, ap, ◌∙◌, ap₂, ⊎_elim, arith}
use Rattle.std.proofs.lemmas.Bool.{cases_Bool, cases_lt, cases_eq, and_parts, ne_eqb, true≢false}
use Rattle.graph.specs.Graph.{Graph, Simple, count, same_edge}
use Rattle.flows.specs.Lists.{any}
use Rattle.flows.specs.Flow.{pairs_passing, leaving, Between}
use Rattle.flows.proofs.Lists.{never_true}
use Rattle.flows.proofs.Reached.{reached_self, reached_step, reached_least}
use Rattle.flows.proofs.Sums.{bit, total_le, total₂_add, total₂_le, total₂_zero, count_total, pairs_total}
use Rattle.cuts.specs.declared.edge.Edge.{Edge}
use Rattle.cuts.specs.Edges.{edge, edge_list, is_between, has_edge, without_edges, linked}
use Rattle.cuts.specs.Cuts.{edges_part}
use Rattle.cuts.specs.Pairs.{crossing_edges}
use Rattle.cuts.proofs.Smallest.{kept_in}
use Rattle.cuts.proofs.Standing.{any_in}
use Rattle.cuts.proofs.EdgeLists.{edge_in}

not-false : (b : Bool) → not b ≡ true → b ≡ false
not-false true h = let z : ⊥ = true≢false (sym h) in absurd z
not-false false h = refl

-- An edge with one end in a set stands among those that cross it.
crossing_has : (g : Graph) → Simple g → (u : ℕ → Bool) (p q : ℕ) → u p ≡ true → u q ≡ false → g.joined p q ≡ true → has_edge (crossing_edges g u) p q ≡ true
crossing_has g simple u p q up uq on =
    ⊎_elim
    (λ l. any_in (is_between p q) (edge p q) (crossing_edges g u)
    (kept_in crosses (edge p q) (edge_list g) (edge_in g p q l b.1 on) (rw (up, uq))) (self p q))
    (λ l. let lt : q < p = omega (arith, ne) in
    any_in (is_between p q) (edge q p) (crossing_edges g u)
    (kept_in crosses (edge q p) (edge_list g) (edge_in g q p lt b.0 (simple.symmetric q p ∙ on)) (rw (up, uq))) (turned p q))
    (cases_lt p q)
  where
    crosses : Edge → Bool
    crosses e = (u e.low && not (u e.high)) || (u e.high && not (u e.low))

    b : (p < g.order) × (q < g.order)
    b = simple.bounded p q on

    ne : p ≡ q → ⊥
    ne e = true≢false (sym up ∙ ap u e ∙ uq)

    self : (x y : ℕ) → same_edge x y x y ≡ true
    self x y = grind (arith, Rattle.std.proofs.lemmas.Bool.Decides.nat_tests)

    turned : (x y : ℕ) → same_edge y x x y ≡ true
    turned x y = grind (arith, Rattle.std.proofs.lemmas.Bool.Decides.nat_tests)

module _ (g : Graph) (simple : Simple g) (a b : ℕ) (ha : a < g.order) where
  -- What a reaches without the edges that cross a set that has a lies in the set.
  pub crossing_keeps : (u : ℕ → Bool) → u a ≡ true → (q : ℕ) → linked (without_edges g (crossing_edges g u)) a q ≡ true → u q ≡ true
  crossing_keeps u ua =
      reached_least g.order (without_edges g (crossing_edges g u)).joined a ha u ua
      (λ p q hp hq up step.
      let s = and_parts (g.joined p q) (not (has_edge (crossing_edges g u) p q)) step in
      ⊎_elim (λ h. h)
      (λ off. let z : ⊥ = true≢false (sym (crossing_has g simple u p q up off s.0) ∙ not-false (has_edge (crossing_edges g u) p q) s.1) in absurd z)
      (cases_Bool (u q)))

  -- So they part a from what is outside.
  pub crossing_parts : (u : ℕ → Bool) → Between a b u → edges_part g a b (crossing_edges g u) ≡ true
  crossing_parts u between =
      ap not (never_true (linked (without_edges g (crossing_edges g u)) a b) (λ h. true≢false (sym (crossing_keeps u between.0 b h) ∙ between.1)))

  -- What a reaches without edges that part a and b lies between them.
  pub parted_between : (c : List Edge) → edges_part g a b c ≡ true → Between a b (λ q. linked (without_edges g c) a q)
  parted_between c h = (reached_self g.order (without_edges g c).joined a ha, not-false (linked (without_edges g c) a b) h)

  -- An edge that leaves what a reaches without c is one of c.
  pub leaving_has : (c : List Edge) (p q : ℕ) → linked (without_edges g c) a p ≡ true → linked (without_edges g c) a q ≡ false → g.joined p q ≡ true → has_edge c p q ≡ true
  leaving_has c p q hp hq on =
      ⊎_elim (λ h. h)
      (λ off. let step : (g.joined p q && not (has_edge c p q)) ≡ true = ap₂ (λ (x y : Bool). x && not y) on off in
      let z : ⊥ = true≢false (sym (reached_step g.order (without_edges g c).joined a ha p q (simple.bounded p q on).1 hp step) ∙ hq) in absurd z)
      (cases_Bool (has_edge c p q))

-- At most one number below n is h.
count_is : (h n : ℕ) → count (eqb h) n ≤ 1
unfolding count
count_is h zero = omega arith
count_is h (suc n) =
    ⊎_elim
    (λ e. let none : count (eqb h) n ≡ 0 = Rattle.graph.proofs.Counts.count_none (eqb h) n (λ k l. ne_eqb h k (λ q. let z : ⊥ = omega arith in z)) in
    let one : cond (eqb h n) 1 0 ≤ 1 = small (eqb h n) in omega arith)
    (λ ne. let off : ◌≡◌ {A = ℕ} (cond (eqb h n) 1 0) 0 = ap (λ (b : Bool). cond {A = ℕ} b 1 0) (ne_eqb h n ne) in
    omega (arith, count_is h n, off))
    (cases_eq h n)
  where
    small : (b : Bool) → cond b 1 0 ≤ 1
    small true = omega arith
    small false = omega arith

bit-and : (x y : Bool) → bit (x && y) ≤ bit y
bit-and true y = omega arith
bit-and false true = omega arith
bit-and false false = omega arith

-- At most one pair is (l, h).
pair_is : (l h n : ℕ) → pairs_passing (λ p q. eqb l p && eqb h q) n ≤ 1
pair_is l h n =
    let rows = total_le (λ p. count (λ q. eqb l p && eqb h q) n) (λ p. bit (eqb l p)) n (λ p lp. row (eqb l p)) in
    omega (arith, rows, count_total (eqb l) n, count_is l n)
  where
    row : (b : Bool) → count (λ q. b && eqb h q) n ≤ bit b
    row true = count_is h n
    row false = omega (arith, Rattle.graph.proofs.Counts.count_none (λ q. false) n (λ k l. refl))

-- One edge leaves a set at most once.
leaves_once : (u : ℕ → Bool) (l h n : ℕ) → pairs_passing (λ p q. u p && (not (u q) && same_edge l h p q)) n ≤ 1
leaves_once u l h n =
    ⊎_elim
    (λ on. omega (
      arith,
      pairs_total (λ p q. u p && (not (u q) && same_edge l h p q)) n,
      pairs_total (λ p q. eqb l p && eqb h q) n,
      pair_is l h n,
      total₂_le (λ p q. bit (u p && (not (u q) && same_edge l h p q))) (λ p q. bit (eqb l p && eqb h q)) n (λ p q hp hq. upward p q on),
    ))
    (λ off. omega (
      arith,
      pairs_total (λ p q. u p && (not (u q) && same_edge l h p q)) n,
      pairs_total (λ p q. eqb h p && eqb l q) n,
      pair_is h l n,
      total₂_le (λ p q. bit (u p && (not (u q) && same_edge l h p q))) (λ p q. bit (eqb h p && eqb l q)) n (λ p q hp hq. downward p q off),
    ))
    (cases_Bool (u l))
  where
    -- With l inside, the pair can't end in l; with l outside, it can't begin there.
    upward : (p q : ℕ) → u l ≡ true → bit (u p && (not (u q) && same_edge l h p q)) ≤ bit (eqb l p && eqb h q)
    upward p q on =
        ⊎_elim
        (λ e. let uq : u q ≡ true = ap u (sym (Rattle.std.proofs.lemmas.Bool.eqb-true l q e)) ∙ on in rw uq (outside (u p) (same_edge l h p q)))
        (λ ne. rw ne (inside_of (u p) (u q) (eqb l p && eqb h q)))
        (cases_Bool (eqb l q))
      where
        outside : (x y : Bool) → bit (x && (not true && y)) ≤ bit (eqb l p && eqb h q)
        outside true y = omega arith
        outside false y = omega arith

        inside_of : (x y z : Bool) → bit (x && (not y && (z || (false && eqb h p)))) ≤ bit z
        inside_of x true true = omega (arith, bit-and x false)
        inside_of x true false = omega (arith, bit-and x false)
        inside_of x false true = omega (arith, bit-and x true)
        inside_of x false false = omega (arith, bit-and x false)

    downward : (p q : ℕ) → u l ≡ false → bit (u p && (not (u q) && same_edge l h p q)) ≤ bit (eqb h p && eqb l q)
    downward p q off =
        ⊎_elim
        (λ e. let up : u p ≡ false = ap u (sym (Rattle.std.proofs.lemmas.Bool.eqb-true l p e)) ∙ off in rw up (omega arith))
        (λ ne. rw ne (inside_of (u p) (u q) (eqb l q) (eqb h p)))
        (cases_Bool (eqb l p))
      where
        inside_of : (x y z w : Bool) → bit (x && (not y && ((false && eqb h q) || (z && w)))) ≤ bit (w && z)
        inside_of x true z w = omega (arith, bit-and x false)
        inside_of x false true true = omega (arith, bit-and x true)
        inside_of x false true false = omega (arith, bit-and x false)
        inside_of x false false true = omega (arith, bit-and x false)
        inside_of x false false false = omega (arith, bit-and x false)

-- Edges of a list leave a set at most once each.
hits : (u : ℕ → Bool) (c : List Edge) (n : ℕ) → pairs_passing (λ p q. u p && (not (u q) && has_edge c p q)) n ≤ length c
unfolding any
hits u [] n =
    omega (
      arith,
      pairs_total (λ p q. u p && (not (u q) && false)) n,
      total₂_zero n,
      total₂_le (λ p q. bit (u p && (not (u q) && false))) (λ p q. 0) n (λ p q hp hq. none (u p) (u q)),
    )
  where
    none : (x y : Bool) → bit (x && (not y && false)) ≤ 0
    none true true = omega arith
    none true false = omega arith
    none false y = omega arith
hits u (d ∷ c) n =
    omega (
      arith,
      hits u c n,
      leaves_once u d.low d.high n,
      pairs_total (λ p q. u p && (not (u q) && (same_edge d.low d.high p q || any (is_between p q) c))) n,
      pairs_total (λ p q. u p && (not (u q) && same_edge d.low d.high p q)) n,
      pairs_total (λ p q. u p && (not (u q) && any (is_between p q) c)) n,
      total₂_add (λ p q. bit (u p && (not (u q) && same_edge d.low d.high p q))) (λ p q. bit (u p && (not (u q) && any (is_between p q) c))) n,
      total₂_le (λ p q. bit (u p && (not (u q) && (same_edge d.low d.high p q || any (is_between p q) c))))
          (λ p q. bit (u p && (not (u q) && same_edge d.low d.high p q)) + bit (u p && (not (u q) && any (is_between p q) c))) n
          (λ p q hp hq. split (u p) (u q) (same_edge d.low d.high p q) (any (is_between p q) c)),
    )
  where
    split : (x y s r : Bool) → bit (x && (not y && (s || r))) ≤ bit (x && (not y && s)) + bit (x && (not y && r))
    split true true s r = omega arith
    split true false true r = omega arith
    split true false false r = omega arith
    split false y s r = omega arith

-- No fewer edges part a and b than leave what a then reaches.
pub leaving_most : (g : Graph) → Simple g → (a : ℕ) → a < g.order → (c : List Edge) → leaving g.order g.joined (λ q. linked (without_edges g c) a q) ≤ length c
leaving_most g simple a ha c =
    let u = λ (q : ℕ). linked (without_edges g c) a q in
    let n = g.order in
    omega (
      arith,
      hits u c n,
      pairs_total (λ p q. u p && (not (u q) && g.joined p q)) n,
      pairs_total (λ p q. u p && (not (u q) && has_edge c p q)) n,
      total₂_le (λ p q. bit (u p && (not (u q) && g.joined p q))) (λ p q. bit (u p && (not (u q) && has_edge c p q))) n (λ p q hp hq. each p q),
    )
  where
    table : (x y j h : Bool) → (x ≡ true → y ≡ false → j ≡ true → h ≡ true) → bit (x && (not y && j)) ≤ bit (x && (not y && h))
    table true true j h f = omega arith
    table true false true true f = omega arith
    table true false true false f = let z : ⊥ = true≢false (sym (f refl refl refl)) in absurd z
    table true false false h f = zero_le_bit h
      where
        zero_le_bit : (x : Bool) → 0 ≤ bit x
        zero_le_bit x = omega arith
    table false y j h f = omega arith

    each : (p q : ℕ)
        → bit (linked (without_edges g c) a p && (not (linked (without_edges g c) a q) && g.joined p q))
        ≤ bit (linked (without_edges g c) a p && (not (linked (without_edges g c) a q) && has_edge c p q))
    each p q = table (linked (without_edges g c) a p) (linked (without_edges g c) a q) (g.joined p q) (has_edge c p q) (leaving_has g simple a a ha c p q)
