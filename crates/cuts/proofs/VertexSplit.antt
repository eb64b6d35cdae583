-- The split digraph of a pair: its arcs, and how many of them leave a set of nodes.
--
--   arc_cases        an arc leads through a vertex, out of an end, or out of an exit
--   split_sound      arcs join nodes
--   leaves_least     a set with a and without b is left by as many arcs as it has crossing vertices
--   leaves_most      from a set of vertices: a set of nodes left only through what is next to it
use Rattle.std.proofs.Common.{◌≡◌, ℕ, zero, suc, ◌+◌, ◌-◌, ◌<◌, ◌≤◌, Bool, true, false, cond, not, ◌&&◌, ◌||◌, eqb, ltb, ◌⊎◌, length, sym, refl, ap, ◌∙◌, inl, inr, ⊎_elim, arith}
use Rattle.std.proofs.lemmas.Bool.{cases_Bool, cases_eq, both_ways, cond-true, cond-false, and_from, and_parts, or_left, or_right, or_cases, or_from, or_parts, not-true, not_from_false, eq-eqb, ne_eqb, eqb-true, ltb-true, ltb-false, lt-ltb, le-ltb}
use Rattle.graph.specs.Graph.{Graph, Simple, count}
use Rattle.graph.proofs.Counts.{count_ext, count_none, count_short}
use Rattle.flows.specs.Lists.{upto, any}
use Rattle.flows.specs.Flow.{Sound, total, leaving, Between}
use Rattle.flows.proofs.Lists.{never_true, any_upto_at}
use Rattle.flows.proofs.Sums.{bit, total_le, count_total, count_some}
use Rattle.cuts.specs.Pairs.{is_end, through, along, split, crossing_vertices}
use Rattle.cuts.proofs.EdgeLists.{kept_count}
use Rattle.cuts.proofs.VertexLists.{count_le, count_or, count_spot}

-- What an arc of the split digraph is.
pub data Arc (g : Graph) (a b p q : ℕ) : Type 0 where
  passes : p < g.order → (p ≡ a → ⊥) → (p ≡ b → ⊥) → q ≡ g.order + p → Arc g a b p q
  sets_out : (p ≡ a) ⊎ (p ≡ b) → p < g.order → q < g.order → g.joined p q ≡ true → Arc g a b p q
  goes_on : (u : ℕ) → p ≡ g.order + u → (u ≡ a → ⊥) → (u ≡ b → ⊥) → q < g.order → g.joined u q ≡ true → Arc g a b p q

-- What the test of an end says, both ways.
no_ends : (a b v : ℕ) → is_end a b v ≡ false → (v ≡ a → ⊥) × (v ≡ b → ⊥)
no_ends a b v e =
    let k = or_parts (eqb v a) (eqb v b) e in
    ((λ i. both_ways (eqb v a) k.0 (eq-eqb v a i)), (λ i. both_ways (eqb v b) k.1 (eq-eqb v b i)))

-- An end is a or b.
an_end : (a b v : ℕ) → is_end a b v ≡ true → (v ≡ a) ⊎ (v ≡ b)
an_end a b v e = ⊎_elim (λ i. inl (eqb-true v a i)) (λ i. inr (eqb-true v b i)) (or_cases (eqb v a) (eqb v b) e)

-- What is neither a nor b is no end.
off_ends : (a b v : ℕ) → (v ≡ a → ⊥) → (v ≡ b → ⊥) → not (is_end a b v) ≡ true
off_ends a b v x y = not_from_false _ (or_from _ _ (ne_eqb v a x) (ne_eqb v b y))

module _ (g : Graph) (a b : ℕ) where
  -- Every arc is one of the three.
  pub arc_cases : (p q : ℕ) → (split g a b).arc p q ≡ true → Arc g a b p q
  arc_cases p q e =
      ⊎_elim
      (λ h. let k = and_parts (ltb p g.order && not (is_end a b p)) (eqb q (g.order + p)) h in
      let l = and_parts (ltb p g.order) (not (is_end a b p)) k.0 in
      let m = no_ends a b p (not-true _ l.1) in
      passes (ltb-true p g.order l.0) m.0 m.1 (eqb-true q (g.order + p) k.1))
      (λ h. let k = and_parts (ltb q g.order) _ h in
      ⊎_elim
      (λ low. let l = and_parts (is_end a b p) (g.joined p q) (sym (cond-true (ltb p g.order) _ _ low) ∙ k.1) in
      sets_out (an_end a b p l.0) (ltb-true p g.order low) (ltb-true q g.order k.0) l.1)
      (λ high. let l = and_parts (not (is_end a b (p - g.order))) (g.joined (p - g.order) q) (sym (cond-false (ltb p g.order) _ _ high) ∙ k.1) in
      let m = no_ends a b (p - g.order) (not-true _ l.0) in
      let z = ltb-false p g.order high in
      goes_on (p - g.order) (omega arith) m.0 m.1 (ltb-true q g.order k.0) l.1)
      (cases_Bool (ltb p g.order)))
      (or_cases (through g a b p q) (along g a b p q) e)

  -- The arc through a vertex that is no end.
  pub arc_through : (p : ℕ) → p < g.order → (p ≡ a → ⊥) → (p ≡ b → ⊥) → (split g a b).arc p (g.order + p) ≡ true
  arc_through p h x y = or_left _ _ (and_from _ _ (and_from _ _ (lt-ltb p g.order h) (off_ends a b p x y)) (eq-eqb _ _ refl))

  -- The arcs out of a.
  pub arc_start : (q : ℕ) → a < g.order → q < g.order → g.joined a q ≡ true → (split g a b).arc a q ≡ true
  arc_start q h k j =
      or_right (through g a b a q) _ (and_from _ _ (lt-ltb q g.order k)
      (cond-true (ltb a g.order) _ _ (lt-ltb a g.order h) ∙ and_from _ _ (or_left _ _ (eq-eqb a a refl)) j))

  -- The arcs out of an exit.
  pub arc_exit : (u q : ℕ) → (u ≡ a → ⊥) → (u ≡ b → ⊥) → q < g.order → g.joined u q ≡ true → (split g a b).arc (g.order + u) q ≡ true
  arc_exit u q x y k j =
      let z : (g.order + u) - g.order ≡ u = omega arith in
      or_right (through g a b (g.order + u) q) _ (and_from _ _ (lt-ltb q g.order k)
      (cond-false (ltb (g.order + u) g.order) _ _ (le-ltb (g.order + u) g.order (omega arith))
      ∙ ap (λ (w : ℕ). not (is_end a b w) && g.joined w q) z ∙ and_from _ _ (off_ends a b u x y) j))

  -- The one arc to an exit leads through its vertex.
  pub arc_to : (p u : ℕ) → (split g a b).arc p (g.order + u) ≡ true → p ≡ u
  arc_to p u e =
      elim (arc_cases p (g.order + u) e) [
        | passes h x y i ↦ omega arith
        | sets_out x h k j ↦ absurd (omega arith)
        | goes_on w i x y k j ↦ absurd (omega arith)
      ]

  -- Arcs join nodes.
  pub split_sound : Simple g → Sound (split g a b)
  split_sound s = record { bounded = λ p q e. nodes p q (arc_cases p q e) }
    where
      nodes : (p q : ℕ) → Arc g a b p q → (p < g.order + g.order) × (q < g.order + g.order)
      nodes p q (passes h x y i) = (omega arith, omega arith)
      nodes p q (sets_out x h k j) = (omega arith, omega arith)
      nodes p q (goes_on u i x y k j) = let r = s.bounded u q j in (omega arith, omega arith)

-- A sum over more numbers is no smaller.
total_more : (f : ℕ → ℕ) (m k : ℕ) → total f m ≤ total f (m + k)
unfolding total
total_more f m zero = let e : m + 0 ≡ m = omega arith in rw e (omega arith)
total_more f m (suc k) = let e : m + suc k ≡ suc (m + k) = omega arith in rw e (omega (arith, total_more f m k))

-- Two sums of which one is smaller term by term but at one place.
total_but_le : (f h : ℕ → ℕ) (n s : ℕ) → s < n → ((i : ℕ) → i < n → (i ≡ s → ⊥) → f i ≤ h i) → total f n + h s ≤ total h n + f s
unfolding total
total_but_le f h zero s l e = absurd (omega arith)
total_but_le f h (suc n) s l e =
    ⊎_elim
    (λ p. let same = total_le f h n (λ i k. e i (omega arith) (λ q. omega arith)) in
    let x = ap f p in
    let y = ap h p in
    omega arith)
    (λ d. let here = e n (omega arith) d in omega (arith, total_but_le f h n s (omega arith) (λ i k. e i (omega arith))))
    (cases_eq n s)

-- A member counts, and a test that only one number can pass counts at most one.
count_bit : (t : ℕ → Bool) (k x : ℕ) (m : Bool) → x < k → (m ≡ true → t x ≡ true) → bit m ≤ count t k
count_bit t k x true l h = count_some t k x l (h refl)
count_bit t k x false l h = omega arith

-- A test that one number alone can pass, and only under a condition.
pub count_once : (t : ℕ → Bool) (k x : ℕ) (m : Bool) → ((q : ℕ) → q < k → t q ≡ true → (q ≡ x) × (m ≡ true)) → count t k ≤ bit m
count_once t k x true h = omega (arith, count_le t (λ q. eqb q x) k (λ q l e. eq-eqb q x (h q l e).0), count_spot x k)
count_once t k x false h = omega (arith, count_none t k (λ q l. never_true _ (λ e. both_ways false refl (h q l e).1)))

-- The test of an arc through a vertex, taken apart.
three : (x y z : Bool) → (x && not y && not z) ≡ true → (x ≡ true) × (y ≡ false) × (z ≡ false)
three true true z e = grind arith
three true false true e = grind arith
three true false false e = (refl, refl, refl)
three false y z e = grind arith

module _ (g : Graph) (a b : ℕ) (ha : a < g.order) (w : ℕ → Bool) (wa : w a ≡ true) (wb : w b ≡ false) where
  -- The arcs of a row that leave w.
  row : ℕ → ℕ
  row p = count (λ q. w p && (not (w q) && (split g a b).arc p q)) (g.order + g.order)

  -- A vertex that is entered and not left, but for a.
  inner : ℕ → Bool
  inner v = w v && not (w (g.order + v)) && not (eqb v a)

  -- A neighbour of a that is not entered.
  outer : ℕ → Bool
  outer v = not (w v) && g.joined a v

  -- The first kind is read off the arc through it.
  inner_row : (p : ℕ) → p < g.order → bit (inner p) ≤ row p
  unfolding inner row
  inner_row p h =
      count_bit (λ q. w p && (not (w q) && (split g a b).arc p q)) (g.order + g.order) (g.order + p) (inner p) (omega arith)
      (λ e. let k = three (w p) (w (g.order + p)) (eqb p a) e in
      and_from _ _ k.0 (and_from _ _ (not_from_false _ k.1)
      (arc_through g a b p h (λ i. both_ways (eqb p a) k.2 (eq-eqb p a i)) (λ i. both_ways (w b) wb (ap w (sym i) ∙ k.0)))))

  -- The second kind is read off the arcs out of a.
  outer_row : count outer g.order ≤ row a
  unfolding outer row
  outer_row =
      omega (
        arith,
        count_le outer (λ q. w a && (not (w q) && (split g a b).arc a q)) g.order
            (λ q l e. let k = and_parts (not (w q)) (g.joined a q) e in and_from _ _ wa (and_from _ _ k.0 (arc_start g a b q ha l k.1))),
        count_total (λ q. w a && (not (w q) && (split g a b).arc a q)) g.order,
        count_total (λ q. w a && (not (w q) && (split g a b).arc a q)) (g.order + g.order),
        total_more (λ q. bit (w a && (not (w q) && (split g a b).arc a q))) g.order g.order,
      )

  -- The start is none of the first kind.
  inner_none : bit (inner a) ≡ 0
  unfolding inner
  inner_none = ap bit (never_true _ (λ e. both_ways (eqb a a) (three (w a) (w (g.order + a)) (eqb a a) e).2 (eq-eqb a a refl)))

  -- Each crossing vertex is read off one arc.
  pub leaves_least : length (crossing_vertices g a w) ≤ leaving (g.order + g.order) (split g a b).arc w
  unfolding row inner outer
  leaves_least =
      omega (
        arith,
        kept_count (λ v. inner v || outer v) g.order,
        count_or inner outer g.order,
        count_total inner g.order,
        total_but_le (λ p. bit (inner p)) row g.order a ha (λ p h _. inner_row p h),
        outer_row,
        inner_none,
        total_more row g.order g.order,
      )

module _ (g : Graph) (a b : ℕ) (u : ℕ → Bool) where
  -- What is next to a set of vertices.
  abbrev pub next_to : ℕ → Bool
  next_to v = any (λ p. u p && g.joined p v) (upto g.order)

  -- Its border.
  abbrev pub border : ℕ → Bool
  border v = next_to v && not (u v)

  -- The set of nodes: entries of the set and of what is next to it, exits of the set.
  abbrev pub doubled : ℕ → Bool
  doubled p = cond (ltb p g.order) (u p || next_to p) (u (p - g.order))

  -- Its entries.
  pub doubled_entry : (p : ℕ) → p < g.order → doubled p ≡ (u p || next_to p)
  doubled_entry p h = cond-true (ltb p g.order) _ _ (lt-ltb p g.order h)

  -- Its exits.
  pub doubled_exit : (p : ℕ) → doubled (g.order + p) ≡ u p
  doubled_exit p =
      cond-false (ltb (g.order + p) g.order) _ _ (le-ltb (g.order + p) g.order (omega arith))
      ∙ ap u (let z : (g.order + p) - g.order ≡ p = omega arith in z)

  -- A neighbour of a member is next to the set.
  next_at : (p q : ℕ) → p < g.order → u p ≡ true → g.joined p q ≡ true → next_to q ≡ true
  next_at p q h e j = any_upto_at (λ p. u p && g.joined p q) g.order p h (and_from _ _ e j)

  module _ (s : Simple g) (ha : a < g.order) (hb : b < g.order) (ua : u a ≡ true) (ub : u b ≡ false) (nb : next_to b ≡ false) where
    -- It has a, and not b.
    pub doubled_between : Between a b doubled
    doubled_between = (doubled_entry a ha ∙ or_left _ _ ua, doubled_entry b hb ∙ or_from _ _ ub nb)

    -- An arc that leaves leads through the border.
    one_way : (p q : ℕ) → doubled p ≡ true → doubled q ≡ false → Arc g a b p q → (q ≡ g.order + p) × ((ltb p g.order && border p) ≡ true)
    one_way p q x y (passes h pa pb i) =
        let off : u p ≡ false = sym (doubled_exit p) ∙ ap doubled (sym i) ∙ y in
        let on = sym (doubled_entry p h) ∙ x in (
          i,
          and_from _ _ (lt-ltb p g.order h)
              (and_from _ _ (⊎_elim (λ z. absurd (both_ways (u p) off z)) (λ z. z) (or_cases (u p) (next_to p) on)) (not_from_false _ off)),
        )
    one_way p q x y (sets_out e h k j) =
        let off = or_parts (u q) (next_to q) (sym (doubled_entry q k) ∙ y) in
        ⊎_elim
        (λ i. absurd (both_ways (next_to q) off.1 (next_at p q h (ap u i ∙ ua) j)))
        (λ i. absurd (both_ways (doubled b) doubled_between.1 (ap doubled (sym i) ∙ x)))
        e
    one_way p q x y (goes_on c i ca cb k j) =
        let off = or_parts (u q) (next_to q) (sym (doubled_entry q k) ∙ y) in
        let on : u c ≡ true = sym (doubled_exit c) ∙ ap doubled (sym i) ∙ x in
        absurd (both_ways (next_to q) off.1 (next_at c q (s.bounded c q j).0 on j))

    -- So no more arcs leave than the border has vertices.
    pub leaves_most : leaving (g.order + g.order) (split g a b).arc doubled ≤ count border g.order
    leaves_most =
        let n = g.order in
        omega (
          arith,
          total_le (λ p. count (λ q. doubled p && (not (doubled q) && (split g a b).arc p q)) (n + n)) (λ p. bit (ltb p n && border p)) (n + n)
              (λ p _. count_once (λ q. doubled p && (not (doubled q) && (split g a b).arc p q)) (n + n) (n + p) (ltb p n && border p)
              (λ q _ e. let k = and_parts (doubled p) _ e in
              let l = and_parts (not (doubled q)) _ k.1 in
              one_way p q k.0 (not-true _ l.0) (arc_cases g a b p q l.1))),
          count_total (λ p. ltb p n && border p) (n + n),
          count_short (λ p. ltb p n && border p) n (n + n) (omega arith) (λ k l _. ap (λ (t : Bool). t && border k) (le-ltb k n l)),
          count_ext (λ p. ltb p n && border p) border n (λ k l. ap (λ (t : Bool). t && border k) (lt-ltb k n l)),
        )
