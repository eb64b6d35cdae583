-- Sets of vertices and the edges that leave them: a set left by fewer edges than any vertex has
-- holds a vertex with no neighbour outside, so each dominating set meets it.
use Rattle.std.proofs.Common.{◌≡◌, ℕ, zero, suc, ◌+◌, ◌<◌, ◌≤◌, Bool, true, false, cond, not, ◌&&◌, eqb, ◌⊎◌, sym, ap, ◌∙◌, inl, inr, arith}
use Rattle.std.proofs.lemmas.Bool.{cases_eq, cases_Bool, both_ways, and_from, and_parts, not-true, not_from_false, ne_eqb}
use Rattle.graph.specs.Graph.{Graph, Simple, count, degree}
use Rattle.flows.specs.Lists.{upto, any}
use Rattle.flows.specs.Flow.{total, leaving}
use Rattle.flows.proofs.Lists.{any_upto_at, any_upto_from}
use Rattle.flows.proofs.Sums.{bit, total_same, total_le, total_zero, total_add, total_swap, total₂_same, count_total, pairs_total, count_some}

-- Every vertex is in s or joined to one in s.
abbrev pub Dominates : Graph → (ℕ → Bool) → Type 0
Dominates g s = (p : ℕ) → p < g.order → (s p ≡ true) ⊎ ((q : ℕ) × (q < g.order) × (s q ≡ true) × (g.joined p q ≡ true))

-- A sum whose terms are no larger but at one place.
total_le_but : (f g : ℕ → ℕ) (n s : ℕ) → s < n → ((i : ℕ) → i < n → (i ≡ s → ⊥) → f i ≤ g i) → total f n + g s ≤ total g n + f s
unfolding total
total_le_but f g zero s h e = absurd (omega arith)
total_le_but f g (suc n) s h e =
    elim (cases_eq n s) [
      | inl p ↦ omega (arith, ap f p, ap g p, total_le f g n (λ i k. e i (omega arith) (λ q. omega arith)))
      | inr d ↦ omega (arith, e n (omega arith) d, total_le_but f g n s (omega arith) (λ i k. e i (omega arith)))
    ]

-- A sum with one term that is not zero.
pub total_spot : (f : ℕ → ℕ) (n x m : ℕ) → ((i : ℕ) → (i ≡ x → ⊥) → f i ≡ 0) → f x ≤ m → total f n ≤ m
unfolding total
total_spot f zero x m e h = omega arith
total_spot f (suc n) x m e h =
    elim (cases_eq n x) [
      | inl p ↦ omega (arith, ap f p, total_same f (λ _. 0) n (λ i k. e i (λ q. omega arith)), total_zero n)
      | inr d ↦ omega (arith, e n d, total_spot f n x m e h)
    ]

-- A count that is not zero has a number that passes.
pub count_found : (p : ℕ → Bool) (n : ℕ) → 0 < count p n → (i : ℕ) × (i < n) × (p i ≡ true)
unfolding count
count_found p zero h = absurd (omega arith)
count_found p (suc n) h =
    elim (cases_Bool (p n)) [
      | inl e ↦ (n, omega arith, e)
      | inr e ↦
          (let k : 0 < count p n = (let z : ◌≡◌ {A = ℕ} (cond (p n) 1 0) 0 = ap (λ (b : Bool). cond {A = ℕ} b 1 0) e in omega arith) in
          let r = count_found p n k in
          (r.0, omega (arith, r.1), r.2))
    ]

-- A stronger test counts no more.
pub count_weaker : (p q : ℕ → Bool) (n : ℕ) → ((i : ℕ) → i < n → p i ≡ true → q i ≡ true) → count p n ≤ count q n
count_weaker p q n h =
    let a = count_total p n in
    let b = count_total q n in
    let c = total_le (λ i. bit (p i)) (λ i. bit (q i)) n (λ i l. small (p i) (q i) (h i l)) in
    omega arith
  where
    -- A test that another follows from is no larger as a number.
    small : (a b : Bool) → (a ≡ true → b ≡ true) → bit a ≤ bit b
    small a b e = grind arith

-- One pair seen from the other side.
flip : (a b c d : Bool) → c ≡ d → bit (not a && (not (not b) && c)) ≡ bit (b && (not a && d))
flip a b c d e = grind arith

-- A neighbour of a vertex of u is in u or outside it.
here : (a b c : Bool) → a ≡ true → bit c ≡ bit (b && c) + bit (a && (not b && c))
here a b c e = grind arith

-- A test counts at most one.
bit_most : (b : Bool) → bit b ≤ 1
bit_most true = omega arith
bit_most false = omega arith

module _ (g : Graph) (ok : Simple g) where
  -- As many edges leave a set as its complement.
  pub leaving_not : (u : ℕ → Bool) → leaving g.order g.joined (λ p. not (u p)) ≡ leaving g.order g.joined u
  leaving_not u =
      pairs_total _ g.order
      ∙ total₂_same _ (λ p q. bit (u q && (not (u p) && g.joined q p))) g.order (λ p q _ _. flip (u p) (u q) (g.joined p q) (g.joined q p) (ok.symmetric p q))
      ∙ total_swap (λ p q. bit (u q && (not (u p) && g.joined q p))) g.order g.order
      ∙ sym (pairs_total (λ p q. u p && (not (u q) && g.joined p q)) g.order)

  -- An edge leaves u from p.
  abbrev bordering : (ℕ → Bool) → ℕ → Bool
  bordering u p = any (λ q. not (u q) && g.joined p q) (upto g.order)

  -- If an edge leaves u from each vertex of it, as many leave it as any vertex of it has.
  crowded : (u : ℕ → Bool) → ((p : ℕ) → p < g.order → u p ≡ true → bordering u p ≡ true) → (x : ℕ) → x < g.order → u x ≡ true
      → degree g x ≤ leaving g.order g.joined u
  crowded u e x h ux =
      let n = g.order in
      let a : degree g x ≡ total (λ q. bit (g.joined x q)) n = count_total (g.joined x) n in
      let d : total (λ q. bit (g.joined x q)) n ≡ total (λ q. bit (u q && g.joined x q)) n + total (λ q. bit (u x && (not (u q) && g.joined x q))) n =
      total_same _ _ n (λ q _. here (u x) (u q) (g.joined x q) ux) ∙ total_add (λ q. bit (u q && g.joined x q)) (λ q. bit (u x && (not (u q) && g.joined x q))) n in
      let c : row x ≡ total (λ q. bit (u x && (not (u q) && g.joined x q))) n = count_total _ n in
      let z : bit (u x && g.joined x x) ≡ 0 = none (u x) (g.joined x x) (ok.irreflexive x) in
      let l : total (λ p. bit (u p && g.joined x p)) n + row x ≤ total row n + bit (u x && g.joined x x) = total_le_but (λ p. bit (u p && g.joined x p)) row n x h (λ p i _. each p i) in
      omega arith
    where
      -- How many edges leave u from p.
      row : ℕ → ℕ
      row p = count (λ q. u p && (not (u q) && g.joined p q)) g.order

      -- A test that fails counts nothing.
      none : (a b : Bool) → b ≡ false → bit (a && b) ≡ 0
      none a b e = grind arith

      -- A neighbour of x in u has an edge of its own that leaves u.
      each : (p : ℕ) → p < g.order → bit (u p && g.joined x p) ≤ row p
      each p i =
          elim (cases_Bool (u p)) [
            | inl t ↦
                (let w = any_upto_from _ g.order (e p i t) in
                let c = count_some (λ q. u p && (not (u q) && g.joined p q)) g.order w.0 w.1 (and_from _ _ t w.2) in
                omega (arith, bit_most (u p && g.joined x p)))
            | inr t ↦ rw t (omega arith)
          ]

  -- A set left by fewer edges than any vertex has, with a vertex in it, has a member of each
  -- dominating set.
  pub meets : (s u : ℕ → Bool) → Dominates g s → (k : ℕ) → ((p : ℕ) → p < g.order → k ≤ degree g p) → leaving g.order g.joined u < k
      → (x : ℕ) → x < g.order → u x ≡ true → (q : ℕ) × (q < g.order) × (s q ≡ true) × (u q ≡ true)
  meets s u dom k deg few x h ux =
      elim (cases_Bool (any calm (upto g.order))) [
        | inl e ↦
            (let w = any_upto_from calm g.order e in
            let c = and_parts (u w.0) _ w.2 in
            elim (dom w.0 w.1) [
              | inl sp ↦ (w.0, w.1, sp, c.0)
              | inr q ↦ (q.0, q.1, q.2, home w.0 q.0 q.1 q.3 (not-true _ c.1))
            ])
        | inr e ↦ absurd (omega (arith, crowded u (all_border e) x h ux, deg x h))
      ]
    where
      -- A vertex of u with all its neighbours in u.
      calm : ℕ → Bool
      calm p = u p && not (bordering u p)

      -- The neighbours of such a vertex are in u.
      home : (p q : ℕ) → q < g.order → g.joined p q ≡ true → bordering u p ≡ false → u q ≡ true
      home p q i j e =
          elim (cases_Bool (u q)) [
            | inl t ↦ t
            | inr t ↦ absurd (both_ways _ e (any_upto_at _ g.order q i (and_from _ _ (not_from_false _ t) j)))
          ]

      -- Where there is none, each vertex of u has a neighbour outside.
      all_border : any calm (upto g.order) ≡ false → (p : ℕ) → p < g.order → u p ≡ true → bordering u p ≡ true
      all_border e p i up =
          elim (cases_Bool (bordering u p)) [
            | inl t ↦ t
            | inr t ↦ absurd (both_ways _ e (any_upto_at calm g.order p i (and_from _ _ up (not_from_false _ t))))
          ]

  -- At most as many edges leave a single vertex as it has.
  pub leaving_one : (p : ℕ) → leaving g.order g.joined (λ q. eqb q p) ≤ degree g p
  leaving_one p =
      total_spot (λ x. count (λ y. eqb x p && (not (eqb y p) && g.joined x y)) g.order) g.order p (degree g p)
      (λ x d. count_total _ g.order ∙ total_same _ (λ _. 0) g.order (λ y _. off (eqb x p) _ (ne_eqb x p d)) ∙ total_zero g.order)
      (count_weaker (λ y. eqb p p && (not (eqb y p) && g.joined p y)) (g.joined p) g.order (λ y _ e. (and_parts (not (eqb y p)) _ (and_parts (eqb p p) _ e).1).1))
    where
      -- A test that fails counts nothing.
      off : (a b : Bool) → a ≡ false → bit (a && b) ≡ 0
      off a b e = grind arith
