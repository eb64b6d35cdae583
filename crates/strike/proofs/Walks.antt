-- Walking the store's neighbours past the struck ones finds the layer's.
use Rattle.std.proofs.Common.{◌≡◌, ℕ, ◌+◌, ◌-◌, ◌<◌, ◌≤◌, Bool, true, false, not, List, Some, None, sym, ap, ◌∙◌, ⊎_elim, arith}
use Rattle.std.proofs.lemmas.Bool.{both_ways, cases_Bool, cases_eq, and_parts, and_from, and_left, and_right, not_from_true, not_from_false}
use Rattle.graph.specs.Graph.{Graph, next, first}
use Rattle.graph.proofs.Leaps as Leaps
use Rattle.graph.proofs.Leaps.{Scan}
use Rattle.rows.specs.Marks.{fresh}
use Rattle.rows.proofs.Fresh.{fresh_parts, fresh_from, fresh_off}
use Rattle.store.specs.Outside.{next_outside}
use Rattle.graph.proofs.Firsts.{Found, first_found, first_missing, first_some, first_all, first_skip}
use Rattle.strike.specs.Struck.{listed, without}

-- The walk began at w and goes on at `from`; `inv` says that nothing was missed. `has` is what
-- the marks answer of the neighbour v that the store gives.
module _ (g : Graph) (ps : List (ℕ × ℕ)) (u w from : ℕ) (inv : next (without g ps) u w ≡ next (without g ps) u from) where
  -- What the store does not join, the layer does not.
  gone : (k : ℕ) → g.joined u k ≡ false → (without g ps).joined u k ≡ false
  gone k h = and_right (not (listed ps u k)) (g.joined u k) h

  -- A neighbour that is not struck is the one.
  pub walk_found : (v : ℕ) → Some v ≡ next g u from → (has : Bool) → has ≡ listed ps u v → has ≡ false → Some v ≡ next (without g ps) u w
  walk_found v e has is off =
      let clear : listed ps u v ≡ false = sym is ∙ off in
      let f = first_some (g.joined u) from g.order v (sym e) in
      first_found ((without g ps).joined u) from v g.order f.from f.below (λ k a b. gone k (f.none k a b)) (rw clear f.here) ∙ sym inv

  -- A struck one is passed.
  pub walk_goes : (v : ℕ) → Some v ≡ next g u from → (has : Bool) → has ≡ listed ps u v → has ≡ true
      → (next (without g ps) u w ≡ next (without g ps) u (v + 1)) × (from ≤ v) × (v < g.order)
  walk_goes v e has is on =
      let struck : listed ps u v ≡ true = sym is ∙ on in
      let f = first_some (g.joined u) from g.order v (sym e) in
      let q = (without g ps).joined u in
      let split : g.order - from ≡ (v + 1 - from) + (g.order - (v + 1)) = omega arith in
      let at : from + (v + 1 - from) ≡ v + 1 = omega arith in
      let here : q v ≡ false = rw struck in
      let none : (k : ℕ) → from ≤ k → k < from + (v + 1 - from) → q k ≡ false =
      λ k a b. ⊎_elim (λ x. rw x here) (λ x. gone k (f.none k a (omega (arith, x)))) (cases_eq k v) in (
        inv ∙ ap (first q from) split ∙ first_skip q from (v + 1 - from) (g.order - (v + 1)) none ∙ ap (λ (x : ℕ). first q x (g.order - (v + 1))) at,
        f.from,
        f.below,
      )

  -- Where the store has no more, the layer has none.
  pub walk_none : None ≡ next g u from → None ≡ next (without g ps) u w
  walk_none e = first_missing ((without g ps).joined u) from g.order (λ k a b. gone k (first_all (g.joined u) from g.order (sym e) k a b)) ∙ sym inv

-- The same walk past what is in a set: a scan from w up has come to v, by what the store joins outside it.
module _ (g : Graph) (ps : List (ℕ × ℕ)) (m : ℕ → Bool) (u : ℕ) where
  -- What the store does not join outside the set, the layer does not.
  fresh_gone : (k : ℕ) → fresh m (g.joined u) k ≡ false → fresh m ((without g ps).joined u) k ≡ false
  fresh_gone k h =
      ⊎_elim
      (λ e. let p = fresh_parts m ((without g ps).joined u) k e in
      absurd (both_ways _ h (fresh_from m (g.joined u) k p.0 (and_parts (not (listed ps u k)) (g.joined u k) p.1).1)))
      (λ e. e)
      (cases_Bool (fresh m ((without g ps).joined u) k))

  module _ {w v : ℕ} (s : Scan (fresh m ((without g ps).joined u)) w v) where
    -- A neighbour that is not struck is the one.
    pub scan_hit : {q : ℕ} {r : Bool} → Found (fresh m (g.joined u)) v g.order q → r ≡ listed ps u q → r ≡ false → Some q ≡ next_outside (without g ps) m u w
    scan_hit {q} f is off =
        let p = fresh_parts m (g.joined u) q f.here in
        Leaps.hit s fresh_gone f f.below
        (fresh_from m ((without g ps).joined u) q p.0 (and_from (not (listed ps u q)) (g.joined u q) (not_from_false (listed ps u q) (sym is ∙ off)) p.1))

    -- A struck one is passed.
    pub scan_past : {q : ℕ} {r : Bool} → Found (fresh m (g.joined u)) v g.order q → r ≡ listed ps u q → r ≡ true
        → Scan (fresh m ((without g ps).joined u)) w (q + 1)
    scan_past {q} f is on =
        Leaps.on s fresh_gone f
        (fresh_off m ((without g ps).joined u) q (and_left (not (listed ps u q)) (g.joined u q) (not_from_true (listed ps u q) (sym is ∙ on))))

    -- Where the store has no more, the layer has none.
    pub scan_end : ((k : ℕ) → v ≤ k → k < g.order → fresh m (g.joined u) k ≡ false) → None ≡ next_outside (without g ps) m u w
    scan_end all = Leaps.none s fresh_gone {n = g.order} (omega arith) all
