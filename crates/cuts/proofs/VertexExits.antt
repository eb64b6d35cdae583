-- No arc from an exit leaves the residual side of a stuck flow in the split digraph: the exit's
-- one unit would go along that arc, and then nothing else could have led to the exit.
use Rattle.std.proofs.Common.{◌≡◌, ℕ, ◌+◌, ◌<◌, ◌≤◌, Bool, true, false, not, ◌&&◌, eqb, sym, refl, ap, ◌∙◌, ap₂, ⊎_elim, arith}
use Rattle.std.proofs.lemmas.Bool.{cases_Bool, cases_eq, both_ways, and_from, and_right, and_parts, or_right, or_cases, not-true, not_from_true, not_from_false, eq-eqb, ne_eqb}
use Rattle.graph.specs.Graph.{Graph, Simple, count}
use Rattle.graph.proofs.Counts.{count_one}
use Rattle.flows.specs.Flow.{Flow, out, into, residual, residual_side}
use Rattle.flows.proofs.Sums.{bit, count_some}
use Rattle.flows.proofs.Reached.{reached_self, reached_step, reached_each}
use Rattle.cuts.specs.Pairs.{split}
use Rattle.cuts.proofs.VertexSplit.{count_once, arc_exit, arc_to}

-- Two members count two.
count_two : (t : ℕ → Bool) (n i j : ℕ) → i < n → j < n → (j ≡ i → ⊥) → t i ≡ true → t j ≡ true → 2 ≤ count t n
count_two t n i j hi hj d ti tj =
    omega (
      arith,
      count_one (λ k. t k && not (eqb k i)) t i n hi (and_right (t i) _ (not_from_true _ (eq-eqb i i refl))) ti
          (λ k _ e. sym (same (t k) (eqb k i) (ne_eqb k i e))),
      count_some (λ k. t k && not (eqb k i)) n j hj (and_from _ _ tj (not_from_false _ (ne_eqb j i d))),
    )
  where
    same : (x y : Bool) → y ≡ false → (x && not y) ≡ x
    same x y e = grind arith

-- A test counts at most one.
one : (x : Bool) → bit x ≤ 1
one x = grind arith

module _ (g : Graph) (a b : ℕ) (s : Simple g) (ha : a < g.order) (hb : b < g.order) (f : ℕ → ℕ → Bool) (v : ℕ) (fl : Flow (split g a b) a b f v) where
  -- The residual side.
  abbrev side : ℕ → Bool
  side = residual_side (split g a b) f a

  -- What is a residual step from the side is on it.
  onward : (p q : ℕ) → q < g.order + g.order → side p ≡ true → residual (split g a b) f p q ≡ true → side q ≡ true
  onward = reached_step (g.order + g.order) (residual (split g a b) f) a (omega arith)

  module _ (u w : ℕ) (ua : u ≡ a → ⊥) (ub : u ≡ b → ⊥) (hw : w < g.order) (j : g.joined u w ≡ true) (on : side (g.order + u) ≡ true) (off : side w ≡ false) where
    -- A vertex with a neighbour is a vertex of the graph.
    hu : u < g.order
    hu = (s.bounded u w j).0

    -- The arc that leaves is in the flow.
    used : f (g.order + u) w ≡ true
    used =
        ⊎_elim (λ e. e)
        (λ e. absurd (both_ways (side w) off
        (onward (g.order + u) w (omega arith) on (or_right (f w (g.order + u)) _ (and_from _ _ (arc_exit g a b u w ua ub hw j) (not_from_false _ e))))))
        (cases_Bool (f (g.order + u) w))

    -- The one arc into the exit.
    in_one : into (g.order + g.order) f (g.order + u) ≤ bit (f u (g.order + u))
    in_one =
        count_once (λ q. f q (g.order + u)) (g.order + g.order) u (f u (g.order + u))
        (λ q _ e. let i = arc_to g a b q u (fl.along q (g.order + u) e) in (i, ap (λ (x : ℕ). f x (g.order + u)) (sym i) ∙ e))

    -- As much comes into the exit as goes out.
    level : out (g.order + g.order) f (g.order + u) ≡ into (g.order + g.order) f (g.order + u)
    level = fl.kept (g.order + u) (omega (arith, hu)) (λ e. omega arith) (λ e. omega arith)

    -- So the arc into it is in the flow.
    filled : f u (g.order + u) ≡ true
    filled =
        ⊎_elim (λ e. e)
        (λ e. absurd (omega (arith, ap bit e, in_one, level, count_some (λ q. f (g.order + u) q) (g.order + g.order) w (omega arith) used)))
        (cases_Bool (f u (g.order + u)))

    -- And so the one arc of the flow out of it.
    only : (y : ℕ) → y < g.order + g.order → f (g.order + u) y ≡ true → y ≡ w
    only y h e =
        ⊎_elim (λ i. i)
        (λ d. absurd (omega (arith, in_one, level, one (f u (g.order + u)), count_two (λ q. f (g.order + u) q) (g.order + g.order) w y (omega arith) h d used e)))
        (cases_eq y w)

    -- No residual step leads to the exit.
    no_step : (y z : ℕ) → y < g.order + g.order → side y ≡ true → residual (split g a b) f y z ≡ true → z ≡ g.order + u → ⊥
    no_step y z h sy r i =
        ⊎_elim
        (λ k. both_ways (side w) off (ap side (sym (only y h (ap (λ (x : ℕ). f x y) (sym i) ∙ k))) ∙ sy))
        (λ k. let l = and_parts ((split g a b).arc y z) (not (f y z)) k in
        let e = arc_to g a b y u (ap ((split g a b).arc y) (sym i) ∙ l.0) in
        both_ways (f y z) (not-true _ l.1) (ap₂ f e i ∙ filled))
        (or_cases (f z y) ((split g a b).arc y z && not (f y z)) r)

    -- So the exit is not on the side after all.
    nowhere : ⊥
    nowhere =
        (reached_each (g.order + g.order) (residual (split g a b) f) a (omega arith) (λ z. (side z ≡ true) × (z ≡ g.order + u → ⊥))
        (reached_self (g.order + g.order) (residual (split g a b) f) a (omega arith), λ e. omega arith)
        (λ y z hy hz k r. (onward y z hz k.0 r, no_step y z hy k.0 r))
        (g.order + u) on).1 refl

  -- A vertex next to one whose exit is on the side has its entry there.
  pub exit_step : (u w : ℕ) → (u ≡ a → ⊥) → (u ≡ b → ⊥) → w < g.order → g.joined u w ≡ true → side (g.order + u) ≡ true → side w ≡ true
  exit_step u w ua ub hw j on = ⊎_elim (λ e. e) (λ e. absurd (nowhere u w ua ub hw j on e)) (cases_Bool (side w))
