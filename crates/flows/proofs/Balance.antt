-- What leaves a set of nodes is the flow's value more than what enters it.
use Rattle.std.proofs.Common.{◌≡◌, ℕ, ◌+◌, ◌*◌, Bool, true, false, not, ◌&&◌, sym, refl, ap, ◌∙◌, ap₂, arith}
use Rattle.std.proofs.lemmas.Bool.{both_ways}
use Rattle.graph.specs.Graph.{count}
use Rattle.flows.specs.Flow.{total, out, into, leaving, entering, FlowBalance}
use Rattle.flows.proofs.Sums.{bit, total_same, total_swap, total_but, total₂_add, total₂_same, total_zero, count_total, pairs_total}

-- A sum over a row, of a node in u or not.
row_in : (b : Bool) (f : ℕ → Bool) (n : ℕ) → total (λ q. bit (b && f q)) n ≡ bit b * count f n
row_in true f n = omega (arith, count_total f n)
row_in false f n = total_zero n ∙ omega arith

-- An arc out of u leaves u or stays inside.
split : (a b c : Bool) → bit (a && c) ≡ bit (a && (not b && c)) + bit (a && (b && c))
split true true c = omega arith
split true false c = omega arith
split false b c = refl

twist : (a b c : Bool) → bit (a && (b && c)) ≡ bit (b && (a && c))
twist true true c = refl
twist true false c = refl
twist false true c = refl
twist false false c = refl

module _ (n : ℕ) (f : ℕ → ℕ → Bool) (u : ℕ → Bool) where
  -- The arcs of f that stay inside u.
  inside : ℕ
  inside = total (λ p. total (λ q. bit (u p && (u q && f p q))) n) n

  -- All arcs out of nodes of u: those that leave u, and those inside.
  outs : total (λ p. bit (u p) * out n f p) n ≡ leaving n f u + inside
  unfolding inside
  outs =
      sym (total_same _ _ n (λ p _. row_in (u p) (f p) n))
      ∙ total₂_same _ _ n (λ p q _ _. split (u p) (u q) (f p q))
      ∙ total₂_add (λ p q. bit (u p && (not (u q) && f p q))) (λ p q. bit (u p && (u q && f p q))) n
      ∙ ap (λ (k : ℕ). k + inside) (sym (pairs_total (λ p q. u p && (not (u q) && f p q)) n))

  -- All arcs into nodes of u: those that enter u, and those inside.
  ins : total (λ p. bit (u p) * into n f p) n ≡ entering n f u + inside
  unfolding inside
  ins =
      sym (total_same _ _ n (λ p _. row_in (u p) (λ q. f q p) n))
      ∙ total₂_same _ _ n (λ p q _ _. split (u p) (u q) (f q p))
      ∙ total₂_add (λ p q. bit (u p && (not (u q) && f q p))) (λ p q. bit (u p && (u q && f q p))) n
      ∙ ap₂ (λ (j k : ℕ). j + k) (sym (pairs_total (λ p q. u p && (not (u q) && f q p)) n))
      (total₂_same _ _ n (λ p q _ _. twist (u p) (u q) (f q p)) ∙ total_swap (λ p q. bit (u q && (u p && f q p))) n n)

same_if : (b : Bool) (x y : ℕ) → (b ≡ true → x ≡ y) → bit b * x ≡ bit b * y
same_if true x y e = ap (λ (k : ℕ). 1 * k) (e refl)
same_if false x y e = omega arith

-- Summed over u, only s has more out of it than into it.
pub flow_balance_lem : FlowBalance
flow_balance_lem d s t f v u fl hs h =
    let n = d.nodes in
    let o = outs n f u in
    let i = ins n f u in
    let apart : (p : ℕ) → u p ≡ true → p ≡ t → ⊥ = λ p e q. both_ways (u t) h.1 (ap u (sym q) ∙ e) in
    let b = total_but (λ p. bit (u p) * out n f p) (λ p. bit (u p) * into n f p) n s hs
    (λ p l d. same_if (u p) _ _ (λ e. fl.kept p l d (apart p e))) in
    let c = rw h.0 at b in
    let w = fl.value in
    omega arith
