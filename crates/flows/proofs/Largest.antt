-- No flow is larger than the arcs that leave a set with s and without t; a flow with no
-- residual way to t is as large as the arcs that leave its residual side.
use Rattle.std.proofs.Common.{◌≡◌, ℕ, ◌<◌, ◌≤◌, Bool, true, not, ◌&&◌, ◌||◌, sym, inl, inr, arith}
use Rattle.std.proofs.lemmas.Bool.{or_cases, and_parts}
use Rattle.flows.specs.Flow.{Digraph, Sound, Flow, leaving, residual, residual_side, Between, FlowBound, LargestFlow}
use Rattle.flows.proofs.Sums.{bit, total₂_zero, total₂_same, total₂_le, total₂_tight, pairs_total}
use Rattle.flows.proofs.Reached.{reached_self, reached_step, reached_least}
use Rattle.flows.proofs.Balance.{flow_balance_lem}

-- One pair of nodes, by its tests: a and b for u p and u q, c for the arc, d for the flow along
-- it, e for the flow back.
no_more : (a b c d : Bool) → (d ≡ true → c ≡ true) → bit (a && (not b && d)) ≤ bit (a && (not b && c))
no_more a b c d h = grind arith

full : (a b c d e : Bool) → (d ≡ true → c ≡ true) → (a ≡ true → (e || (c && not d)) ≡ true → b ≡ true) → bit (a && (not b && c)) ≡ bit (a && (not b && d))
full a b c d e h k = grind arith

idle : (a b c d e : Bool) → (a ≡ true → (e || (c && not d)) ≡ true → b ≡ true) → bit (a && (not b && e)) ≡ 0
idle a b c d e k = grind arith

onward : (a b c d e : Bool) → bit (a && (not b && d)) ≡ bit (a && (not b && c)) → bit (a && (not b && e)) ≡ 0 → a ≡ true → (e || (c && not d)) ≡ true → b ≡ true
onward a b c d e h k x y = grind arith

-- Both ends of a residual step are nodes.
pub residual_ranged : (d : Digraph) (f : ℕ → ℕ → Bool) → Sound d → ((p q : ℕ) → f p q ≡ true → d.arc p q ≡ true)
    → (p q : ℕ) → residual d f p q ≡ true → (p < d.nodes) × (q < d.nodes)
residual_ranged d f sound along p q e =
    elim (or_cases (f q p) (d.arc p q && not (f p q)) e) [
      | inl h ↦ (let r = sound.bounded q p (along q p h) in (r.1, r.0))
      | inr h ↦ sound.bounded p q (and_parts (d.arc p q) _ h).0
    ]

module _ (d : Digraph) (s t : ℕ) (f : ℕ → ℕ → Bool) (v : ℕ) (fl : Flow d s t f v) (hs : s < d.nodes) where
  -- A set is closed if no residual step leads out of it.
  Closed : (ℕ → Bool) → Type 0
  Closed u = (p q : ℕ) → p < d.nodes → q < d.nodes → u p ≡ true → residual d f p q ≡ true → u q ≡ true

  -- The flow that leaves a set is no more than the arcs that do.
  fewer : (u : ℕ → Bool) → leaving d.nodes f u ≤ leaving d.nodes d.arc u
  fewer u =
      omega (
        arith,
        pairs_total (λ p q. u p && (not (u q) && f p q)) d.nodes,
        pairs_total (λ p q. u p && (not (u q) && d.arc p q)) d.nodes,
        total₂_le _ _ d.nodes (λ p q _ _. no_more (u p) (u q) (d.arc p q) (f p q) (fl.along p q)),
      )

  bounds : (u : ℕ → Bool) → Between s t u → v ≤ leaving d.nodes d.arc u
  bounds u h = omega (arith, fewer u, flow_balance_lem d s t f v u fl hs h)

  -- A closed set is left by as many arcs as the value.
  tight : (u : ℕ → Bool) → Between s t u → Closed u → leaving d.nodes d.arc u ≡ v
  unfolding Closed
  tight u h c =
      omega (
        arith,
        pairs_total (λ p q. u p && (not (u q) && f p q)) d.nodes,
        pairs_total (λ p q. u p && (not (u q) && f q p)) d.nodes,
        pairs_total (λ p q. u p && (not (u q) && d.arc p q)) d.nodes,
        total₂_same _ _ d.nodes (λ p q i j. full (u p) (u q) (d.arc p q) (f p q) (f q p) (fl.along p q) (c p q i j)),
        total₂_same _ _ d.nodes (λ p q i j. idle (u p) (u q) (d.arc p q) (f p q) (f q p) (c p q i j)),
        flow_balance_lem d s t f v u fl hs h,
        total₂_zero d.nodes,
      )

  -- A set that is left by as many arcs as the value is closed.
  closes : (u : ℕ → Bool) → Between s t u → leaving d.nodes d.arc u ≡ v → Closed u
  unfolding Closed
  closes u h e p q i j =
      let b = flow_balance_lem d s t f v u fl hs h in
      let w = fewer u in
      let x = total₂_tight _ _ d.nodes (λ p q _ _. no_more (u p) (u q) (d.arc p q) (f p q) (fl.along p q))
      (omega (arith, pairs_total (λ p q. u p && (not (u q) && f p q)) d.nodes, pairs_total (λ p q. u p && (not (u q) && d.arc p q)) d.nodes)) p q i j in
      let y = total₂_tight (λ _ _. 0) (λ p q. bit (u p && (not (u q) && f q p))) d.nodes (λ p q _ _. omega arith)
      (omega (arith, total₂_zero d.nodes, pairs_total (λ p q. u p && (not (u q) && f q p)) d.nodes)) p q i j in
      onward (u p) (u q) (d.arc p q) (f p q) (f q p) x (sym y)

pub flow_bound_lem : FlowBound
flow_bound_lem d s t f v fl hs = bounds d s t f v fl hs

-- Any set with s and without t bounds every flow, so the residual side does.
pub largest_flow_lem : LargestFlow
unfolding Closed
largest_flow_lem d s t f v sound fl hs stuck =
    let u = residual_side d f s in
    let start = reached_self d.nodes (residual d f) s hs in
    let cut = tight d s t f v fl hs u (start, stuck) (λ p q _ hq. reached_step d.nodes (residual d f) s hs p q hq) in (
      cut,
      λ h w hl. omega (arith, bounds d s t h w hl hs u (start, stuck)),
      bounds d s t f v fl hs,
      λ u b e. reached_least d.nodes (residual d f) s hs u b.0 (closes d s t f v fl hs u b e),
    )
