-- What is reached: it has the start, it is closed under steps, and it is the least such set.
--
--   reached_self     the start is reached
--   reached_step     what is one step from the reached is reached
--   reached_each     what holds of the start and is handed on by steps holds of all that is reached
--   reached_least    the same for a test
--   reached_below    what is reached is below n
--   reached_is       a test that has the start, is closed and holds only of the reached is `reaches`
--   reached_trans    what is reached from the reached is reached
--   reached_turn     where steps go both ways, so does reaching
--   reached_same     relations that agree below n reach the same
--   reached_more     a larger relation reaches at least as much
use Rattle.std.proofs.Common.{◌≡◌, ℕ, zero, suc, ◌<◌, Bool, true, ◌&&◌, ◌||◌, eqb, ltb, ◌⊎◌, List, [], ◌∷◌, sym, refl, ap, ◌∙◌, ap₂, inl, inr, arith}
use Rattle.std.proofs.lemmas.Bool.{cases_lt, eq-eqb, eqb-true, ltb-true, lt-ltb, or_cases, or_left, or_right, and_parts, and_from}
use Rattle.graph.specs.Graph.{count}
use Rattle.graph.proofs.Counts.{count_most}
use Rattle.flows.specs.Lists.{upto, any, among}
use Rattle.flows.specs.Reach.{spread, rounds, reached, reaches}
use Rattle.flows.proofs.Lists.{same_test, among_one, among_upto, among_kept, any_from, any_at, any_same}
use Rattle.flows.proofs.Sums.{count_grows, count_some}

-- One round, told as a test.
among_spread : (n : ℕ) (r : ℕ → ℕ → Bool) (s : List ℕ) (v : ℕ) → among (spread n r s) v ≡ (ltb v n && (among s v || any (λ u. r u v) s))
among_spread n r s v =
    among_kept (λ v. among s v || any (λ u. r u v) s) (upto n) v
    ∙ ap (λ (b : Bool). b && (among s v || any (λ u. r u v) s)) (among_upto n v)

-- One round more may as well be the last.
rounds_suc : (k : ℕ) (f : List ℕ → List ℕ) (s : List ℕ) → rounds (suc k) f s ≡ f (rounds k f s)
unfolding rounds
rounds_suc zero f s = refl
rounds_suc (suc k) f s = rounds_suc k f (f s)

rounds_zero : (f : List ℕ → List ℕ) (s : List ℕ) → rounds zero f s ≡ s
unfolding rounds
rounds_zero f s = refl

module _ (n : ℕ) (r : ℕ → ℕ → Bool) (a : ℕ) where
  -- What is reached within k rounds.
  near : ℕ → ℕ → Bool
  near k v = among (rounds k (spread n r) (a ∷ [])) v

  near_zero : (v : ℕ) → near zero v ≡ eqb v a
  unfolding near
  near_zero v = ap (λ (s : List ℕ). among s v) (rounds_zero (spread n r) (a ∷ [])) ∙ among_one a v

  near_suc : (k v : ℕ) → near (suc k) v ≡ (ltb v n && (near k v || any (λ u. r u v) (rounds k (spread n r) (a ∷ []))))
  unfolding near
  near_suc k v = ap (λ (s : List ℕ). among s v) (rounds_suc k (spread n r) (a ∷ [])) ∙ among_spread n r (rounds k (spread n r) (a ∷ [])) v

  reaches_near : (v : ℕ) → reaches n r a v ≡ near n v
  unfolding near reached
  reaches_near v = refl

  -- What is near stays near, and so does what is a step from it.
  near_keep : (k v : ℕ) → v < n → near k v ≡ true → near (suc k) v ≡ true
  near_keep k v l h = near_suc k v ∙ and_from _ _ (lt-ltb v n l) (or_left _ _ h)

  near_next : (k u v : ℕ) → v < n → near k u ≡ true → r u v ≡ true → near (suc k) v ≡ true
  unfolding near
  near_next k u v l h e = near_suc k v ∙ and_from _ _ (lt-ltb v n l) (or_right (near k v) _ (any_at (λ u. r u v) (rounds k (spread n r) (a ∷ [])) u h e))

  -- What is near after one round more was near before, or is a step from it.
  near_from : (k v : ℕ) → near (suc k) v ≡ true → (v < n) × ((near k v ≡ true) ⊎ ((u : ℕ) × (near k u ≡ true) × (r u v ≡ true)))
  unfolding near
  near_from k v h =
      let c = and_parts (ltb v n) _ (sym (near_suc k v) ∙ h) in
      (ltb-true v n c.0, elim (or_cases (near k v) _ c.1) [ inl e ↦ inl e | inr e ↦ inr (any_from (λ u. r u v) (rounds k (spread n r) (a ∷ [])) e) ])

  near_below : a < n → (k v : ℕ) → near k v ≡ true → v < n
  near_below l zero v h = rw (eqb-true v a (sym (near_zero v) ∙ h)) l
  near_below l (suc k) v h = (near_from k v h).0

  near_self : a < n → (k : ℕ) → near k a ≡ true
  near_self l zero = near_zero a ∙ eq-eqb a a refl
  near_self l (suc k) = near_keep k a l (near_self l k)

  -- A round that adds nothing.
  Steady : ℕ → Type 0
  Steady k = (v : ℕ) → near k v ≡ near (suc k) v

  steady_from : a < n → (k : ℕ) → ((v : ℕ) → v < n → near k v ≡ near (suc k) v) → Steady k
  unfolding Steady
  steady_from l k e v =
      elim (cases_lt v n) [
        | inl h ↦ e v h
        | inr h ↦ same_test _ _ (λ q. absurd (omega (arith, near_below l k v q))) (λ q. absurd (omega (arith, near_below l (suc k) v q)))
      ]

  steady_suc : (k : ℕ) → Steady k → Steady (suc k)
  unfolding Steady near
  steady_suc k e v =
      near_suc k v
      ∙ ap₂ (λ (x y : Bool). ltb v n && (x || y)) (e v)
      (any_same (λ u. r u v) (λ u. r u v) (rounds k (spread n r) (a ∷ [])) (rounds (suc k) (spread n r) (a ∷ [])) e (λ _ _. refl))
      ∙ sym (near_suc (suc k) v)

  -- Each round adds a number or is the last that could: so many are near, or nothing is added.
  settles : a < n → (k : ℕ) → Steady k ⊎ (k < count (near k) n)
  settles l zero = inr (count_some (near zero) n a l (near_self l zero))
  settles l (suc k) =
      elim (settles l k) [
        | inl e ↦ inl (steady_suc k e)
        | inr c ↦
            (elim (count_grows (near k) (near (suc k)) n (λ v h e. near_keep k v h e)) [
              | inl e ↦ inl (steady_suc k (steady_from l k e))
              | inr m ↦ inr (omega arith)
            ])
      ]

  settled : a < n → Steady n
  settled l = elim (settles l n) [ inl e ↦ e | inr c ↦ absurd (omega (arith, count_most (near n) n)) ]

  pub reached_self : a < n → reaches n r a a ≡ true
  reached_self l = reaches_near a ∙ near_self l n

  pub reached_below : a < n → (q : ℕ) → reaches n r a q ≡ true → q < n
  reached_below l q h = near_below l n q (sym (reaches_near q) ∙ h)

  pub reached_step : a < n → (p q : ℕ) → q < n → reaches n r a p ≡ true → r p q ≡ true → reaches n r a q ≡ true
  unfolding Steady
  reached_step l p q k h e = reaches_near q ∙ settled l q ∙ near_next n p q k (sym (reaches_near p) ∙ h) e

  pub reached_each : a < n → (P : ℕ → Type 0) → P a → ((p q : ℕ) → p < n → q < n → P p → r p q ≡ true → P q) → (q : ℕ) → reaches n r a q ≡ true → P q
  reached_each l P start step q h = go n q (sym (reaches_near q) ∙ h)
    where
      go : (k q : ℕ) → near k q ≡ true → P q
      go zero q e = rw (eqb-true q a (sym (near_zero q) ∙ e)) start
      go (suc k) q e =
          let w = near_from k q e in
          elim w.1 [
            | inl h ↦ go k q h
            | inr h ↦ step h.0 q (near_below l k h.0 h.1) w.0 (go k h.0 h.1) h.2
          ]

  pub reached_least : a < n → (u : ℕ → Bool) → u a ≡ true → ((p q : ℕ) → p < n → q < n → u p ≡ true → r p q ≡ true → u q ≡ true)
      → (q : ℕ) → reaches n r a q ≡ true → u q ≡ true
  reached_least l u start closed = reached_each l (λ q. u q ≡ true) start closed

  pub reached_is : a < n → (u : ℕ → Bool) → u a ≡ true → ((p q : ℕ) → p < n → q < n → u p ≡ true → r p q ≡ true → u q ≡ true)
      → ((q : ℕ) → u q ≡ true → reaches n r a q ≡ true) → (q : ℕ) → u q ≡ reaches n r a q
  reached_is l u start closed sub q = same_test _ _ (sub q) (reached_least l u start closed q)

pub reached_trans : (n : ℕ) (r : ℕ → ℕ → Bool) (a b c : ℕ) → a < n → reaches n r a b ≡ true → reaches n r b c ≡ true → reaches n r a c ≡ true
reached_trans n r a b c l ab =
    reached_least n r b (reached_below n r a l b ab) (reaches n r a) ab (λ p q _ hq h e. reached_step n r a l p q hq h e) c

pub reached_turn : (n : ℕ) (r : ℕ → ℕ → Bool) → ((p q : ℕ) → r p q ≡ r q p) → (a b : ℕ) → a < n → reaches n r a b ≡ true → reaches n r b a ≡ true
reached_turn n r even a b l =
    reached_least n r a l (λ x. reaches n r x a) (reached_self n r a l)
    (λ p q hp hq h e. reached_trans n r q p a hq (reached_step n r q hq q p hp (reached_self n r q hq) (even q p ∙ e)) h) b

pub reached_more : (n : ℕ) (r z : ℕ → ℕ → Bool) (a : ℕ) → a < n → ((p q : ℕ) → p < n → q < n → r p q ≡ true → z p q ≡ true)
    → (q : ℕ) → reaches n r a q ≡ true → reaches n z a q ≡ true
reached_more n r z a l sub =
    reached_least n r a l (reaches n z a) (reached_self n z a l) (λ p q hp hq h e. reached_step n z a l p q hq h (sub p q hp hq e))

pub reached_same : (n : ℕ) (r z : ℕ → ℕ → Bool) (a : ℕ) → a < n → ((p q : ℕ) → p < n → q < n → r p q ≡ z p q)
    → (q : ℕ) → reaches n r a q ≡ reaches n z a q
reached_same n r z a l e q =
    same_test _ _ (reached_more n r z a l (λ p q hp hq h. sym (e p q hp hq) ∙ h) q) (reached_more n z r a l (λ p q hp hq h. e p q hp hq ∙ h) q)
