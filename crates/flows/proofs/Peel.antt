-- A flow peels into routes that share no arc: while its value is not 0 its own arcs lead from
-- s to t, and without the arcs of such a route it is a flow of value one less.
--
--   without_one, without_more   a route of one node has no arc; a longer one its first arc and those of the rest
--   within, taken               what is left without a route's arcs are arcs of the flow, and a flow of value one less
--   flow_peels_lem              as many routes as the value
use Rattle.std.proofs.Common.{◌≡◌, ℕ, zero, suc, ◌+◌, ◌*◌, ◌<◌, Bool, true, false, not, ◌&&◌, ◌||◌, eqb, List, [], ◌∷◌, sym, refl, ap, ◌∙◌, subst, inl, inr, arith}
use mathlib.Core.Path.{fun_ext}
use Rattle.std.proofs.lemmas.List.Elements.{All-nil, All-cons, All-weaker}
use Rattle.std.proofs.lemmas.Bool.{cases_eq, cases_Bool, both_ways, eq-eqb, ne_eqb, and_parts, not-true}
use Rattle.std.proofs.lemmas.Bool.Decides.{nat_tests}
use Rattle.flows.specs.Reach.{reaches}
use Rattle.flows.specs.Routes.{Walk, Apart, Route, goes}
use Rattle.flows.specs.Flow.{Digraph, Sound, Flow, out, into, without, ArcDisjoint, Peeled, FlowPeels}
use Rattle.flows.proofs.Lists.{never_true}
use Rattle.flows.proofs.Sums.{bit, total₂_same, total₂_zero, pairs_total}
use Rattle.flows.proofs.Reached.{reached_self, reached_step}
use Rattle.flows.proofs.Routes.{reached_route, walk_off, walk_more, walk_goes}
use Rattle.flows.proofs.Balance.{flow_balance_lem}
use Rattle.flows.proofs.Arcs.{out_more, into_more, lacking, lacking_more, more_keeps}

-- One node alone has no arc.
pub without_one : (f : ℕ → ℕ → Bool) (x : ℕ) → without f (x ∷ []) ≡ f
unfolding goes
without_one f x = fun_ext (λ p. fun_ext (λ q. and_true (f p q)))
  where
    and_true : (b : Bool) → (b && true) ≡ b
    and_true true = refl
    and_true false = refl

-- Without the first arc of a route, and then without those of the rest.
pub without_more : (f : ℕ → ℕ → Bool) (x y : ℕ) (xs : List ℕ) → without f (x ∷ (y ∷ xs)) ≡ without (lacking f x y) (y ∷ xs)
unfolding goes
without_more f x y xs = fun_ext (λ p. fun_ext (λ q. both (f p q) (eqb x p && eqb y q) (eqb p x && eqb q y) (goes (y ∷ xs) p q) (turn p q)))
  where
    turn : (p q : ℕ) → (eqb x p && eqb y q) ≡ (eqb p x && eqb q y)
    turn p q = grind (arith, nat_tests)

    both : (a b c e : Bool) → b ≡ c → (a && not (b || e)) ≡ ((a && not c) && not e)
    both a b c e h = grind arith

-- Balanced as a flow of value v from s to t, but that one unit that s no longer sends still
-- leaves from y.
abbrev Level : ℕ → ℕ → ℕ → (ℕ → ℕ → Bool) → ℕ → ℕ → Type 0
Level n s t f v y = (p : ℕ) → p < n → (p ≡ t → ⊥) → out n f p + bit (eqb p s) ≡ into n f p + (bit (eqb p s) * v + bit (eqb p y))

-- Taking the arcs of a route away, from its first on.
level_without : (n s t v y : ℕ) (xs : List ℕ) (f : ℕ → ℕ → Bool) → ((p q : ℕ) → f p q ≡ true → (p < n) × (q < n))
    → Level n s t f v y → Walk f y t xs → Apart xs → Level n s t (without f xs) v t
level_without n s t v y [] f r l w a = absurd w
level_without n s t v y (x ∷ []) f r l w a =
    let l' : Level n s t f v t = rw (sym w.0 ∙ w.1) at l in
    subst (λ (h : ℕ → ℕ → Bool). Level n s t h v t) (sym (without_one f x)) l'
level_without n s t v y (x ∷ (z ∷ zs)) f r l w a =
    let i = r x z w.1 in
    let m = lacking_more f x z w.1 in
    let l' : Level n s t f v x = rw (sym w.0) at l in
    subst (λ (h : ℕ → ℕ → Bool). Level n s t h v t) (sym (without_more f x z zs))
    (level_without n s t v z (z ∷ zs) (lacking f x z) (λ p q e. r p q (more_keeps (lacking f x z) f x z m p q e))
    (λ p h c. omega (arith, l' p h c, out_more n (lacking f x z) f x z m i.1 p, into_more n (lacking f x z) f x z m i.0 p))
    (walk_off f (lacking f x z) z t x (z ∷ zs) (λ p q j _. sym (m.rest p q (λ e _. j (sym e)))) a.0 w.2)
    a.1)

module _ (d : Digraph) (s t : ℕ) (sound : Sound d) (hs : s < d.nodes) (st : s ≡ t → ⊥) where
  idle : (a b c : Bool) → (a ≡ true → c ≡ true → b ≡ true) → bit (a && (not b && c)) ≡ 0
  idle a b c h = grind arith

  -- While its value is not 0, a flow leads from s to t: else nothing would leave what s reaches.
  leads : (f : ℕ → ℕ → Bool) (v : ℕ) → Flow d s t f (suc v) → reaches d.nodes f s t ≡ true
  leads f v fl =
      elim (cases_Bool (reaches d.nodes f s t)) [
        | inl e ↦ e
        | inr e ↦
            (let u = reaches d.nodes f s in
            let b = flow_balance_lem d s t f (suc v) u fl hs (reached_self d.nodes f s hs, e) in
            let z = total₂_same _ (λ _ _. 0) d.nodes (λ p q i j. idle (u p) (u q) (f p q) (reached_step d.nodes f s hs p q j)) in
            absurd (omega (arith, pairs_total (λ p q. u p && (not (u q) && f p q)) d.nodes, total₂_zero d.nodes)))
      ]

  level_start : (f : ℕ → ℕ → Bool) (v : ℕ) → Flow d s t f v → Level d.nodes s t f v s
  level_start f v fl p i c =
      elim (cases_eq p s) [
        | inl e ↦ rw (e, eq-eqb s s refl) (omega (arith, fl.value))
        | inr o ↦ rw (ne_eqb p s o) (omega (arith, fl.kept p i o c))
      ]

  -- A part of a flow that is balanced so is a flow of value one less.
  smaller : (f h : ℕ → ℕ → Bool) (v : ℕ) → Flow d s t f (suc v) → ((p q : ℕ) → h p q ≡ true → f p q ≡ true) → Level d.nodes s t h (suc v) t → Flow d s t h v
  smaller f h v fl sub l =
      record {
        along = λ p q e. fl.along p q (sub p q e);
        oneway = λ p q e. never_true _ (λ k. both_ways (f q p) (fl.oneway p q (sub p q e)) (sub q p k));
        kept = λ p i o c. (let e = rw (ne_eqb p s o, ne_eqb p t c) at (l p i c) in omega arith);
        value = (let e = rw (eq-eqb s s refl, ne_eqb s t st) at (l s hs st) in omega arith);
      }

  -- What is left of a flow is of it.
  pub within : (f : ℕ → ℕ → Bool) (xs : List ℕ) (p q : ℕ) → without f xs p q ≡ true → f p q ≡ true
  within f xs p q e = (and_parts (f p q) _ e).0

  -- One route before the routes of what is left.
  join : (f : ℕ → ℕ → Bool) (v : ℕ) (xs : List ℕ) → Route f s t xs → Peeled (without f xs) s t v → Peeled f s t (suc v)
  join f v xs w r =
      record {
        routes = xs ∷ r.routes;
        many = ap suc r.many;
        each =
            All-cons (Route f s t) xs r.routes w
            (All-weaker (Route (without f xs) s t) (Route f s t)
            (λ ys k. record { walk = walk_more (without f xs) f s t ys (within f xs) k.walk; apart = k.apart })
            r.routes r.each);
        disjoint = (All-weaker (Route (without f xs) s t) (ArcDisjoint xs) (λ ys k. clear ys k.walk) r.routes r.each, r.disjoint);
      }
    where
      clear : (ys : List ℕ) → Walk (without f xs) s t ys → ArcDisjoint xs ys
      clear ys k p q e = never_true _ (λ h. both_ways (goes xs p q) (not-true _ (and_parts (f p q) _ (walk_goes (without f xs) s t ys k p q h)).1) e)

  -- Without the arcs of a route along it a flow is one of value one less.
  pub taken : (f : ℕ → ℕ → Bool) (v : ℕ) (xs : List ℕ) → Flow d s t f (suc v) → Route f s t xs → Flow d s t (without f xs) v
  taken f v xs fl w =
      smaller f (without f xs) v fl (within f xs)
      (level_without d.nodes s t (suc v) s xs f (λ p q e. sound.bounded p q (fl.along p q e)) (level_start f (suc v) fl) w.walk w.apart)

  -- Routes are taken out one after another.
  peel : (v : ℕ) (f : ℕ → ℕ → Bool) → Flow d s t f v → Peeled f s t v
  peel zero f fl = record { routes = []; many = refl; each = All-nil (Route f s t); disjoint = tt }
  peel (suc v) f fl =
      let w = reached_route d.nodes f s hs t (leads f v fl) in
      join f v w.0 w.1 (peel v (without f w.0) (taken f v w.0 fl w.1))

pub flow_peels_lem : FlowPeels
flow_peels_lem d s t f v sound hs st fl = peel d s t sound hs st v f fl
