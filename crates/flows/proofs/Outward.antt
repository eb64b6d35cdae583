-- A flow none of whose arcs leads to s: its value is what goes out of s, and each arc out of s goes on along
-- the flow to t, so that its head is found from t back.
--
--   all_out       its value goes out of s
--   flow_some     a flow with an arc out of s has a value
--   flow_spent    a flow without an arc out of s has none
--   goes_on       from t back the head of each arc out of s is reached
--   turned_route  a route back from t, turned round, with s in front, is a route from s to t
use Rattle.std.proofs.Common.{◌≡◌, ℕ, ◌<◌, ◌≤◌, Bool, true, false, not, ◌&&◌, ◌||◌, eqb, List, [], ◌∷◌, reverse, sym, refl, ap, ◌∙◌, inl, inr, arith}
use mathlib.Core.List.{reverse-cons}
use Rattle.std.proofs.lemmas.Bool.{cases_Bool, both_ways, eq-eqb, ne_eqb}
use Rattle.graph.specs.Graph.{count}
use Rattle.graph.proofs.Counts.{count_none}
use Rattle.flows.specs.Lists.{among}
use Rattle.flows.specs.Reach.{reaches}
use Rattle.flows.specs.Routes.{Walk, Apart, Route}
use Rattle.flows.specs.Flow.{Digraph, Sound, Flow, out, leaving, back, NoneInto}
use Rattle.flows.proofs.Lists.{any_nil, among_push, off_among, any_cons}
use Rattle.flows.proofs.Sums.{total_but, total_zero, count_grows, count_some}
use Rattle.flows.proofs.Reached.{reached_self, reached_step}
use Rattle.flows.proofs.Routes.{walk_push, walk_cons, apart_push}
use Rattle.flows.proofs.Balance.{flow_balance_lem}

-- A flow of value v, none of whose arcs leads to s.
module _ (d : Digraph) (s t : ℕ) (f : ℕ → ℕ → Bool) (v : ℕ) (hs : s < d.nodes) (fl : Flow d s t f v) (none : NoneInto f s) where
  -- As much goes out of s as the value says.
  pub all_out : out d.nodes f s ≡ v
  all_out = omega (arith, fl.value, count_none (λ q. f q s) d.nodes (λ q _. none q))

  -- An arc out of s is counted.
  pub flow_some : (c : ℕ) → c < d.nodes → f s c ≡ true → 1 ≤ v
  flow_some c hc e = omega (arith, all_out, count_some (f s) d.nodes c hc e)

  -- Without one the value is 0.
  pub flow_spent : ((q : ℕ) → q < d.nodes → f s q ≡ false) → v ≡ 0
  flow_spent h = sym all_out ∙ count_none (f s) d.nodes h

  -- An arc from s to c.
  module _ (sound : Sound d) (ht : t < d.nodes) (st : s ≡ t → ⊥) (c : ℕ) (e : f s c ≡ true) where
    -- What leads to t along the flow.
    before : ℕ → Bool
    before = reaches d.nodes (back f) t

    -- All else, and s.
    behind : ℕ → Bool
    behind p = eqb p s || not (before p)

    -- From all else no arc leads to what leads to t.
    stays : (p q : ℕ) → p < d.nodes → (p ≡ s → ⊥) → (behind p && (not (behind q) && f p q)) ≡ false
    unfolding behind before
    stays p q hp o = shut (eqb p s) (eqb q s) (before p) (before q) (f p q) (ne_eqb p s o) (λ b i. reached_step d.nodes (back f) t ht q p hp b i)
      where
        shut : (a b x y i : Bool) → a ≡ false → (y ≡ true → i ≡ true → x ≡ true) → ((a || not x) && (not (b || not y) && i)) ≡ false
        shut a b x y i h k = grind arith

    -- What leaves all else and s are arcs out of s.
    from_source : leaving d.nodes f behind ≡ count (λ q. behind s && (not (behind q) && f s q)) d.nodes
    from_source =
        let b = total_but (λ p. count (λ q. behind p && (not (behind q) && f p q)) d.nodes) (λ _. 0) d.nodes s hs
        (λ p hp o. count_none _ d.nodes (λ q _. stays p q hp o)) in
        omega (arith, b, total_zero d.nodes)

    -- All else and s do not have t.
    between : (behind s ≡ true) × (behind t ≡ false)
    unfolding behind before
    between = (
      or_on (eqb s s) _ (eq-eqb s s refl),
      off (eqb t s) (before t) (ne_eqb t s (λ i. st (sym i))) (reached_self d.nodes (back f) t ht),
    )
      where
        or_on : (a x : Bool) → a ≡ true → (a || x) ≡ true
        or_on a x k = grind arith

        off : (a x : Bool) → a ≡ false → x ≡ true → (a || not x) ≡ false
        off a x k l = grind arith

    -- If c did not lead to t, fewer arcs than the value says would leave them.
    pub goes_on : c < d.nodes → reaches d.nodes (back f) t c ≡ true
    unfolding behind before
    goes_on hc =
        elim (cases_Bool (before c)) [
          | inl h ↦ h
          | inr h ↦
              let b = flow_balance_lem d s t f v behind fl hs between in
              absurd (elim (count_grows (λ q. behind s && (not (behind q) && f s q)) (f s) d.nodes (λ q _ i. last (behind s) (not (behind q)) (f s q) i)) [
                | inl same ↦ both_ways (f s c) (sym (same c hc) ∙ shut (behind s) (behind c) (f s c) (or_not (eqb c s) (before c) h)) e
                | inr less ↦ omega (arith, b, from_source, all_out, less)
              ])
        ]
      where
        or_not : (a x : Bool) → x ≡ false → (a || not x) ≡ true
        or_not a x k = grind arith

        last : (a x i : Bool) → (a && (x && i)) ≡ true → i ≡ true
        last a x i k = grind arith

        shut : (a x i : Bool) → x ≡ true → (a && (not x && i)) ≡ false
        shut a x i k = grind arith

-- A number stands in a list turned round where it stands in the list.
among_reverse : (xs : List ℕ) (v : ℕ) → among (reverse xs) v ≡ among xs v
among_reverse [] v = refl
among_reverse (x ∷ xs) v =
    ap (λ (ys : List ℕ). among ys v) (reverse-cons x xs)
    ∙ among_push (reverse xs) x v
    ∙ ap (λ (b : Bool). b || eqb v x) (among_reverse xs v)
    ∙ swap (among xs v) (eqb v x)
    ∙ sym (any_cons (eqb v) x xs)
  where
    swap : (a b : Bool) → (a || b) ≡ (b || a)
    swap a b = grind arith

-- A walk back along f, turned round, is one along f.
walk_turned : (f : ℕ → ℕ → Bool) (t c : ℕ) (xs : List ℕ) → Walk (back f) t c xs → Walk f c t (reverse xs)
walk_turned f t c [] w = absurd w
walk_turned f t c (x ∷ []) w = (w.1, w.0)
walk_turned f t c (x ∷ (y ∷ xs)) w =
    rw (reverse-cons x (y ∷ xs)) (rw (sym w.0) (walk_push f c y x (reverse (y ∷ xs)) (walk_turned f y c (y ∷ xs) w.2) w.1))

-- A list with nothing twice has nothing twice turned round.
apart_turned : (xs : List ℕ) → Apart xs → Apart (reverse xs)
apart_turned [] a = a
apart_turned (x ∷ xs) a = rw (reverse-cons x xs) (apart_push (reverse xs) x (apart_turned xs a.1) (among_reverse xs x ∙ a.0))

-- A walk back to c, which is not s, does not come to s, as no arc leads there.
off_source : (f : ℕ → ℕ → Bool) (s t c : ℕ) (xs : List ℕ) → NoneInto f s → (c ≡ s → ⊥) → Walk (back f) t c xs → among xs s ≡ false
off_source f s t c [] none d w = absurd w
off_source f s t c (x ∷ []) none d w = off_among x [] s (λ e. d (sym w.1 ∙ sym e)) (any_nil (eqb s))
off_source f s t c (x ∷ (y ∷ xs)) none d w =
    off_among x (y ∷ xs) s (λ e. both_ways (f y x) (sym (ap (f y) e) ∙ none y) w.1) (off_source f s y c (y ∷ xs) none d w.2)

-- A route back from t to c, turned round, with s in front.
pub turned_route : (f : ℕ → ℕ → Bool) (s t c : ℕ) (xs : List ℕ) → NoneInto f s → f s c ≡ true → Route (back f) t c xs → Route f s t (s ∷ reverse xs)
turned_route f s t c xs none e r =
    let off = off_source f s t c xs none (λ i. both_ways (f s c) (ap (f s) i ∙ none s) e) r.walk in
    record {
      walk = walk_cons f s s c t (reverse xs) refl e (walk_turned f t c xs r.walk);
      apart = (among_reverse xs s ∙ off, apart_turned xs r.apart);
    }
