-- Walks and routes: how they are made longer, cut short and read; reached is where a route leads.
use Rattle.std.proofs.Common.{◌≡◌, ℕ, ◌<◌, Bool, true, false, ◌&&◌, eqb, List, [], ◌∷◌, ◌++◌, All, sym, refl, ap, ◌∙◌, ap₂, inl, inr}
use Rattle.std.proofs.lemmas.List.Elements.{All-nil, All-cons}
use Rattle.std.proofs.lemmas.Bool.{cases_Bool, both_ways, eqb-true, ne_eqb, or_cases, or_from, and_parts}
use Rattle.flows.specs.Lists.{among}
use Rattle.flows.specs.Reach.{reaches}
use Rattle.flows.specs.Routes.{Walk, Apart, Route, goes, ReachedByRoute}
use Rattle.flows.proofs.Lists.{any_nil, among_push, among_head, among_cases, among_tail, among_off, never_true}
use Rattle.flows.proofs.Reached.{reached_self, reached_step, reached_each}

-- A walk made longer by one step at its end.
pub walk_push : (r : ℕ → ℕ → Bool) (a p q : ℕ) (xs : List ℕ) → Walk r a p xs → r p q ≡ true → Walk r a q (xs ++ (q ∷ []))
walk_push r a p q [] w e = absurd w
walk_push r a p q (x ∷ []) w e = (w.0, ap (λ (z : ℕ). r z q) w.1 ∙ e, (refl, refl))
walk_push r a p q (x ∷ (y ∷ xs)) w e = (w.0, w.1, walk_push r y p q (y ∷ xs) w.2 e)

-- A walk made longer by one step at its start.
pub walk_cons : (r : ℕ → ℕ → Bool) (a x y b : ℕ) (ys : List ℕ) → x ≡ a → r x y ≡ true → Walk r y b ys → Walk r a b (x ∷ ys)
walk_cons r a x y b [] e k w = absurd w
walk_cons r a x y b (z ∷ []) e k w = (e, ap (r x) w.0 ∙ k, (refl, w.1))
walk_cons r a x y b (z ∷ (z' ∷ zs)) e k w = (e, ap (r x) w.0 ∙ k, (refl, w.1, w.2))

-- A list with nothing twice, and one number more at its end that does not stand in it.
pub apart_push : (xs : List ℕ) (q : ℕ) → Apart xs → among xs q ≡ false → Apart (xs ++ (q ∷ []))
apart_push [] q a h = (any_nil (eqb q), tt)
apart_push (x ∷ xs) q a h =
    let o = among_off x xs q h in
    (among_push xs q x ∙ or_from _ _ a.0 (ne_eqb x q (λ e. o.0 (sym e))), apart_push xs q a.1 o.1)

-- A walk that keeps off y is one by any steps that agree away from y.
pub walk_off : (r z : ℕ → ℕ → Bool) (a b y : ℕ) (xs : List ℕ) → ((p q : ℕ) → (y ≡ p → ⊥) → (y ≡ q → ⊥) → z p q ≡ r p q)
    → among xs y ≡ false → Walk r a b xs → Walk z a b xs
walk_off r z a b y [] e o w = w
walk_off r z a b y (x ∷ []) e o w = w
walk_off r z a b y (x ∷ (x' ∷ xs)) e o w =
    let k = among_off x (x' ∷ xs) y o in
    (w.0, e x x' k.0 (among_off x' xs y k.1).0 ∙ w.1, walk_off r z x' b y (x' ∷ xs) e k.1 w.2)

-- A walk by steps of r is one by steps of a larger relation.
pub walk_more : (r z : ℕ → ℕ → Bool) (a b : ℕ) (xs : List ℕ) → ((p q : ℕ) → r p q ≡ true → z p q ≡ true) → Walk r a b xs → Walk z a b xs
walk_more r z a b [] e w = w
walk_more r z a b (x ∷ []) e w = w
walk_more r z a b (x ∷ (y ∷ xs)) e w = (w.0, e x y w.1, walk_more r z y b (y ∷ xs) e w.2)

-- Where a walk leads stands on it.
pub walk_last : (r : ℕ → ℕ → Bool) (a b : ℕ) (xs : List ℕ) → Walk r a b xs → among xs b ≡ true
walk_last r a b [] w = absurd w
walk_last r a b (x ∷ []) w = rw (sym w.1) (among_head x [])
walk_last r a b (x ∷ (y ∷ xs)) w = among_tail x (y ∷ xs) b (walk_last r y b (y ∷ xs) w.2)

-- Steps that lead below n make walks that stay below n.
pub walk_inside : (r : ℕ → ℕ → Bool) (n : ℕ) → ((p q : ℕ) → r p q ≡ true → q < n) → (a b : ℕ) (xs : List ℕ) → a < n → Walk r a b xs
    → All (λ x. x < n) xs
walk_inside r n stays a b [] h w = absurd w
walk_inside r n stays a b (x ∷ []) h w = All-cons (λ z. z < n) x [] (rw w.0 h) (All-nil (λ z. z < n))
walk_inside r n stays a b (x ∷ (y ∷ xs)) h w =
    All-cons (λ z. z < n) x (y ∷ xs) (rw w.0 h) (walk_inside r n stays y b (y ∷ xs) (stays x y w.1) w.2)

-- A walk goes only where there is a step.
pub walk_goes : (r : ℕ → ℕ → Bool) (a b : ℕ) (xs : List ℕ) → Walk r a b xs → (p q : ℕ) → goes xs p q ≡ true → r p q ≡ true
unfolding goes
walk_goes r a b [] w p q e = absurd w
walk_goes r a b (x ∷ []) w p q e = absurd (both_ways false refl e)
walk_goes r a b (x ∷ (y ∷ xs)) w p q e =
    elim (or_cases (eqb x p && eqb y q) (goes (y ∷ xs) p q) e) [
      | inl h ↦ (let k = and_parts (eqb x p) (eqb y q) h in sym (ap₂ r (eqb-true x p k.0) (eqb-true y q k.1)) ∙ w.1)
      | inr h ↦ walk_goes r y b (y ∷ xs) w.2 p q h
    ]

-- The part of a route that leads to a vertex on it.
record Front (r : ℕ → ℕ → Bool) (a q : ℕ) (xs : List ℕ) : Type 0 where
  part : List ℕ
  walk : Walk r a q part
  apart : Apart part
  within : (v : ℕ) → among part v ≡ true → among xs v ≡ true

front_here : (r : ℕ → ℕ → Bool) (a x : ℕ) (xs : List ℕ) → x ≡ a → Front r a x (x ∷ xs)
front_here r a x xs e =
    record {
      part = x ∷ [];
      walk = (e, refl);
      apart = (any_nil (eqb x), tt);
      within = λ v h. elim (among_cases x [] v h) [ inl k ↦ rw k (among_head x xs) | inr k ↦ absurd (both_ways _ (any_nil (eqb v)) k) ];
    }

-- One step before such a part.
front_more : (r : ℕ → ℕ → Bool) (a x y q : ℕ) (xs : List ℕ) → x ≡ a → r x y ≡ true → among xs x ≡ false → Front r y q xs → Front r a q (x ∷ xs)
front_more r a x y q xs e k off f =
    record {
      part = x ∷ f.part;
      walk = walk_cons r a x y q f.part e k f.walk;
      apart = (never_true _ (λ h. both_ways _ off (f.within x h)), f.apart);
      within = λ v h. elim (among_cases x f.part v h) [ inl i ↦ rw i (among_head x xs) | inr i ↦ among_tail x xs v (f.within v i) ];
    }

-- A route to p has q on it, and then a part of it leads to q, or it has not.
front : (r : ℕ → ℕ → Bool) (a p q : ℕ) (xs : List ℕ) → Walk r a p xs → Apart xs → among xs q ≡ true → Front r a q xs
front r a p q [] w o h = absurd w
front r a p q (x ∷ []) w o h =
    elim (among_cases x [] q h) [ inl e ↦ rw e (front_here r a x [] w.0) | inr k ↦ absurd (both_ways _ (any_nil (eqb q)) k) ]
front r a p q (x ∷ (y ∷ xs)) w o h =
    elim (among_cases x (y ∷ xs) q h) [
      | inl e ↦ rw e (front_here r a x (y ∷ xs) w.0)
      | inr k ↦ front_more r a x y q (y ∷ xs) w.0 w.1 o.0 (front r y p q (y ∷ xs) w.2 o.1 k)
    ]

-- A route that is made longer by a step, or cut short where the step comes back to it.
route_step : (r : ℕ → ℕ → Bool) (a p q : ℕ) → r p q ≡ true → (xs : List ℕ) × Route r a p xs → (xs : List ℕ) × Route r a q xs
route_step r a p q e k =
    elim (cases_Bool (among k.0 q)) [
      | inl h ↦ (let f = front r a p q k.0 k.1.walk k.1.apart h in (f.part, record { walk = f.walk; apart = f.apart }))
      | inr h ↦ (k.0 ++ (q ∷ []), record { walk = walk_push r a p q k.0 k.1.walk e; apart = apart_push k.0 q k.1.apart h })
    ]

-- What is reached is reached by a route.
pub reached_route : (n : ℕ) (r : ℕ → ℕ → Bool) (a : ℕ) → a < n → (b : ℕ) → reaches n r a b ≡ true → (xs : List ℕ) × Route r a b xs
reached_route n r a l =
    reached_each n r a l (λ b. (xs : List ℕ) × Route r a b xs) (a ∷ [], record { walk = (refl, refl); apart = (any_nil (eqb a), tt) })
    (λ p q _ _ k e. route_step r a p q e k)

-- Where a walk leads from what is reached is reached.
pub walk_reached : (n : ℕ) (r : ℕ → ℕ → Bool) → ((u v : ℕ) → r u v ≡ true → (u < n) × (v < n)) → (a p b : ℕ) → a < n → (xs : List ℕ)
    → Walk r p b xs → reaches n r a p ≡ true → reaches n r a b ≡ true
walk_reached n r ranged a p b l [] w h = absurd w
walk_reached n r ranged a p b l (x ∷ []) w h = ap (reaches n r a) (sym w.1 ∙ w.0) ∙ h
walk_reached n r ranged a p b l (x ∷ (y ∷ xs)) w h =
    walk_reached n r ranged a y b l (y ∷ xs) w.2
    (reached_step n r a l x y (ranged x y w.1).1 (ap (reaches n r a) w.0 ∙ h) w.1)

pub reached_by_route_lem : ReachedByRoute
reached_by_route_lem n r ranged a b l = (reached_route n r a l b, λ xs k. walk_reached n r ranged a a b l xs k.walk (reached_self n r a l))
