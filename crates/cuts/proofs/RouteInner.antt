-- The inner vertices of a route are those on it that are neither end; so two routes share only
-- their ends where they share no inner vertex.
use Rattle.std.proofs.Common.{◌≡◌, ℕ, suc, ◌-◌, Bool, true, eqb, List, [], ◌∷◌, length, take, sym, ap, ◌∙◌, inl, inr, ⊎_elim, arith}
use Rattle.std.proofs.lemmas.Bool.{both_ways, cases_eq}
use Rattle.flows.specs.Lists.{among}
use Rattle.flows.specs.Routes.{Walk, Apart, Route}
use Rattle.flows.proofs.Lists.{never_true, any_nil, among_head, among_tail, among_cases}
use Rattle.flows.proofs.Routes.{walk_last}
use Rattle.cuts.specs.RouteRules.{inner, SharingByInner}

-- Of two vertices and more the inner ones are all but the last of those after the first.
inner_is : (x y : ℕ) (ys : List ℕ) (w : ℕ) → among (inner (x ∷ (y ∷ ys))) w ≡ among (take (length ys) (y ∷ ys)) w
inner_is x y ys w =
    let two : suc (suc (length ys)) - 2 ≡ length ys = omega arith in
    ap (λ (k : ℕ). among (take k (y ∷ ys)) w) two

module _ (r : ℕ → ℕ → Bool) (b : ℕ) where
  -- All but the last vertex of a walk stand on it and are not the last.
  front_on : (a y : ℕ) (ys : List ℕ) → Walk r a b (y ∷ ys) → Apart (y ∷ ys) → (w : ℕ) → among (take (length ys) (y ∷ ys)) w ≡ true
      → (among (y ∷ ys) w ≡ true) × (w ≡ b → ⊥)
  front_on a y [] k o w m = absurd (both_ways _ (any_nil (eqb w)) m)
  front_on a y (z ∷ zs) k o w m =
      ⊎_elim
      (λ e. (ap (among (y ∷ (z ∷ zs))) e ∙ among_head y (z ∷ zs), λ q. both_ways _ o.0 (ap (among (z ∷ zs)) (sym e ∙ q) ∙ walk_last r z b (z ∷ zs) k.2)))
      (λ t. let f = front_on z z zs k.2 o.1 w t in (among_tail y (z ∷ zs) w f.0, f.1))
      (among_cases y (take (length zs) (z ∷ zs)) w m)

  -- And what stands on it and is not the last is one of them.
  front_from : (a y : ℕ) (ys : List ℕ) → Walk r a b (y ∷ ys) → (w : ℕ) → among (y ∷ ys) w ≡ true → (w ≡ b → ⊥)
      → among (take (length ys) (y ∷ ys)) w ≡ true
  front_from a y [] k w m d = ⊎_elim (λ e. absurd (d (e ∙ k.1))) (λ t. absurd (both_ways _ (any_nil (eqb w)) t)) (among_cases y [] w m)
  front_from a y (z ∷ zs) k w m d =
      ⊎_elim
      (λ e. ap (among (y ∷ take (length zs) (z ∷ zs))) e ∙ among_head y (take (length zs) (z ∷ zs)))
      (λ t. among_tail y (take (length zs) (z ∷ zs)) w (front_from z z zs k.2 w t d))
      (among_cases y (z ∷ zs) w m)

  module _ (a : ℕ) where
    -- An inner vertex is on the route, and is neither end.
    pub inner_on : (xs : List ℕ) → Route r a b xs → (w : ℕ) → among (inner xs) w ≡ true → (among xs w ≡ true) × (w ≡ a → ⊥) × (w ≡ b → ⊥)
    inner_on [] k w m = absurd k.walk
    inner_on (x ∷ []) k w m = absurd (both_ways _ (any_nil (eqb w)) m)
    inner_on (x ∷ (y ∷ ys)) k w m =
        let f = front_on y y ys k.walk.2 k.apart.1 w (sym (inner_is x y ys w) ∙ m) in
        (among_tail x (y ∷ ys) w f.0, λ e. both_ways _ k.apart.0 (ap (among (y ∷ ys)) (k.walk.0 ∙ sym e) ∙ f.0), f.1)

    -- And what is on the route and neither end is one.
    pub inner_from : (xs : List ℕ) → Route r a b xs → (w : ℕ) → among xs w ≡ true → (w ≡ a → ⊥) → (w ≡ b → ⊥) → among (inner xs) w ≡ true
    inner_from [] k w m na nb = absurd k.walk
    inner_from (x ∷ []) k w m na nb =
        ⊎_elim (λ e. absurd (na (e ∙ k.walk.0))) (λ t. absurd (both_ways _ (any_nil (eqb w)) t)) (among_cases x [] w m)
    inner_from (x ∷ (y ∷ ys)) k w m na nb =
        ⊎_elim
        (λ e. absurd (na (e ∙ k.walk.0)))
        (λ t. inner_is x y ys w ∙ front_from y y ys k.walk.2 w t nb)
        (among_cases x (y ∷ ys) w m)

pub sharing_by_inner_lem : SharingByInner
sharing_by_inner_lem r a b xs ys kx ky = (
  λ share w m.
      let i = inner_on r b a xs kx w m in
      never_true _ (λ n. ⊎_elim i.1 i.2 (share w i.0 (inner_on r b a ys ky w n).0)),
  λ none w mx my.
      ⊎_elim (λ e. inl e)
      (λ na. ⊎_elim (λ e. inr e)
      (λ nb. absurd (both_ways _ (none w (inner_from r b a xs kx w mx na nb)) (inner_from r b a ys ky w my na nb)))
      (cases_eq w b))
      (cases_eq w a),
)
