-- A flow pushed along a route from its end back: each step changes other arcs, so their order does not
-- count.
--
--   back_here, back_one, back_more   one node; the last step and the rest
--   first_back, rest_back  what holds of all nodes back holds of these
--   pushed_is_back         what is pushed back from the end of a trail is what is pushed along it
use Rattle.std.proofs.Common.{◌≡◌, ℕ, zero, suc, ◌-◌, ◌<◌, ◌≤◌, Bool, true, false, cond, not, ◌&&◌, ◌||◌, eqb, List, [], ◌∷◌, ◌++◌, reverse, get_or, All, sym, refl, ap, ◌∙◌, ⊎_elim, arith}
use mathlib.Core.Path.{fun_ext}
use mathlib.Core.List.{reverse-cons}
use Rattle.std.proofs.Math.Bool.{or-false}
use Rattle.std.proofs.lemmas.Bool.{cases_Bool, eqb-true, and_left, and_right, ne_eqb}
use Rattle.std.proofs.lemmas.List.Elements.{All-head, All-tail}
use Rattle.flows.specs.Lists.{among}
use Rattle.flows.specs.Routes.{Apart}
use Rattle.flows.specs.Flow.{stepped, pushed}
use Rattle.flows.proofs.Lists.{among_off}
use Rattle.augment.specs.Trails.{walk_back, pushed_back, PushedBack}
use Rattle.augment.proofs.Backs.{back_last, back_next}
use Rattle.augment.proofs.Trails.{read_reversed}

-- A step, arc by arc.
stepped_at : (f : ℕ → ℕ → Bool) (a b p q : ℕ)
    → stepped f a b p q ≡ cond (f b a) (f p q && not (eqb p b && eqb q a)) (f p q || (eqb p a && eqb q b))
stepped_at f a b p q = ⊎_elim (λ (h : f b a ≡ true). rw h refl) (λ (h : f b a ≡ false). rw h refl) (cases_Bool (f b a))

-- A step leaves the arcs alone that it does not go along or back along.
stepped_still : (f : ℕ → ℕ → Bool) (x y p q : ℕ) → (eqb p y && eqb q x) ≡ false → (eqb p x && eqb q y) ≡ false → stepped f x y p q ≡ f p q
stepped_still f x y p q a b =
    stepped_at f x y p q
    ∙ ⊎_elim
    (λ (h : f y x ≡ true). rw (h, a) (and_true (f p q)))
    (λ (h : f y x ≡ false). rw (h, b) (or-false (f p q)))
    (cases_Bool (f y x))
  where
    -- Nothing is taken out.
    and_true : (b : Bool) → (b && true) ≡ b
    and_true true = refl
    and_true false = refl

-- Two changes of one arc, of which no two meet, in either order.
swapped : (h k u i o j e : Bool) → (j && o) ≡ false → (i && e) ≡ false
    → cond k (cond h (u && not o) (u || i) && not e) (cond h (u && not o) (u || i) || j)
    ≡ cond h (cond k (u && not e) (u || j) && not o) (cond k (u && not e) (u || j) || i)
swapped true true u i o j e a b = grind (arith, cases_Bool)
swapped true false u i o j e a b = grind (arith, cases_Bool)
swapped false true u i o j e a b = grind (arith, cases_Bool)
swapped false false u i o j e a b = grind (arith, cases_Bool)

-- A number is not two different ones.
apart_at : (q x b : ℕ) (c d : Bool) → (x ≡ b → ⊥) → ((c && eqb q b) && (d && eqb q x)) ≡ false
apart_at q x b c d ne =
    ⊎_elim
    (λ (h : eqb q x ≡ true). let z = eqb-true q x h in and_left (c && eqb q b) (d && eqb q x) (and_right c (eqb q b) (ne_eqb q b (λ k. ne (sym z ∙ k)))))
    (λ (h : eqb q x ≡ false). and_right (c && eqb q b) (d && eqb q x) (and_right d (eqb q x) h))
    (cases_Bool (eqb q x))

apart_first : (p x b : ℕ) (c d : Bool) → (x ≡ b → ⊥) → ((eqb p x && c) && (eqb p b && d)) ≡ false
apart_first p x b c d ne =
    ⊎_elim
    (λ (h : eqb p x ≡ true). let z = eqb-true p x h in and_right (eqb p x && c) (eqb p b && d) (and_left (eqb p b) d (ne_eqb p b (λ k. ne (sym z ∙ k)))))
    (λ (h : eqb p x ≡ false). and_left (eqb p x && c) (eqb p b && d) (and_left (eqb p x) c h))
    (cases_Bool (eqb p x))

-- Two steps, of which the second keeps off the first node of the first, in either order.
stepped_swap : (f : ℕ → ℕ → Bool) (x y a b : ℕ) → (x ≡ a → ⊥) → (x ≡ b → ⊥) → stepped (stepped f x y) a b ≡ stepped (stepped f a b) x y
stepped_swap f x y a b na nb =
    fun_ext (λ p. fun_ext (λ q.
    let o = eqb p y && eqb q x in
    let i = eqb p x && eqb q y in
    let e = eqb p b && eqb q a in
    let j = eqb p a && eqb q b in
    let first : stepped f x y b a ≡ f b a =
    stepped_still f x y b a (and_right (eqb b y) (eqb a x) (ne_eqb a x (λ z. na (sym z)))) (and_left (eqb b x) (eqb a y) (ne_eqb b x (λ z. nb (sym z)))) in
    let second : stepped f a b y x ≡ f y x = stepped_still f a b y x (and_right (eqb y b) (eqb x a) (ne_eqb x a na)) (and_right (eqb y a) (eqb x b) (ne_eqb x b nb)) in
    stepped_at (stepped f x y) a b p q
    ∙ ap (λ (k : Bool). cond k (stepped f x y p q && not e) (stepped f x y p q || j)) first
    ∙ ap (λ (u : Bool). cond (f b a) (u && not e) (u || j)) (stepped_at f x y p q)
    ∙ swapped (f y x) (f b a) (f p q) i o j e (apart_at q x b (eqb p a) (eqb p y) nb) (apart_first p x b (eqb q y) (eqb q a) nb)
    ∙ ap (λ (u : Bool). cond (f y x) (u && not o) (u || i)) (sym (stepped_at f a b p q))
    ∙ ap (λ (k : Bool). cond k (stepped f a b p q && not o) (stepped f a b p q || i)) (sym second)
    ∙ sym (stepped_at (stepped f a b) x y p q)))

-- A step before a push that keeps off its first node is as good as after it.
pushed_swap : (f : ℕ → ℕ → Bool) (x y : ℕ) (zs : List ℕ) → among zs x ≡ false → pushed (stepped f x y) zs ≡ stepped (pushed f zs) x y
unfolding pushed
pushed_swap f x y [] o = refl
pushed_swap f x y (a ∷ []) o = refl
pushed_swap f x y (a ∷ (b ∷ zs)) o =
    let k = among_off a (b ∷ zs) x o in
    let l = among_off b zs x k.1 in
    ap (λ (g : ℕ → ℕ → Bool). pushed g (b ∷ zs)) (stepped_swap f x y a b k.0 l.0) ∙ pushed_swap (stepped f a b) x y (b ∷ zs) k.1

-- The first step of a route is the last one that is pushed back.
back_two : (f : ℕ → ℕ → Bool) (ws : List ℕ) (x y : ℕ) → pushed_back f ((ws ++ (y ∷ [])) ++ (x ∷ [])) ≡ stepped (pushed_back f (ws ++ (y ∷ []))) x y
unfolding pushed_back
back_two f [] x y = refl
back_two f (w ∷ []) x y = refl
back_two f (w ∷ (v ∷ ws)) x y = back_two (stepped f v w) (v ∷ ws) x y

-- So the order does not count.
back_is : (f : ℕ → ℕ → Bool) (xs : List ℕ) → Apart xs → pushed_back f (reverse xs) ≡ pushed f xs
unfolding pushed pushed_back
back_is f [] a = refl
back_is f (x ∷ []) a = refl
back_is f (x ∷ (y ∷ ys)) a =
    ap (pushed_back f) (reverse-cons x (y ∷ ys) ∙ ap (λ (zs : List ℕ). zs ++ (x ∷ [])) (reverse-cons y ys))
    ∙ back_two f (reverse ys) x y
    ∙ ap (λ (zs : List ℕ). stepped (pushed_back f zs) x y) (sym (reverse-cons y ys))
    ∙ ap (λ (g : ℕ → ℕ → Bool). stepped g x y) (back_is f (y ∷ ys) a.1)
    ∙ sym (pushed_swap f x y (y ∷ ys) a.0)

-- What is pushed back from the end of a trail is what is pushed along it.
pub pushed_is_back : PushedBack
pushed_is_back r s t before n trail f h =
    ap (pushed_back f) (sym (read_reversed r s t before n trail h)) ∙ back_is f trail.nodes trail.route.apart

-- At the first node of the route nothing is left to push.
pub back_here : (f : ℕ → ℕ → Bool) (before : List ℕ) (s q n : ℕ) → 0 < n → q ≡ s → pushed_back f (walk_back before s q n) ≡ f
unfolding pushed_back
back_here f before s q zero l e = absurd (omega arith)
back_here f before s q (suc n) l e = rw (back_last before s q n e) refl

-- Nor is anything with one node left.
pub back_one : (f : ℕ → ℕ → Bool) (before : List ℕ) (s q : ℕ) → pushed_back f (walk_back before s q 1) ≡ f
unfolding pushed_back walk_back
back_one f before s q = ⊎_elim (λ (h : eqb q s ≡ true). rw h refl) (λ (h : eqb q s ≡ false). rw h refl) (cases_Bool (eqb q s))

-- Elsewhere the step to q goes before the rest.
pub back_more : (f : ℕ → ℕ → Bool) (before : List ℕ) (s q n : ℕ) → 2 ≤ n → (q ≡ s → ⊥)
    → pushed_back f (walk_back before s q n) ≡ pushed_back (stepped f (get_or before q 0) q) (walk_back before s (get_or before q 0) (n - 1))
unfolding pushed_back walk_back
back_more f before s q zero l e = absurd (omega arith)
back_more f before s q (suc zero) l e = absurd (omega arith)
back_more f before s q (suc (suc n)) l e =
    let k : suc (suc n) - 1 ≡ suc n = omega arith in
    rw (k, back_next before s q (suc n) e) refl

-- What holds of the nodes back from q holds of q.
pub first_back : (P : ℕ → Type 0) (before : List ℕ) (s q n : ℕ) → 0 < n → All P (walk_back before s q n) → P q
unfolding walk_back
first_back P before s q zero l all = absurd (omega arith)
first_back P before s q (suc n) l all = All-head P q _ all

-- And of the nodes back from the one noted at it.
pub rest_back : (P : ℕ → Type 0) (before : List ℕ) (s q n : ℕ) → 2 ≤ n → (q ≡ s → ⊥) → All P (walk_back before s q n)
    → All P (walk_back before s (get_or before q 0) (n - 1))
rest_back P before s q zero l e all = absurd (omega arith)
rest_back P before s q (suc zero) l e all = absurd (omega arith)
rest_back P before s q (suc (suc n)) l e all =
    let k : suc (suc n) - 1 ≡ suc n = omega arith in
    rw k (All-tail P q (walk_back before s (get_or before q 0) (suc n)) (rw (back_next before s q (suc n) e) at all))
