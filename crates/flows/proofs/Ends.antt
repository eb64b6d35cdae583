-- What a push leaves at its two ends: no arc leads to where it begins, and none out of where it ends, if none
-- did before.
--
--   pushed_none_out   after a push along a route none leads out of its end
--   pushed_none_in    and none leads to its beginning
use Rattle.std.proofs.Common.{◌≡◌, ℕ, Bool, true, false, ◌&&◌, eqb, List, [], ◌∷◌, sym, ap, ◌∙◌, ⊎_elim}
use Rattle.std.proofs.lemmas.Bool.{both_ways, cases_Bool, or_from, and_left, and_right, ne_eqb}
use Rattle.flows.specs.Lists.{among}
use Rattle.flows.specs.Routes.{Walk, Apart}
use Rattle.flows.specs.Flow.{NoneInto, NoneOutOf, stepped, pushed}
use Rattle.flows.proofs.Lists.{among_off}
use Rattle.flows.proofs.Routes.{walk_last}
use Rattle.flows.proofs.Push.{pushed_one, pushed_more}

-- A step puts no other arc in than its own.
stepped_none : (f : ℕ → ℕ → Bool) (x y p q : ℕ) → (eqb p x && eqb q y) ≡ false → f p q ≡ false → stepped f x y p q ≡ false
stepped_none f x y p q other off =
    ⊎_elim
    (λ (h : f y x ≡ true). rw h (and_left (f p q) _ off))
    (λ (h : f y x ≡ false). rw h (or_from (f p q) (eqb p x && eqb q y) off other))
    (cases_Bool (f y x))

-- After a push along a route to t no arc leads out of t.
pub pushed_none_out : (r : ℕ → ℕ → Bool) (a t : ℕ) (f : ℕ → ℕ → Bool) (xs : List ℕ) → Walk r a t xs → Apart xs → NoneOutOf f t → NoneOutOf (pushed f xs) t
pushed_none_out r a t f [] w o none = absurd w
pushed_none_out r a t f (x ∷ []) w o none = rw pushed_one none
pushed_none_out r a t f (x ∷ (y ∷ ys)) w o none =
    let apart : t ≡ x → ⊥ = λ e. both_ways (among (y ∷ ys) x) o.0 (ap (among (y ∷ ys)) (sym e) ∙ walk_last r y t (y ∷ ys) w.2) in
    let next : NoneOutOf (stepped f x y) t = λ q. stepped_none f x y t q (and_left (eqb t x) (eqb q y) (ne_eqb t x apart)) (none q) in
    rw pushed_more (pushed_none_out r y t (stepped f x y) (y ∷ ys) w.2 o.1 next)

-- After a push along nodes of which none but the first may be s no arc leads to s.
pushed_behind : (s x : ℕ) (f : ℕ → ℕ → Bool) (xs : List ℕ) → among xs s ≡ false → NoneInto f s → NoneInto (pushed f (x ∷ xs)) s
pushed_behind s x f [] o none = rw pushed_one none
pushed_behind s x f (y ∷ ys) o none =
    let k = among_off y ys s o in
    let next : NoneInto (stepped f x y) s = λ p. stepped_none f x y p s (and_right (eqb p x) (eqb s y) (ne_eqb s y k.0)) (none p) in
    rw pushed_more (pushed_behind s y (stepped f x y) ys k.1 next)

-- So none does after a push along a route from s.
pub pushed_none_in : (r : ℕ → ℕ → Bool) (s b : ℕ) (f : ℕ → ℕ → Bool) (xs : List ℕ) → Walk r s b xs → Apart xs → NoneInto f s → NoneInto (pushed f xs) s
pushed_none_in r s b f [] w o none = absurd w
pushed_none_in r s b f (x ∷ []) w o none = rw pushed_one none
pushed_none_in r s b f (x ∷ (y ∷ ys)) w o none = pushed_behind s x f (y ∷ ys) (ap (among (y ∷ ys)) (sym w.0) ∙ o.0) none
