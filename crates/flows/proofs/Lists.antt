-- Lists of numbers as sets: what `any`, `all` and `among` say of `upto`, `++` and `kept_by`.
use Rattle.std.proofs.Common.{◌≡◌, ℕ, zero, suc, ◌<◌, Bool, true, false, cond, ◌&&◌, ◌||◌, eqb, ltb, ◌⊎◌, List, [], ◌∷◌, ◌++◌, filter, sym, refl, ap, ◌∙◌, inl, inr, arith}
use Rattle.std.proofs.lemmas.Bool.{both_ways, cases_Bool, eqb-true, eq-eqb, ne_eqb, ltb-true, lt-ltb, or_cases, or_parts, or_left, or_right, or_from, and_cases, and_parts, and_from}
use Rattle.std.proofs.lemmas.Bool.Decides.{nat_tests}
use Rattle.flows.specs.Lists.{upto, any, all, among}

-- Two tests that hold of the same things have one answer.
pub same_test : (a b : Bool) → (a ≡ true → b ≡ true) → (b ≡ true → a ≡ true) → a ≡ b
same_test a b x y = grind arith

-- A test that can't be true is false.
pub never_true : (b : Bool) → (b ≡ true → ⊥) → b ≡ false
never_true b h = elim (cases_Bool b) [ inl e ↦ absurd (h e) | inr e ↦ e ]

or_assoc : (a b c : Bool) → (a || (b || c)) ≡ ((a || b) || c)
or_assoc true b c = refl
or_assoc false b c = refl

or_false : (a : Bool) → (a || false) ≡ a
or_false true = refl
or_false false = refl

-- Nothing stands in the empty list.
pub any_nil : {X : Type 0} (p : X → Bool) → any p [] ≡ false
unfolding any
any_nil p = refl

pub any_cons : {X : Type 0} (p : X → Bool) (x : X) (xs : List X) → any p (x ∷ xs) ≡ (p x || any p xs)
unfolding any
any_cons p x xs = refl

pub all_nil : {X : Type 0} (p : X → Bool) → all p [] ≡ true
unfolding all
all_nil p = refl

pub all_cons : {X : Type 0} (p : X → Bool) (x : X) (xs : List X) → all p (x ∷ xs) ≡ (p x && all p xs)
unfolding all
all_cons p x xs = refl

-- Some item of a joined list passes if some item of a part does.
pub any_append : {X : Type 0} (p : X → Bool) (xs ys : List X) → any p (xs ++ ys) ≡ (any p xs || any p ys)
unfolding any
any_append p [] ys = refl
any_append p (x ∷ xs) ys = ap (λ (b : Bool). p x || b) (any_append p xs ys) ∙ or_assoc (p x) (any p xs) (any p ys)

-- One number more at the end of a list.
pub among_push : (xs : List ℕ) (x v : ℕ) → among (xs ++ (x ∷ [])) v ≡ (among xs v || eqb v x)
among_push xs x v = any_append (eqb v) xs (x ∷ []) ∙ ap (λ (b : Bool). among xs v || b) (any_cons (eqb v) x [] ∙ ap (λ (b : Bool). eqb v x || b) (any_nil (eqb v)) ∙ or_false (eqb v x))

-- A list of one number.
pub among_one : (x v : ℕ) → among (x ∷ []) v ≡ eqb v x
among_one x v = among_push [] x v ∙ ap (λ (b : Bool). b || eqb v x) (any_nil (eqb v))

-- The first number of a list stands in it.
pub among_head : (x : ℕ) (xs : List ℕ) → among (x ∷ xs) x ≡ true
among_head x xs = any_cons (eqb x) x xs ∙ or_left _ _ (eq-eqb x x refl)

-- What stands in the rest of a list stands in it.
pub among_tail : (x : ℕ) (xs : List ℕ) (v : ℕ) → among xs v ≡ true → among (x ∷ xs) v ≡ true
among_tail x xs v h = any_cons (eqb v) x xs ∙ or_right _ _ h

-- What stands in a list is its first number or stands in the rest.
pub among_cases : (x : ℕ) (xs : List ℕ) (v : ℕ) → among (x ∷ xs) v ≡ true → (v ≡ x) ⊎ (among xs v ≡ true)
among_cases x xs v h =
    elim (or_cases (eqb v x) (among xs v) (sym (any_cons (eqb v) x xs) ∙ h)) [ inl e ↦ inl (eqb-true v x e) | inr e ↦ inr e ]

-- What does not stand in a list is not its first number and does not stand in the rest.
pub among_off : (x : ℕ) (xs : List ℕ) (v : ℕ) → among (x ∷ xs) v ≡ false → (v ≡ x → ⊥) × (among xs v ≡ false)
among_off x xs v h =
    let k = or_parts (eqb v x) (among xs v) (sym (any_cons (eqb v) x xs) ∙ h) in
    (λ e. both_ways (eqb v x) k.0 (eq-eqb v x e), k.1)

-- A number that is not the first and does not stand in the rest does not stand in the list.
pub off_among : (x : ℕ) (xs : List ℕ) (v : ℕ) → (v ≡ x → ⊥) → among xs v ≡ false → among (x ∷ xs) v ≡ false
off_among x xs v d h = any_cons (eqb v) x xs ∙ or_from _ _ (ne_eqb v x d) h

-- In `upto n` stand the numbers below n.
pub among_upto : (n v : ℕ) → among (upto n) v ≡ ltb v n
unfolding upto
among_upto zero v = any_nil (eqb v) ∙ grind (arith, nat_tests)
among_upto (suc n) v = among_push (upto n) n v ∙ ap (λ (b : Bool). b || eqb v n) (among_upto n v) ∙ grind (arith, nat_tests)

kept_one : (p : ℕ → Bool) (x v : ℕ) (b : Bool) → p x ≡ b → (xs : List ℕ) → among (cond b (x ∷ xs) xs) v ≡ ((eqb v x && p v) || among xs v)
kept_one p x v true e xs = any_cons (eqb v) x xs ∙ ap (λ (c : Bool). c || among xs v) (same_test _ _ (λ h. and_from _ _ h (ap p (eqb-true v x h) ∙ e)) (λ h. (and_parts (eqb v x) (p v) h).0))
kept_one p x v false e xs = ap (λ (c : Bool). c || among xs v) (sym (never_true _ (λ h. let k = and_parts (eqb v x) (p v) h in both_ways (p x) e (sym (ap p (eqb-true v x k.0)) ∙ k.1))))

and_or : (a b c : Bool) → ((a && c) || (b && c)) ≡ ((a || b) && c)
and_or true true true = refl
and_or true true false = refl
and_or true false true = refl
and_or true false false = refl
and_or false b c = refl

-- Of a list there is kept what stands in it and passes.
pub among_kept : (p : ℕ → Bool) (xs : List ℕ) (v : ℕ) → among (filter p xs) v ≡ (among xs v && p v)
among_kept p [] v = any_nil (eqb v) ∙ ap (λ (b : Bool). b && p v) (sym (any_nil (eqb v)))
among_kept p (x ∷ xs) v =
    kept_one p x v (p x) refl (filter p xs)
    ∙ ap (λ (b : Bool). (eqb v x && p v) || b) (among_kept p xs v)
    ∙ and_or (eqb v x) (among xs v) (p v)
    ∙ ap (λ (b : Bool). b && p v) (sym (any_cons (eqb v) x xs))

-- If some number of a list passes, then one that stands in it does.
pub any_from : (p : ℕ → Bool) (xs : List ℕ) → any p xs ≡ true → (v : ℕ) × (among xs v ≡ true) × (p v ≡ true)
any_from p [] h = absurd (both_ways _ (any_nil p) h)
any_from p (x ∷ xs) h =
    elim (or_cases (p x) (any p xs) (sym (any_cons p x xs) ∙ h)) [
      | inl e ↦ (x, among_head x xs, e)
      | inr e ↦ (let r = any_from p xs e in (r.0, among_tail x xs r.0 r.1, r.2))
    ]

-- If a number that stands in a list passes, then some number of the list does.
pub any_at : (p : ℕ → Bool) (xs : List ℕ) (v : ℕ) → among xs v ≡ true → p v ≡ true → any p xs ≡ true
any_at p [] v h e = absurd (both_ways _ (any_nil (eqb v)) h)
any_at p (x ∷ xs) v h e =
    any_cons p x xs ∙ elim (among_cases x xs v h) [ inl q ↦ or_left _ _ (sym (ap p q) ∙ e) | inr k ↦ or_right (p x) _ (any_at p xs v k e) ]

-- If no number that stands in a list passes, then none of the list does.
pub any_none : (p : ℕ → Bool) (xs : List ℕ) → ((v : ℕ) → among xs v ≡ true → p v ≡ false) → any p xs ≡ false
any_none p xs h = never_true _ (λ e. let w = any_from p xs e in both_ways _ (h w.0 w.1) w.2)

-- Lists in which the same numbers stand pass the same tests.
pub any_same : (p q : ℕ → Bool) (xs ys : List ℕ) → ((v : ℕ) → among xs v ≡ among ys v) → ((v : ℕ) → among xs v ≡ true → p v ≡ q v) → any p xs ≡ any q ys
any_same p q xs ys same agree =
    same_test _ _
    (λ h. let w = any_from p xs h in any_at q ys w.0 (sym (same w.0) ∙ w.1) (sym (agree w.0 w.1) ∙ w.2))
    (λ h. let w = any_from q ys h in let m = same w.0 ∙ w.1 in any_at p xs w.0 m (agree w.0 m ∙ w.2))

-- If all numbers of a list pass, then each that stands in it does.
pub all_at : (p : ℕ → Bool) (xs : List ℕ) → all p xs ≡ true → (v : ℕ) → among xs v ≡ true → p v ≡ true
all_at p [] h v m = absurd (both_ways _ (any_nil (eqb v)) m)
all_at p (x ∷ xs) h v m =
    let k = and_parts (p x) (all p xs) (sym (all_cons p x xs) ∙ h) in
    elim (among_cases x xs v m) [ inl e ↦ ap p e ∙ k.0 | inr e ↦ all_at p xs k.1 v e ]

-- If each number that stands in a list passes, then all of the list do.
pub all_from : (p : ℕ → Bool) (xs : List ℕ) → ((v : ℕ) → among xs v ≡ true → p v ≡ true) → all p xs ≡ true
all_from p [] h = all_nil p
all_from p (x ∷ xs) h = all_cons p x xs ∙ and_from _ _ (h x (among_head x xs)) (all_from p xs (λ v m. h v (among_tail x xs v m)))

-- If not all numbers of a list pass, then one that stands in it does not.
pub all_off : (p : ℕ → Bool) (xs : List ℕ) → all p xs ≡ false → (v : ℕ) × (among xs v ≡ true) × (p v ≡ false)
all_off p [] h = absurd (both_ways _ h (all_nil p))
all_off p (x ∷ xs) h =
    elim (and_cases (p x) (all p xs) (sym (all_cons p x xs) ∙ h)) [
      | inl e ↦ (x, among_head x xs, e)
      | inr e ↦ (let r = all_off p xs e in (r.0, among_tail x xs r.0 r.1, r.2))
    ]

-- Some number below n passes, and all do.
pub any_upto_at : (p : ℕ → Bool) (n v : ℕ) → v < n → p v ≡ true → any p (upto n) ≡ true
any_upto_at p n v l e = any_at p (upto n) v (among_upto n v ∙ lt-ltb v n l) e

pub any_upto_from : (p : ℕ → Bool) (n : ℕ) → any p (upto n) ≡ true → (v : ℕ) × (v < n) × (p v ≡ true)
any_upto_from p n h = let w = any_from p (upto n) h in (w.0, ltb-true w.0 n (sym (among_upto n w.0) ∙ w.1), w.2)

pub all_upto_at : (p : ℕ → Bool) (n : ℕ) → all p (upto n) ≡ true → (v : ℕ) → v < n → p v ≡ true
all_upto_at p n h v l = all_at p (upto n) h v (among_upto n v ∙ lt-ltb v n l)

pub all_upto_from : (p : ℕ → Bool) (n : ℕ) → ((v : ℕ) → v < n → p v ≡ true) → all p (upto n) ≡ true
all_upto_from p n h = all_from p (upto n) (λ v m. h v (ltb-true v n (sym (among_upto n v) ∙ m)))
