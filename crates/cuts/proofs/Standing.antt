-- Items that stand in lists: tests over lists, lists in which nothing stands twice, and
-- sublists that hold all that passes a test.
use Rattle.std.proofs.Common.{◌≡◌, ℕ, zero, suc, ◌<◌, ◌≤◌, Bool, true, false, cond, ◌&&◌, ◌||◌, eqb, List, [], ◌∷◌, ◌++◌, length, filter, sym, refl, ap, ◌∙◌, subst, ap₂, inl, inr, ⊎_elim, arith}
use Rattle.std.proofs.lemmas.Bool.{cases_Bool, both_ways, and_parts, eq-eqb, true≢false}
use Rattle.flows.specs.Lists.{upto, any, all, among}
use Rattle.flows.proofs.Lists.{any_nil, among_cases}
use Rattle.cuts.specs.Choices.{In, find}
use Rattle.cuts.proofs.Smallest.{Sub, sub_none, sub_take, sub_skip, in_left, in_right, in_either, kept_out}

or_right : (x y : Bool) → y ≡ true → (x || y) ≡ true
or_right true y h = refl
or_right false y h = h

-- Nothing stands twice in a list.
abbrev pub Distinct : {X : Type 0} → List X → Type 0
Distinct [] = Unit {0}
Distinct (x ∷ xs) = (In x xs → ⊥) × Distinct xs

module _ {X : Type 0} where
  -- Some item passes if one that stands in the list does; all pass if each of them does.
  pub any_in : (p : X → Bool) (x : X) (xs : List X) → In x xs → p x ≡ true → any p xs ≡ true
  unfolding any
  any_in p x [] i h = absurd i
  any_in p x (y ∷ ys) i h =
      ⊎_elim (λ e. ap (λ (b : Bool). b || any p ys) (ap p (sym e) ∙ h)) (λ j. or_right (p y) (any p ys) (any_in p x ys j h)) i

  pub all_in : (p : X → Bool) (x : X) (xs : List X) → all p xs ≡ true → In x xs → p x ≡ true
  unfolding all
  all_in p x [] h i = absurd i
  all_in p x (y ∷ ys) h i =
      let q = and_parts (p y) (all p ys) h in
      ⊎_elim (λ e. ap p e ∙ q.0) (λ j. all_in p x ys q.1 j) i

  pub in_all : (p : X → Bool) (xs : List X) → ((x : X) → In x xs → p x ≡ true) → all p xs ≡ true
  unfolding all
  in_all p [] h = refl
  in_all p (y ∷ ys) h = ap₂ (λ (a b : Bool). a && b) (h y (inl refl)) (in_all p ys (λ x i. h x (inr i)))

  -- What is found stands in the list and passes, as soon as anything there passes.
  pub find_in : (p : X → Bool) (d x : X) (xs : List X) → In x xs → p x ≡ true → In (find p d xs) xs × (p (find p d xs) ≡ true)
  unfolding find
  find_in p d x [] i h = absurd i
  find_in p d x (y ∷ ys) i h =
      ⊎_elim
      (λ on. let e : y ≡ find p d (y ∷ ys) = sym (ap (λ (b : Bool). cond b y (find p d ys)) on) in
      subst (λ (z : X). In z (y ∷ ys) × (p z ≡ true)) e (inl refl, on))
      (λ off. let e : find p d ys ≡ find p d (y ∷ ys) = sym (ap (λ (b : Bool). cond b y (find p d ys)) off) in
      ⊎_elim
      (λ q. let z : ⊥ = true≢false (sym h ∙ ap p q ∙ off) in absurd z)
      (λ j. let r = find_in p d x ys j h in subst (λ (z : X). In z (y ∷ ys) × (p z ≡ true)) e (inr r.0, r.1))
      i)
      (cases_Bool (p y))

  -- What stands in a sublist stands in the list.
  pub sub_in : {c xs : List X} → Sub c xs → (x : X) → In x c → In x xs
  sub_in (sub_none xs) x i = absurd i
  sub_in (sub_take y ys xs s) x i = ⊎_elim (λ e. inl e) (λ j. inr (sub_in s x j)) i
  sub_in (sub_skip y ys xs s) x i = inr (sub_in s x i)

  pub distinct_kept : (p : X → Bool) (xs : List X) → Distinct xs → Distinct (filter p xs)
  distinct_kept p [] d = tt
  distinct_kept p (x ∷ xs) d =
      elim (p x) as (λ b. Distinct (cond b (x ∷ filter p xs) (filter p xs)))
      [ true ↦ (λ i. d.0 (kept_out p x xs i).0, distinct_kept p xs d.1) | false ↦ distinct_kept p xs d.1 ]

  pub distinct_append : (xs ys : List X) → Distinct xs → Distinct ys → ((x : X) → In x xs → In x ys → ⊥) → Distinct (xs ++ ys)
  distinct_append [] ys d e apart = e
  distinct_append (x ∷ xs) ys d e apart =
      (λ i. ⊎_elim d.0 (apart x (inl refl)) (in_either x xs ys i), distinct_append xs ys d.1 e (λ y i j. apart y (inr i) j))

  none_passing : (t : X → Bool) (xs : List X) → ((e : X) → In e xs → t e ≡ true → ⊥) → length (filter t xs) ≤ 0
  none_passing t [] h = omega arith
  none_passing t (x ∷ xs) h =
      ⊎_elim
      (λ on. let z : ⊥ = h x (inl refl) on in absurd z)
      (λ off. rw off (none_passing t xs (λ e i q. h e (inr i) q)))
      (cases_Bool (t x))

  -- All that passes stands in a sublist: then no more passes than the sublist has.
  sub_bound : (t : X → Bool) {d xs : List X} → Distinct xs → Sub d xs → ((e : X) → In e xs → t e ≡ true → In e d) → length (filter t xs) ≤ length d
  sub_bound t a (sub_none xs) h = none_passing t xs h
  sub_bound t a (sub_take x ys xs s) h =
      let ih = sub_bound t a.1 s (λ e i q. ⊎_elim (λ same. let z : ⊥ = a.0 (subst (λ (y : X). In y xs) same i) in absurd z) (λ j. j) (h e (inr i) q)) in
      ⊎_elim (λ on. rw on (omega arith)) (λ off. rw off (omega arith)) (cases_Bool (t x))
  sub_bound t a (sub_skip x ys xs s) h =
      ⊎_elim
      (λ on. let z : ⊥ = a.0 (sub_in s x (h x (inl refl) on)) in absurd z)
      (λ off. rw off (sub_bound t a.1 s (λ e i q. h e (inr i) q)))
      (cases_Bool (t x))

  length_none : (xs : List X) → length xs ≡ 0 → [] ≡ xs
  length_none [] h = refl
  length_none (x ∷ xs) h = let z : ⊥ = omega arith in absurd z

  -- If as many pass, the sublist is what passes.
  pub sub_full : (t : X → Bool) {d xs : List X} → Distinct xs → Sub d xs → ((e : X) → In e xs → t e ≡ true → In e d) → length (filter t xs) ≡ length d → d ≡ filter t xs
  sub_full t a (sub_none xs) h l = length_none (filter t xs) l
  sub_full t a (sub_take x ys xs s) h l =
      let rest = λ (e : X) (i : In e xs) (q : t e ≡ true). ⊎_elim (λ same. let z : ⊥ = a.0 (subst (λ (y : X). In y xs) same i) in absurd z) (λ (j : In e ys). j) (h e (inr i) q) in
      ⊎_elim
      (λ on. let m : suc (length (filter t xs)) ≡ suc (length ys) = rw on at l in
      rw on (ap (λ (zs : List X). x ∷ zs) (sub_full t a.1 s rest (omega arith))))
      (λ off. let m : length (filter t xs) ≡ suc (length ys) = rw off at l in
      let b = sub_bound t a.1 s rest in
      let z : ⊥ = omega arith in absurd z)
      (cases_Bool (t x))
  sub_full t a (sub_skip x ys xs s) h l =
      ⊎_elim
      (λ on. let z : ⊥ = a.0 (sub_in s x (h x (inl refl) on)) in absurd z)
      (λ off. let m : length (filter t xs) ≡ length ys = rw off at l in
      rw off (sub_full t a.1 s (λ e i q. h e (inr i) q) m))
      (cases_Bool (t x))

-- A number that stands in a list does so by the test, and the other way.
pub in_among : (v : ℕ) (xs : List ℕ) → In v xs → among xs v ≡ true
in_among v xs i = any_in (eqb v) v xs i (eq-eqb v v refl)

pub among_in : (v : ℕ) (xs : List ℕ) → among xs v ≡ true → In v xs
among_in v [] m = absurd (both_ways _ (any_nil (eqb v)) m)
among_in v (x ∷ xs) m = ⊎_elim (λ e. inl e) (λ k. inr (among_in v xs k)) (among_cases x xs v m)

-- The numbers below n stand in `upto n`, each once.
pub in_upto : (n q : ℕ) → q < n → In q (upto n)
unfolding upto
in_upto zero q h = let z : ⊥ = omega arith in absurd z
in_upto (suc n) q h =
    ⊎_elim
    (λ l. in_left q (upto n) (n ∷ []) (in_upto n q l))
    (λ l. let e : q ≡ n = omega arith in in_right q (upto n) (n ∷ []) (inl e))
    (Rattle.std.proofs.lemmas.Bool.cases_lt q n)

pub upto_below : (n q : ℕ) → In q (upto n) → q < n
unfolding upto
upto_below zero q i = absurd i
upto_below (suc n) q i =
    ⊎_elim (λ j. let l = upto_below n q j in omega arith) (λ j. ⊎_elim (λ e. omega arith) (λ k. absurd k) j) (in_either q (upto n) (n ∷ []) i)

pub distinct_upto : (n : ℕ) → Distinct (upto n)
unfolding upto
distinct_upto zero = tt
distinct_upto (suc n) =
    distinct_append (upto n) (n ∷ []) (distinct_upto n) (λ i. i, tt) (λ x i j. ⊎_elim (λ e. let l = upto_below n x i in let z : ⊥ = omega arith in z) (λ k. absurd k) j)
