-- The smallest sublists that pass a test: what stands in `smallest`, and their size.
use Rattle.std.proofs.Common.{◌≡◌, ℕ, zero, suc, ◌+◌, ◌≤◌, Bool, true, false, cond, ◌⊎◌, List, [], ◌∷◌, ◌++◌, map, length, filter, sym, refl, ap, ◌∙◌, subst, inl, inr, ⊎_elim, arith}
use Rattle.std.proofs.lemmas.Bool.{cases_Bool, cases_eq}
use Rattle.cuts.specs.Choices.{In, choices, if_any, smallest_from, smallest, size}

-- A sublist, in order.
pub data Sub {X : Type 0} : List X → List X → Type 0 where
  sub_none : (xs : List X) → Sub [] xs
  sub_take : (x : X) (ys xs : List X) → Sub ys xs → Sub (x ∷ ys) (x ∷ xs)
  sub_skip : (x : X) (ys xs : List X) → Sub ys xs → Sub ys (x ∷ xs)

module _ {X : Type 0} where
  pub sub_length : {ys xs : List X} → Sub ys xs → length ys ≤ length xs
  sub_length (sub_none xs) = omega arith
  sub_length (sub_take x ys xs s) = let l = sub_length s in omega arith
  sub_length (sub_skip x ys xs s) = let l = sub_length s in omega arith

  -- What a filter keeps is a sublist.
  pub kept_sub : (p : X → Bool) (xs : List X) → Sub (filter p xs) xs
  kept_sub p [] = sub_none []
  kept_sub p (x ∷ xs) =
      elim (p x) as (λ b. Sub (cond b (x ∷ filter p xs) (filter p xs)) (x ∷ xs)) [ true ↦ sub_take x (filter p xs) xs (kept_sub p xs) | false ↦ sub_skip x (filter p xs) xs (kept_sub p xs) ]

  pub in_left : (c : X) (xs ys : List X) → In c xs → In c (xs ++ ys)
  in_left c [] ys i = absurd i
  in_left c (x ∷ xs) ys i = ⊎_elim (λ e. inl e) (λ j. inr (in_left c xs ys j)) i

  pub in_right : (c : X) (xs ys : List X) → In c ys → In c (xs ++ ys)
  in_right c [] ys i = i
  in_right c (x ∷ xs) ys i = inr (in_right c xs ys i)

  pub in_either : (c : X) (xs ys : List X) → In c (xs ++ ys) → In c xs ⊎ In c ys
  in_either c [] ys i = inr i
  in_either c (x ∷ xs) ys i = ⊎_elim (λ e. inl (inl e)) (λ j. ⊎_elim (λ k. inl (inr k)) (λ k. inr k) (in_either c xs ys j)) i

  -- What stands in a filtered list stands in the list and passes, and the other way.
  pub kept_in : (p : X → Bool) (c : X) (xs : List X) → In c xs → p c ≡ true → In c (filter p xs)
  kept_in p c [] i h = absurd i
  kept_in p c (x ∷ xs) i h =
      ⊎_elim
      (λ e. let on : p x ≡ true = ap p (sym e) ∙ h in rw on (inl e))
      (λ j. let r = kept_in p c xs j h in
      elim (p x) as (λ b. In c (cond b (x ∷ filter p xs) (filter p xs))) [ true ↦ inr r | false ↦ r ])
      i

  pub kept_out : (p : X → Bool) (c : X) (xs : List X) → In c (filter p xs) → In c xs × (p c ≡ true)
  kept_out p c [] i = absurd i
  kept_out p c (x ∷ xs) i =
      ⊎_elim
      (λ on. ⊎_elim (λ e. (inl e, ap p e ∙ on)) (λ j. let r = kept_out p c xs j in (inr r.0, r.1)) (rw on at i))
      (λ off. let r = kept_out p c xs (rw off at i) in (inr r.0, r.1))
      (cases_Bool (p x))

module _ {X : Type 0} where
  in_cons : (x : X) (c : List X) (cs : List (List X)) → In c cs → In (x ∷ c) (map (λ ys. x ∷ ys) cs)
  in_cons x c [] i = absurd i
  in_cons x c (d ∷ cs) i = ⊎_elim (λ e. inl (ap (λ (ys : List X). x ∷ ys) e)) (λ j. inr (in_cons x c cs j)) i

  -- An item of such a list begins with x.
  from_cons : (x : X) (c : List X) (cs : List (List X)) → In c (map (λ ys. x ∷ ys) cs) → (d : List X) × (c ≡ x ∷ d) × In d cs
  from_cons x c [] i = absurd i
  from_cons x c (d ∷ cs) i =
      ⊎_elim (λ e. (d, e, inl refl)) (λ j. let r = from_cons x c cs j in (r.0, r.1, inr r.2)) i

  choices_take : (x : X) (ys xs : List X) → In ys (choices (length ys) xs) → In (x ∷ ys) (choices (suc (length ys)) (x ∷ xs))
  unfolding choices
  choices_take x ys xs i = in_left (x ∷ ys) (map (λ zs. x ∷ zs) (choices (length ys) xs)) (choices (suc (length ys)) xs) (in_cons x ys (choices (length ys) xs) i)

  choices_skip : (c : List X) (x : X) (xs : List X) → In c (choices (length c) xs) → In c (choices (length c) (x ∷ xs))
  unfolding choices
  choices_skip [] x xs i = inl refl
  choices_skip (y ∷ ys) x xs i = in_right (y ∷ ys) (map (λ zs. x ∷ zs) (choices (length ys) xs)) (choices (suc (length ys)) xs) i

  -- Every sublist is among the choices of its length.
  pub in_choices : {c xs : List X} → Sub c xs → In c (choices (length c) xs)
  unfolding choices
  in_choices (sub_none xs) = inl refl
  in_choices (sub_take x ys xs s) = choices_take x ys xs (in_choices s)
  in_choices (sub_skip x ys xs s) = choices_skip ys x xs (in_choices s)

  -- And every choice is a sublist of that length.
  pub choice_sub : (k : ℕ) (xs c : List X) → In c (choices k xs) → Sub c xs × (length c ≡ k)
  unfolding choices
  choice_sub zero xs c i =
      ⊎_elim (λ e. (subst (λ (d : List X). Sub d xs) (sym e) (sub_none xs), ap length e)) (λ j. absurd j) i
  choice_sub (suc k) [] c i = absurd i
  choice_sub (suc k) (x ∷ xs) c i =
      ⊎_elim
      (λ l. let r = from_cons x c (choices k xs) l in
      let s = choice_sub k xs r.0 r.2 in
      (subst (λ (d : List X). Sub d (x ∷ xs)) (sym r.1) (sub_take x r.0 xs s.0), ap length r.1 ∙ ap suc s.1))
      (λ l. let s = choice_sub (suc k) xs c l in (sub_skip x c xs s.0, s.1))
      (in_either c (map (λ ys. x ∷ ys) (choices k xs)) (choices (suc k) xs) i)

module _ {X : Type 0} (p : List X → Bool) (xs : List X) where
  -- A passing sublist of length k is kept among the choices of k; what is kept is one.
  here_in : (k : ℕ) (c : List X) → Sub c xs → p c ≡ true → length c ≡ k → In c (filter p (choices k xs))
  here_in k c s h e = kept_in p c (choices k xs) (subst (λ (n : ℕ). In c (choices n xs)) e (in_choices s)) h

  here_out : (k : ℕ) (c : List X) → In c (filter p (choices k xs)) → Sub c xs × (p c ≡ true) × (length c ≡ k)
  here_out k c i =
      let r = kept_out p c (choices k xs) i in
      let s = choice_sub k xs c r.0 in
      (s.0, r.1, s.1)

  -- What it says of the smallest from length k up.
  pub record From (d k : ℕ) (cs : List (List X)) : Type 0 where
    pub each : (c : List X) → In c cs → Sub c xs × (p c ≡ true) × (length c ≡ size cs)
    pub least : (c : List X) → Sub c xs → p c ≡ true → k ≤ length c → length c ≤ k + d → size cs ≤ length c
    pub some : (c : List X) → Sub c xs → p c ≡ true → k ≤ length c → length c ≤ k + d → (e : List X) × In e cs
    pub every : (c : List X) → Sub c xs → p c ≡ true → k ≤ length c → length c ≡ size cs → In c cs

  full : (k : ℕ) (y : List X) (ys : List (List X)) → filter p (choices k xs) ≡ y ∷ ys → length y ≡ k
  full k y ys e = (here_out k y (subst (In y) (sym e) (inl refl))).2

  here_from : (d k : ℕ) (y : List X) (ys : List (List X)) → filter p (choices k xs) ≡ y ∷ ys → From d k (y ∷ ys)
  here_from d k y ys e =
      let size_is = full k y ys e in
      record {
        each = λ c i. let r = here_out k c (subst (In c) (sym e) i) in (r.0, r.1, r.2 ∙ sym size_is);
        least = λ c s h l m. omega (arith, size_is);
        some = λ c s h l m. (y, inl refl);
        every = λ c s h l q. subst (In c) e (here_in k c s h (q ∙ size_is));
      }

  none_here : (k : ℕ) → filter p (choices k xs) ≡ [] → (c : List X) → Sub c xs → p c ≡ true → length c ≡ k → ⊥
  none_here k e c s h l = subst (In c) e (here_in k c s h l)

  next_from : (d k : ℕ) (cs : List (List X)) → filter p (choices k xs) ≡ [] → From d (suc k) cs → From (suc d) k cs
  next_from d k cs e f =
      record {
        each = f.each;
        least = λ c s h l m. f.least c s h (later c s h l) (omega arith);
        some = λ c s h l m. f.some c s h (later c s h l) (omega arith);
        every = λ c s h l q. f.every c s h (later c s h l) q;
      }
    where
      later : (c : List X) → Sub c xs → p c ≡ true → k ≤ length c → suc k ≤ length c
      later c s h l = ⊎_elim (λ q. let z : ⊥ = none_here k e c s h q in absurd z) (λ ne. omega (arith, ne)) (cases_eq (length c) k)

  last_from : (k : ℕ) → filter p (choices k xs) ≡ [] → From 0 k []
  last_from k e =
      record {
        each = λ c i. absurd i;
        least = λ c s h l m. let z : ⊥ = none_here k e c s h (omega arith) in absurd z;
        some = λ c s h l m. let z : ⊥ = none_here k e c s h (omega arith) in absurd z;
        every = λ c s h l q. let z : ⊥ = none_here k e c s h (omega arith) in absurd z;
      }

  pick : (d k : ℕ) (l : List (List X)) → filter p (choices k xs) ≡ l → From d (suc k) (smallest_from p xs d (suc k)) → From (suc d) k (if_any l (smallest_from p xs d (suc k)))
  pick d k [] e f = next_from d k (smallest_from p xs d (suc k)) e f
  pick d k (y ∷ ys) e f = here_from (suc d) k y ys e

  pick_last : (k : ℕ) (l : List (List X)) → filter p (choices k xs) ≡ l → From 0 k l
  pick_last k [] e = last_from k e
  pick_last k (y ∷ ys) e = here_from 0 k y ys e

  from : (d k : ℕ) → From d k (smallest_from p xs d k)
  unfolding smallest_from
  from zero k = pick_last k (filter p (choices k xs)) refl
  from (suc d) k = pick d k (filter p (choices k xs)) refl (from d (suc k))

  all_from : From (length xs) 0 (smallest p xs)
  all_from = from (length xs) 0

  -- No passing sublist is smaller than the size.
  pub size_least : (c : List X) → Sub c xs → p c ≡ true → size (smallest p xs) ≤ length c
  size_least c s h = let l = sub_length s in all_from.least c s h (omega arith) (omega arith)

  -- What stands in `smallest` is a passing sublist of that size, and every such one stands there.
  pub smallest_each : (c : List X) → In c (smallest p xs) → Sub c xs × (p c ≡ true) × (length c ≡ size (smallest p xs))
  smallest_each c i = all_from.each c i

  pub smallest_every : (c : List X) → Sub c xs → p c ≡ true → length c ≡ size (smallest p xs) → In c (smallest p xs)
  smallest_every c s h e = all_from.every c s h (omega arith) e

  -- As soon as any sublist passes, one of that size does.
  pub size_met : (c : List X) → Sub c xs → p c ≡ true → (d : List X) × Sub d xs × (p d ≡ true) × (length d ≡ size (smallest p xs))
  size_met c s h =
      let l = sub_length s in
      let r = all_from.some c s h (omega arith) (omega arith) in
      let e = all_from.each r.0 r.1 in
      (r.0, e.0, e.1, e.2)
