-- The probes: vertices joined to none of the others, and as many as they can be; or all the rest.
-- They are at most half of the vertices, and either way they dominate the graph.
use Rattle.std.proofs.Common.{◌≡◌, ℕ, zero, suc, ◌+◌, ◌*◌, ◌/◌, ◌<◌, ◌≤◌, Bool, true, false, cond, not, ◌||◌, eqb, leb, ◌⊎◌, List, [], ◌∷◌, ◌++◌, length, filter, sym, refl, ap, ◌∙◌, subst, ap₂, inl, inr, arith, length-append}
use Rattle.std.proofs.lemmas.Bool.{cases_eq, cases_Bool, both_ways, cond-true, cond-false, cond_both, or_left, or_right, or_cases, and_from, and_parts, eq-eqb, eqb-true, ne_eqb, ltb-true, lt-ltb, leb-true, leb-false, not_from_false, or_from}
use Rattle.graph.specs.Graph.{Graph, Simple, count, degree}
use Rattle.graph.proofs.Counts.{count_ext}
use Rattle.flows.specs.Lists.{upto, any, among}
use Rattle.flows.specs.Routes.{Apart}
use Rattle.flows.proofs.Lists.{any_nil, among_push, among_upto, among_kept, among_off, any_from, any_at, any_append, never_true}
use Rattle.cuts.specs.Computations.{greedy, spaced, probes}
use Rattle.cuts.proofs.EdgeLists.{kept_count}
use Rattle.strength.proofs.EdgeSets.{Dominates, count_found}

-- One number more at the end of the list is looked at last.
greedy_push : (g : Graph) (taken vs : List ℕ) (v : ℕ)
    → greedy g taken (vs ++ (v ∷ [])) ≡ cond (any (g.joined v) (greedy g taken vs)) (greedy g taken vs) (greedy g taken vs ++ (v ∷ []))
unfolding greedy
greedy_push g taken [] v = refl
greedy_push g taken (x ∷ vs) v =
    elim (any (g.joined x) taken) as
    (λ b. cond b (greedy g taken (vs ++ (v ∷ []))) (greedy g (taken ++ (x ∷ [])) (vs ++ (v ∷ [])))
    ≡ cond (any (g.joined v) (cond b (greedy g taken vs) (greedy g (taken ++ (x ∷ [])) vs)))
    (cond b (greedy g taken vs) (greedy g (taken ++ (x ∷ [])) vs))
    (cond b (greedy g taken vs) (greedy g (taken ++ (x ∷ [])) vs) ++ (v ∷ [])))
    [ true ↦ greedy_push g taken vs v | false ↦ greedy_push g (taken ++ (x ∷ [])) vs v ]

-- A list with nothing twice, and one number more that does not stand in it.
apart_push : (xs : List ℕ) (q : ℕ) → Apart xs → among xs q ≡ false → Apart (xs ++ (q ∷ []))
apart_push [] q a h = (any_nil (eqb q), tt)
apart_push (x ∷ xs) q a h =
    let o = among_off x xs q h in
    (among_push xs q x ∙ or_from _ _ a.0 (ne_eqb x q (λ e. o.0 (sym e))), apart_push xs q a.1 o.1)

-- The numbers below n, none twice.
apart_upto : (n : ℕ) → Apart (upto n)
unfolding upto
apart_upto zero = tt
apart_upto (suc n) = apart_push (upto n) n (apart_upto n) (never_true _ (λ e. absurd (omega (arith, ltb-true n n (sym (among_upto n n) ∙ e)))))

-- A filter of a list with nothing twice has nothing twice.
apart_kept : (p : ℕ → Bool) (xs : List ℕ) → Apart xs → Apart (filter p xs)
apart_kept p [] a = tt
apart_kept p (x ∷ xs) a =
    let r = apart_kept p xs a.1 in
    elim (p x) as (λ b. Apart (cond b (x ∷ filter p xs) (filter p xs)))
    [ true ↦ (never_true _ (λ e. both_ways _ a.0 (and_parts (among xs x) (p x) (sym (among_kept p xs x) ∙ e)).0), r) | false ↦ r ]

-- What is known of the numbers taken among those below n.
pub record Taken (g : Graph) (n : ℕ) (s : List ℕ) : Type 0 where
  pub below : (v : ℕ) → among s v ≡ true → v < n
  pub counted : length s ≡ count (among s) n
  pub apart : Apart s
  pub unjoined : (u v : ℕ) → among s u ≡ true → among s v ≡ true → g.joined u v ≡ false
  pub full : (v : ℕ) → v < n → (among s v ≡ true) ⊎ (any (g.joined v) s ≡ true)

-- The next number is joined to one that was taken, and is passed over.
taken_skip : (g : Graph) (n : ℕ) (s : List ℕ) → Taken g n s → any (g.joined n) s ≡ true → Taken g (suc n) s
unfolding count
taken_skip g n s t e = record {
  below = λ v h. omega (arith, t.below v h);
  counted =
      (let off : among s n ≡ false = never_true _ (λ h. absurd (omega (arith, t.below n h))) in
      let z : ◌≡◌ {A = ℕ} (cond (among s n) 1 0) 0 = ap (λ (b : Bool). cond {A = ℕ} b 1 0) off in
      omega (arith, t.counted));
  apart = t.apart;
  unjoined = t.unjoined;
  full = λ v l. elim (cases_eq v n) [ inl q ↦ inr (ap (λ (x : ℕ). any (g.joined x) s) q ∙ e) | inr d ↦ t.full v (omega (arith, d)) ];
}

-- The next number is joined to none that was taken, and is taken.
taken_push : (g : Graph) → Simple g → (n : ℕ) (s : List ℕ) → Taken g n s → any (g.joined n) s ≡ false → Taken g (suc n) (s ++ (n ∷ []))
unfolding count
taken_push g ok n s t e = record {
  below = λ v h. elim (or_cases (among s v) (eqb v n) (sym (among_push s n v) ∙ h)) [ inl k ↦ omega (arith, t.below v k) | inr k ↦ omega (arith, eqb-true v n k) ];
  counted =
      (let a : length (s ++ (n ∷ [])) ≡ length s + length (n ∷ []) = length-append s (n ∷ []) in
      let b : count (among (s ++ (n ∷ []))) n ≡ count (among s) n = count_ext _ _ n (λ k l. among_push s n k ∙ past (among s k) (eqb k n) (ne_eqb k n (λ q. omega arith))) in
      let z : ◌≡◌ {A = ℕ} (cond (among (s ++ (n ∷ [])) n) 1 0) 1 = ap (λ (b : Bool). cond {A = ℕ} b 1 0) (among_push s n n ∙ or_right (among s n) _ (eq-eqb n n refl)) in
      omega (arith, t.counted));
  apart = apart_push s n t.apart (never_true _ (λ h. absurd (omega (arith, t.below n h))));
  unjoined = λ u v hu hv.
      elim (or_cases (among s u) (eqb u n) (sym (among_push s n u) ∙ hu)) [
        | inl x ↦
            (elim (or_cases (among s v) (eqb v n) (sym (among_push s n v) ∙ hv)) [
              | inl y ↦ t.unjoined u v x y
              | inr y ↦ ok.symmetric u v ∙ ap (λ (z : ℕ). g.joined z u) (eqb-true v n y) ∙ apart_from u x
            ])
        | inr x ↦
            (elim (or_cases (among s v) (eqb v n) (sym (among_push s n v) ∙ hv)) [
              | inl y ↦ ap (λ (z : ℕ). g.joined z v) (eqb-true u n x) ∙ apart_from v y
              | inr y ↦ ap₂ g.joined (eqb-true u n x) (eqb-true v n y) ∙ ok.irreflexive n
            ])
      ];
  full = λ v l.
      elim (cases_eq v n) [
        | inl q ↦ inl (among_push s n v ∙ or_right (among s v) _ (eq-eqb v n q))
        | inr d ↦
            (elim (t.full v (omega (arith, d))) [
              | inl h ↦ inl (among_push s n v ∙ or_left _ _ h)
              | inr h ↦ inr (any_append (g.joined v) s (n ∷ []) ∙ or_left _ _ h)
            ])
      ];
}
  where
    -- A test that fails adds nothing.
    past : (a b : Bool) → b ≡ false → (a || b) ≡ a
    past a b h = grind arith

    -- The new number is joined to none that was taken.
    apart_from : (v : ℕ) → among s v ≡ true → g.joined n v ≡ false
    apart_from v h = never_true _ (λ j. both_ways _ e (any_at (g.joined n) s v h j))

-- Nothing is taken of no numbers.
taken_none : (g : Graph) → Taken g 0 []
unfolding count
taken_none g = record {
  below = λ v h. absurd (both_ways _ (any_nil (eqb v)) h);
  counted = refl;
  apart = tt;
  unjoined = λ u v h k. absurd (both_ways _ (any_nil (eqb u)) h);
  full = λ v l. absurd (omega arith);
}

-- What is taken of the numbers below n.
taken_upto : (g : Graph) → Simple g → (n : ℕ) → Taken g n (greedy g [] (upto n))
unfolding upto greedy
taken_upto g ok zero = taken_none g
taken_upto g ok (suc n) =
    subst (Taken g (suc n)) (sym (greedy_push g [] (upto n) n))
    (elim (cases_Bool (any (g.joined n) (greedy g [] (upto n)))) [
      | inl e ↦ subst (Taken g (suc n)) (sym (cond-true _ _ _ e)) (taken_skip g n _ (taken_upto g ok n) e)
      | inr e ↦ subst (Taken g (suc n)) (sym (cond-false _ _ _ e)) (taken_push g ok n _ (taken_upto g ok n) e)
    ])

-- And of all vertices.
pub taken_spaced : (g : Graph) → Simple g → Taken g g.order (spaced g)
taken_spaced g ok = taken_upto g ok g.order

-- What passes and what does not make up all.
count_not : (p : ℕ → Bool) (n : ℕ) → count (λ v. not (p v)) n + count p n ≡ n
unfolding count
count_not p zero = refl
count_not p (suc n) = omega (arith, count_not p n, one (p n))
  where
    -- Each number is in one part.
    one : (b : Bool) → ◌≡◌ {A = ℕ} (cond (not b) 1 0 + cond b 1 0) 1
    one true = refl
    one false = refl

-- The rest of the vertices.
abbrev rest : Graph → List ℕ
rest g = filter (λ v. not (among (spaced g) v)) (upto g.order)

module _ (g : Graph) (ok : Simple g) where
  -- What holds of either choice holds of the probes.
  probe_cases : (P : List ℕ → Type 0) → (2 * length (spaced g) ≤ g.order → P (spaced g)) → (g.order < 2 * length (spaced g) → P (rest g)) → P (probes g)
  probe_cases P few many =
      cond_both (leb (2 * length (spaced g)) g.order) (spaced g) (rest g) P (λ e. few (leb-true _ _ e)) (λ e. many (leb-false _ _ e))

  -- The probes are at most half of the vertices.
  pub few_probes : length (probes g) ≤ g.order / 2
  few_probes =
      probe_cases (λ s. length s ≤ g.order / 2) (λ l. omega arith)
      (λ l. omega (arith, kept_count (λ v. not (among (spaced g) v)) g.order, count_not (among (spaced g)) g.order, (taken_spaced g ok).counted))

  -- They are vertices.
  pub probes_below : (v : ℕ) → among (probes g) v ≡ true → v < g.order
  probes_below =
      probe_cases (λ s. (v : ℕ) → among s v ≡ true → v < g.order) (λ _. (taken_spaced g ok).below)
      (λ _ v h. ltb-true v g.order (sym (among_upto g.order v) ∙ (and_parts (among (upto g.order) v) _ (sym (among_kept _ (upto g.order) v) ∙ h)).0))

  -- No probe stands twice.
  pub probes_apart : Apart (probes g)
  probes_apart = probe_cases Apart (λ _. (taken_spaced g ok).apart) (λ _. apart_kept _ (upto g.order) (apart_upto g.order))

  -- A vertex that was not taken is joined to one that was.
  spaced_dominates : Dominates g (among (spaced g))
  spaced_dominates p l =
      elim ((taken_spaced g ok).full p l) [
        | inl e ↦ inl e
        | inr e ↦ (let w = any_from (g.joined p) (spaced g) e in inr (w.0, (taken_spaced g ok).below w.0 w.1, w.1, w.2))
      ]

  -- What was not taken is in the rest.
  rest_among : (v : ℕ) → v < g.order → among (spaced g) v ≡ false → among (rest g) v ≡ true
  rest_among v l e = among_kept _ (upto g.order) v ∙ and_from _ _ (among_upto g.order v ∙ lt-ltb v g.order l) (not_from_false _ e)

  -- A vertex that was taken has a neighbour, and that was not taken.
  rest_dominates : ((p : ℕ) → p < g.order → 0 < degree g p) → Dominates g (among (rest g))
  rest_dominates some p l =
      elim (cases_Bool (among (spaced g) p)) [
        | inr e ↦ inl (rest_among p l e)
        | inl e ↦
            (let w = count_found (g.joined p) g.order (some p l) in
            inr (w.0, w.1, rest_among w.0 w.1 (never_true _ (λ h. both_ways _ ((taken_spaced g ok).unjoined p w.0 e h) w.2)), w.2))
      ]

  -- Where each vertex has a neighbour, the probes dominate.
  pub probes_dominate : ((p : ℕ) → p < g.order → 0 < degree g p) → Dominates g (among (probes g))
  probes_dominate some = probe_cases (λ s. Dominates g (among s)) (λ _. spaced_dominates) (λ _. rest_dominates some)
