-- Counting, as the vertex computation needs it: sets inside others, members told apart, and
-- counts that stop short.
use Rattle.std.proofs.Common.{◌≡◌, ℕ, zero, suc, ◌+◌, ◌<◌, ◌≤◌, Bool, true, false, cond, not, ◌||◌, eqb, ◌⊎◌, List, [], ◌∷◌, length, refl, ap, ◌∙◌, inl, inr, arith}
use Rattle.std.proofs.lemmas.Bool.Decides.{nat_tests}
use Rattle.std.proofs.lemmas.Bool.{cases_eq, cases_Bool}
use Rattle.graph.specs.Graph.{count}
use Rattle.graph.proofs.Counts.{count_more, count_ext, count_none}
use Rattle.flows.specs.Lists.{among}
use Rattle.flows.proofs.Lists.{any_nil, any_cons}

-- Some number below n passes, or none does.
pub seek : (p : ℕ → Bool) (n : ℕ) → ((i : ℕ) × (i < n) × (p i ≡ true)) ⊎ ((i : ℕ) → i < n → p i ≡ false)
seek p zero = inr (λ i l. absurd (omega arith))
seek p (suc n) =
    elim (cases_Bool (p n)) [
      | inl e ↦ inl (n, omega arith, e)
      | inr e ↦
          elim (seek p n) [
            | inl w ↦ inl (w.0, omega (arith, w.1), w.2)
            | inr none ↦ inr (λ i l. elim (cases_eq i n) [ inl q ↦ ap p q ∙ e | inr d ↦ none i (omega arith) ])
          ]
    ]

-- The lowest number below n that passes, or none does.
pub seek_first : (p : ℕ → Bool) (n : ℕ) → ((i : ℕ) × (i < n) × (p i ≡ true) × ((k : ℕ) → k < i → p k ≡ false)) ⊎ ((i : ℕ) → i < n → p i ≡ false)
seek_first p zero = inr (λ i l. absurd (omega arith))
seek_first p (suc n) =
    elim (seek_first p n) [
      | inl w ↦ inl (w.0, omega (arith, w.1), w.2, w.3)
      | inr none ↦
          elim (cases_Bool (p n)) [
            | inl e ↦ inl (n, omega arith, e, none)
            | inr e ↦ inr (λ i l. elim (cases_eq i n) [ inl q ↦ ap p q ∙ e | inr d ↦ none i (omega arith) ])
          ]
    ]

-- One of two tests counts at most what both do.
bit_either : (a b : Bool) → cond (a || b) 1 0 ≤ cond a 1 0 + cond b 1 0
bit_either a b = grind arith

-- Two sets together have at most the members of both.
pub count_either : (p q : ℕ → Bool) (n : ℕ) → count (λ k. p k || q k) n ≤ count p n + count q n
unfolding count
count_either p q zero = omega arith
count_either p q (suc n) = omega (arith, bit_either (p n) (q n), count_either p q n)

-- At most one number is x.
pub count_same : (x n : ℕ) → count (λ k. eqb k x) n ≤ 1
unfolding count
count_same x zero = omega arith
count_same x (suc n) =
    elim (cases_eq n x) [
      | inl e ↦ (let none : count (λ k. eqb k x) n ≡ 0 = count_none (λ k. eqb k x) n (λ k l. grind (arith, nat_tests)) in omega (arith, none, bit_most (eqb n x)))
      | inr d ↦ (let off : eqb n x ≡ false = grind (arith, nat_tests) in rw off (omega (arith, count_same x n)))
    ]
  where
    -- A test counts at most one.
    bit_most : (b : Bool) → cond b 1 0 ≤ 1
    bit_most b = grind arith

-- The numbers that stand in a list are at most as many as its items.
pub count_among : (c : List ℕ) (n : ℕ) → count (among c) n ≤ length c
count_among [] n = omega (arith, count_none (among []) n (λ k l. any_nil (eqb k)))
count_among (x ∷ c) n =
    let e : count (among (x ∷ c)) n ≡ count (λ k. eqb k x || among c k) n = count_ext _ _ n (λ k l. any_cons (eqb k) x c) in
    omega (arith, e, count_either (λ k. eqb k x) (among c) n, count_same x n, count_among c n)

-- Fewer numbers have fewer members.
pub count_up : (p : ℕ → Bool) (m n : ℕ) → m ≤ n → count p m ≤ count p n
unfolding count
count_up p m zero h = let e : m ≡ 0 = omega arith in rw e (omega arith)
count_up p m (suc n) h =
    elim (cases_eq m (suc n)) [
      | inl e ↦ rw e (omega arith)
      | inr d ↦ omega (arith, count_up p m n (omega arith))
    ]

-- A member from m up makes one more.
pub count_past : (p : ℕ → Bool) (m x n : ℕ) → m ≤ x → x < n → p x ≡ true → count p m + 1 ≤ count p n
count_past p m x n a b e =
    let here : count p (x + 1) ≡ count p x + cond (p x) 1 0 = count_more p x in
    let one : ◌≡◌ {A = ℕ} (cond (p x) 1 0) 1 = ap (λ (b : Bool). cond {A = ℕ} b 1 0) e in
    omega (arith, here, one, count_up p m x a, count_up p (x + 1) n (omega arith))

-- All numbers below n pass the test that always does.
pub count_every : (n : ℕ) → count (λ _. true) n ≡ n
unfolding count
count_every zero = refl
count_every (suc n) = omega (arith, count_every n)

-- A number passes a test or fails it.
pub count_rest : (p : ℕ → Bool) (n : ℕ) → count p n + count (λ k. not (p k)) n ≡ n
unfolding count
count_rest p zero = refl
count_rest p (suc n) = omega (arith, count_rest p n, bit_rest (p n))
  where
    -- A test and its opposite count one.
    bit_rest : (b : Bool) → cond b 1 0 + cond (not b) 1 0 ≡ 1
    bit_rest b = grind arith
