-- Sums and counts over the numbers below n.
use Rattle.std.proofs.Common.{◌≡◌, ℕ, zero, suc, ◌+◌, ◌<◌, ◌≤◌, Bool, true, cond, ◌⊎◌, sym, refl, ap, ◌∙◌, inl, inr, arith}
use Rattle.std.proofs.lemmas.Bool.{cases_eq, cases_lt}
use Rattle.graph.specs.Graph.{count}
use Rattle.flows.specs.Flow.{total, pairs_passing}

-- A test as a number.
abbrev pub bit : Bool → ℕ
bit b = cond b 1 0

-- Terms that agree have the same sum.
pub total_same : (f g : ℕ → ℕ) (n : ℕ) → ((i : ℕ) → i < n → f i ≡ g i) → total f n ≡ total g n
unfolding total
total_same f g zero e = refl
total_same f g (suc n) e =
    let a = e n (omega arith) in
    let b = total_same f g n (λ i h. e i (omega arith)) in
    cc

-- Smaller terms have a smaller sum.
pub total_le : (f g : ℕ → ℕ) (n : ℕ) → ((i : ℕ) → i < n → f i ≤ g i) → total f n ≤ total g n
unfolding total
total_le f g zero e = omega arith
total_le f g (suc n) e = omega (arith, e n (omega arith), total_le f g n (λ i h. e i (omega arith)))

-- A sum of zeros is zero.
pub total_zero : (n : ℕ) → total (λ _. 0) n ≡ 0
unfolding total
total_zero zero = refl
total_zero (suc n) = omega (arith, total_zero n)

-- A sum of sums, term by term.
pub total_add : (f g : ℕ → ℕ) (n : ℕ) → total (λ i. f i + g i) n ≡ total f n + total g n
unfolding total
total_add f g zero = refl
total_add f g (suc n) = omega (arith, total_add f g n)

-- A double sum may be taken in either order.
pub total_swap : (f : ℕ → ℕ → ℕ) (m n : ℕ) → total (λ i. total (f i) m) n ≡ total (λ j. total (λ i. f i j) n) m
unfolding total
total_swap f m zero = sym (total_zero m)
total_swap f m (suc n) = omega (arith, total_swap f m n, total_add (f n) (λ j. total (λ i. f i j) n) m)

-- Two sums whose terms agree but at one place.
pub total_but : (f g : ℕ → ℕ) (n s : ℕ) → s < n → ((i : ℕ) → i < n → (i ≡ s → ⊥) → f i ≡ g i) → total f n + g s ≡ total g n + f s
unfolding total
total_but f g zero s h e = omega arith
total_but f g (suc n) s h e =
    elim (cases_eq n s) [
      | inl p ↦
          let same = total_same f g n (λ i k. e i (omega arith) (λ q. omega arith)) in
          let a = ap f p in
          let b = ap g p in
          omega arith
      | inr d ↦
          let here = e n (omega arith) d in
          omega (arith, total_but f g n s (omega arith) (λ i k. e i (omega arith)))
    ]

-- Terms that are no larger, and a sum that is no smaller: the terms agree.
pub total_tight : (f g : ℕ → ℕ) (n : ℕ) → ((i : ℕ) → i < n → f i ≤ g i) → total g n ≤ total f n → (i : ℕ) → i < n → f i ≡ g i
unfolding total
total_tight f g zero le e i h = omega arith
total_tight f g (suc n) le e i h =
    let here = le n (omega arith) in
    let below = total_le f g n (λ j k. le j (omega arith)) in
    elim (cases_eq i n) [
      | inl p ↦ ap f p ∙ (let q : f n ≡ g n = omega arith in q) ∙ sym (ap g p)
      | inr d ↦ total_tight f g n (λ j k. le j (omega arith)) (omega arith) i (omega arith)
    ]

-- A count is a sum of tests.
pub count_total : (p : ℕ → Bool) (n : ℕ) → count p n ≡ total (λ i. bit (p i)) n
unfolding count total
count_total p zero = refl
count_total p (suc n) = omega (arith, count_total p n)

-- A count of pairs is a double sum of tests.
pub pairs_total : (r : ℕ → ℕ → Bool) (n : ℕ) → pairs_passing r n ≡ total (λ p. total (λ q. bit (r p q)) n) n
pairs_total r n = total_same _ _ n (λ p _. count_total (r p) n)

-- The same laws for double sums.
pub total₂_add : (f g : ℕ → ℕ → ℕ) (n : ℕ) → total (λ i. total (λ j. f i j + g i j) n) n ≡ total (λ i. total (f i) n) n + total (λ i. total (g i) n) n
total₂_add f g n = total_same _ _ n (λ i _. total_add (f i) (g i) n) ∙ total_add (λ i. total (f i) n) (λ i. total (g i) n) n

pub total₂_same : (f g : ℕ → ℕ → ℕ) (n : ℕ) → ((i j : ℕ) → i < n → j < n → f i j ≡ g i j) → total (λ i. total (f i) n) n ≡ total (λ i. total (g i) n) n
total₂_same f g n e = total_same _ _ n (λ i h. total_same _ _ n (λ j k. e i j h k))

pub total₂_le : (f g : ℕ → ℕ → ℕ) (n : ℕ) → ((i j : ℕ) → i < n → j < n → f i j ≤ g i j) → total (λ i. total (f i) n) n ≤ total (λ i. total (g i) n) n
total₂_le f g n e = total_le _ _ n (λ i h. total_le _ _ n (λ j k. e i j h k))

pub total₂_zero : (n : ℕ) → total (λ _. total (λ _. 0) n) n ≡ 0
total₂_zero n = simp total_zero

pub total₂_tight : (f g : ℕ → ℕ → ℕ) (n : ℕ) → ((i j : ℕ) → i < n → j < n → f i j ≤ g i j) → total (λ i. total (g i) n) n ≤ total (λ i. total (f i) n) n → (i j : ℕ) → i < n → j < n → f i j ≡ g i j
total₂_tight f g n le e i j h k =
    let row = total_tight _ _ n (λ i h. total_le (f i) (g i) n (λ j k. le i j h k)) e i h in
    total_tight (f i) (g i) n (λ j k. le i j h k) (omega arith) j k

bit_le : (a b : Bool) → (a ≡ true → b ≡ true) → bit a ≤ bit b
bit_le a b e = grind arith

bit_same : (a b : Bool) → bit a ≡ bit b → a ≡ b
bit_same a b e = grind arith

-- A set inside another is the other, or has fewer members below n.
pub count_grows : (u w : ℕ → Bool) (n : ℕ) → ((i : ℕ) → i < n → u i ≡ true → w i ≡ true) → ((i : ℕ) → i < n → u i ≡ w i) ⊎ (count u n < count w n)
count_grows u w n e =
    let cu = count_total u n in
    let cw = count_total w n in
    elim (cases_lt (count u n) (count w n)) [
      | inl h ↦ inr h
      | inr h ↦ inl (λ i k. bit_same (u i) (w i) (total_tight _ _ n (λ i h. bit_le (u i) (w i) (e i h)) (omega arith) i k))
    ]

-- A set with a member below n counts at least one.
pub count_some : (u : ℕ → Bool) (n i : ℕ) → i < n → u i ≡ true → 0 < count u n
unfolding count
count_some u zero i h e = omega arith
count_some u (suc n) i h e =
    elim (cases_eq i n) [
      | inl p ↦ (let q : u n ≡ true = sym (ap u p) ∙ e in rw q (omega arith))
      | inr d ↦ omega (arith, count_some u n i (omega arith) e)
    ]
