-- Counting: how many numbers below n pass a test.
use Rattle.std.proofs.Common.{◌≡◌, ℕ, zero, suc, ◌+◌, ◌-◌, ◌<◌, ◌≤◌, Bool, true, false, cond, sym, refl, ap, ◌∙◌, ap₂, ⊎_elim, add-zero, add_assoc, add-suc, zero-add, add-one, arith}
use Rattle.std.proofs.lemmas.Bool.{cases_eq}
use Rattle.graph.specs.Graph.{count}

-- No number is below 0.
pub count_zero : (p : ℕ → Bool) → count p 0 ≡ 0
unfolding count
count_zero p = refl

-- One number more.
pub count_more : (p : ℕ → Bool) (n : ℕ) → count p (n + 1) ≡ count p n + cond (p n) 1 0
unfolding count
count_more p n = ap (count p) (add-one n)

-- Tests that agree below n count the same.
pub count_ext : (p q : ℕ → Bool) (n : ℕ) → ((k : ℕ) → k < n → p k ≡ q k) → count p n ≡ count q n
unfolding count
count_ext p q zero h = refl
count_ext p q (suc n) h =
    ap₂ (λ (a : ℕ) (b : Bool). a + cond b 1 0) (count_ext p q n (λ k l. h k (omega arith))) (h n (omega arith))

-- Where nothing passes, the count is 0.
pub count_none : (p : ℕ → Bool) (n : ℕ) → ((k : ℕ) → k < n → p k ≡ false) → count p n ≡ 0
unfolding count
count_none p zero h = refl
count_none p (suc n) h = rw (count_none p n (λ k l. h k (omega arith)), h n (omega arith))

bit_most : (b : Bool) → cond b 1 0 ≤ 1
bit_most true = omega arith
bit_most false = omega arith

-- At most all of them pass.
pub count_most : (p : ℕ → Bool) (n : ℕ) → count p n ≤ n
unfolding count
count_most p zero = omega arith
count_most p (suc n) = omega (arith, count_most p n, bit_most (p n))

-- The numbers below a + b are those below a and b more.
pub count_split : (p : ℕ → Bool) (a b : ℕ) → count p (a + b) ≡ count p a + count (λ k. p (a + k)) b
unfolding count
count_split p a zero = rw (add-zero, add-zero)
count_split p a (suc b) = rw (add-suc, count_split p a b, add_assoc)

-- The first number apart.
pub count_front : (p : ℕ → Bool) (n : ℕ) → count p (suc n) ≡ cond (p 0) 1 0 + count (λ k. p (suc k)) n
unfolding count
count_front p zero = rw (zero-add, add-zero)
count_front p (suc n) =
    ap (λ (x : ℕ). x + cond (p (suc n)) 1 0) (count_front p n)
    ∙ add_assoc (cond (p 0) 1 0) (count (λ k. p (suc k)) n) (cond (p (suc n)) 1 0)

-- A test that fails from m on counts no more beyond m.
pub count_short : (p : ℕ → Bool) (m n : ℕ) → m ≤ n → ((k : ℕ) → m ≤ k → k < n → p k ≡ false) → count p n ≡ count p m
count_short p m n h none =
    let e : n ≡ m + (n - m) = omega arith in
    let z : count (λ k. p (m + k)) (n - m) ≡ 0 = count_none (λ k. p (m + k)) (n - m) (λ k l. none (m + k) (omega arith) (omega arith)) in
    ap (count p) e ∙ count_split p m (n - m) ∙ omega (arith, z)

-- One more place passes.
pub count_one : (p q : ℕ → Bool) (a n : ℕ) → a < n → p a ≡ false → q a ≡ true → ((k : ℕ) → k < n → (k ≡ a → ⊥) → q k ≡ p k) → count q n ≡ count p n + 1
unfolding count
count_one p q a zero l off on other = let z : ⊥ = omega arith in absurd z
count_one p q a (suc n) l off on other =
    ⊎_elim
    (λ e. let below : count q n ≡ count p n = count_ext q p n (λ k h. other k (omega arith) (λ x. let z : ⊥ = omega arith in z)) in
    let one : ◌≡◌ {A = ℕ} (cond (q n) 1 0) 1 = ap (λ (b : Bool). cond {A = ℕ} b 1 0) (ap q (sym e) ∙ on) in
    let none : ◌≡◌ {A = ℕ} (cond (p n) 1 0) 0 = ap (λ (b : Bool). cond {A = ℕ} b 1 0) (ap p (sym e) ∙ off) in
    omega (arith, below, one, none))
    (λ ne. let here : ◌≡◌ {A = ℕ} (cond (q n) 1 0) (cond (p n) 1 0) = ap (λ (b : Bool). cond {A = ℕ} b 1 0) (other n (omega arith) (λ x. ne (sym x))) in
    omega (arith, here, count_one p q a n (omega (arith, ne)) off on (λ k h x. other k (omega arith) x)))
    (cases_eq a n)

-- A place that does not pass leaves the count below n.
pub count_miss : (p : ℕ → Bool) (a n : ℕ) → a < n → p a ≡ false → count p n < n
unfolding count
count_miss p a zero l off = let z : ⊥ = omega arith in absurd z
count_miss p a (suc n) l off =
    ⊎_elim
    (λ e. let none : ◌≡◌ {A = ℕ} (cond (p n) 1 0) 0 = ap (λ (b : Bool). cond {A = ℕ} b 1 0) (ap p (sym e) ∙ off) in omega (arith, none, count_most p n))
    (λ ne. omega (arith, bit_most (p n), count_miss p a n (omega (arith, ne)) off))
    (cases_eq a n)
