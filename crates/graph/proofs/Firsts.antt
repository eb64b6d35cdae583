-- The lowest number that passes a test.
use Rattle.std.proofs.Common.{◌≡◌, ℕ, zero, suc, ◌+◌, ◌-◌, ◌<◌, ◌≤◌, Bool, true, false, cond, Some, None, Option, sym, refl, ap, ◌∙◌, ap₂, ⊎_elim, add-zero, zero-add, arith}
use Rattle.std.proofs.lemmas.Bool.{cases_Bool, cases_eq}
use Rattle.graph.specs.Graph.{first}

-- Tests that agree from w up find the same.
pub first_ext : (p q : ℕ → Bool) (w n : ℕ) → ((k : ℕ) → w ≤ k → k < w + n → p k ≡ q k) → first p w n ≡ first q w n
unfolding first
first_ext p q w zero h = refl
first_ext p q w (suc n) h =
    ap₂ (λ (b : Bool) (r : Option ℕ). cond b (Some w) r) (h w (omega arith) (omega arith)) (first_ext p q (suc w) n (λ k l m. h k (omega arith) (omega arith)))

-- Where nothing passes, none is found.
pub first_none : (p : ℕ → Bool) (w n : ℕ) → ((k : ℕ) → w ≤ k → k < w + n → p k ≡ false) → first p w n ≡ None
unfolding first
first_none p w zero h = refl
first_none p w (suc n) h = rw (h w (omega arith) (omega arith)) (first_none p (suc w) n (λ k l m. h k (omega arith) (omega arith)))

-- The first m fail, so the search goes on past them.
pub first_skip : (p : ℕ → Bool) (w m n : ℕ) → ((k : ℕ) → w ≤ k → k < w + m → p k ≡ false) → first p w (m + n) ≡ first p (w + m) n
unfolding first
first_skip p w zero n h = rw (zero-add, add-zero)
first_skip p w (suc m) n h =
    let e : suc m + n ≡ suc (m + n) = omega arith in
    let f : suc w + m ≡ w + suc m = omega arith in
    ap (first p w) e ∙ rw (h w (omega arith) (omega arith)) (first_skip p (suc w) m n (λ k l j. h k (omega arith) (omega arith)) ∙ ap (λ (x : ℕ). first p x n) f)

first_here : (p : ℕ → Bool) (w n : ℕ) → 0 < n → p w ≡ true → first p w n ≡ Some w
unfolding first
first_here p w zero l h = let z : ⊥ = omega arith in absurd z
first_here p w (suc n) l h = rw h

first_cut : (p : ℕ → Bool) (w a b : ℕ) → a ≤ b → ((k : ℕ) → w + a ≤ k → k < w + b → p k ≡ false) → first p w b ≡ first p w a
unfolding first
first_cut p w zero b h none = first_none p w b (λ k l m. none k (omega arith) m)
first_cut p w (suc a) zero h none = let z : ⊥ = omega arith in absurd z
first_cut p w (suc a) (suc b) h none =
    ap (λ (r : Option ℕ). cond (p w) (Some w) r) (first_cut p (suc w) a b (omega arith) (λ k l m. none k (omega arith) (omega arith)))

-- The number that passes, with none that does from w to it, is what is found.
pub first_found : (p : ℕ → Bool) (w v e : ℕ) → w ≤ v → v < e → ((k : ℕ) → w ≤ k → k < v → p k ≡ false) → p v ≡ true → Some v ≡ first p w (e - w)
first_found p w v e a b none here =
    let split : e - w ≡ (v - w) + (e - v) = omega arith in
    let at : w + (v - w) ≡ v = omega arith in
    sym (ap (first p w) split ∙ first_skip p w (v - w) (e - v) (λ k l m. none k l (omega arith)) ∙ ap (λ (x : ℕ). first p x (e - v)) at ∙ first_here p v (e - v) (omega arith) here)

-- None is found where none passes.
pub first_missing : (p : ℕ → Bool) (w e : ℕ) → ((k : ℕ) → w ≤ k → k < e → p k ≡ false) → None ≡ first p w (e - w)
first_missing p w e none = sym (first_none p w (e - w) (λ k l m. none k l (omega arith)))

-- A test that fails from m on finds no more beyond m.
pub first_short : (p : ℕ → Bool) (w m n : ℕ) → m ≤ n → ((k : ℕ) → m ≤ k → k < n → p k ≡ false) → first p w (n - w) ≡ first p w (m - w)
first_short p w m n h none = first_cut p w (m - w) (n - w) (omega arith) (λ k a b. none k (omega arith) (omega arith))

-- What it says that v was found, looking from w to e.
pub record Found (p : ℕ → Bool) (w e v : ℕ) : Type 0 where
  pub from : w ≤ v
  pub below : v < e
  pub here : p v ≡ true
  pub none : (k : ℕ) → w ≤ k → k < v → p k ≡ false

found_at : (p : ℕ → Bool) (w n v : ℕ) → first p w n ≡ Some v → Found p w (w + n) v
unfolding first
found_at p w zero v e = let z : ◌≡◌ {A = ℕ} 0 1 = cc in let y : ⊥ = omega arith in absurd y
found_at p w (suc n) v e =
    ⊎_elim
    (λ h. let q : w ≡ v = same w v (rw h at e) in record { from = omega arith; below = omega arith; here = rw q at h; none = λ k a b. let y : ⊥ = omega arith in absurd y })
    (λ h. let r = found_at p (suc w) n v (rw h at e) in record {
      from = omega (arith, r.from);
      below = omega (arith, r.below);
      here = r.here;
      none = λ k a b. ⊎_elim (λ q. rw q h) (λ q. r.none k (omega (arith, q)) b) (cases_eq k w);
    })
    (cases_Bool (p w))
  where
    same : (x y : ℕ) → Some x ≡ Some y → x ≡ y
    same x y e = cc

pub first_some : (p : ℕ → Bool) (w e v : ℕ) → first p w (e - w) ≡ Some v → Found p w e v
first_some p w e v h =
    let r = found_at p w (e - w) v h in
    record { from = r.from; below = omega (arith, r.below, r.from); here = r.here; none = r.none }

none_at : (p : ℕ → Bool) (w n : ℕ) → first p w n ≡ None → (k : ℕ) → w ≤ k → k < w + n → p k ≡ false
unfolding first
none_at p w zero e k a b = let y : ⊥ = omega arith in absurd y
none_at p w (suc n) e k a b =
    ⊎_elim
    (λ h. let f : Some w ≡ None = rw h at e in let z : ◌≡◌ {A = ℕ} 0 1 = cc in let y : ⊥ = omega arith in absurd y)
    (λ h. ⊎_elim (λ q. rw q h) (λ q. none_at p (suc w) n (rw h at e) k (omega (arith, q)) (omega arith)) (cases_eq k w))
    (cases_Bool (p w))

-- What it says that none was found.
pub first_all : (p : ℕ → Bool) (w e : ℕ) → first p w (e - w) ≡ None → (k : ℕ) → w ≤ k → k < e → p k ≡ false
first_all p w e h k a b = none_at p w (e - w) h k a (omega arith)
