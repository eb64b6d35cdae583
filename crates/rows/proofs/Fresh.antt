-- Numbers that pass a test and are not marked, and how a scan for the lowest of them goes on.
use Rattle.std.proofs.Common.{◌≡◌, ℕ, ◌+◌, ◌-◌, ◌<◌, ◌≤◌, Bool, true, false, not, ◌&&◌, Some, None, sym, ap, ◌∙◌, arith}
use Rattle.std.proofs.lemmas.Bool.{and_parts, and_from, and_left, and_right, not-true, not-false, not_from_true, not_from_false}
use Rattle.graph.specs.Graph.{first}
use Rattle.graph.proofs.Firsts.{Found, first_some, first_all}
use Rattle.graph.proofs.Leaps as Leaps
use Rattle.graph.proofs.Leaps.{Scan}
use Rattle.rows.specs.Marks.{fresh}

module _ (m test : ℕ → Bool) where
  -- What is marked is not fresh.
  pub fresh_marked : (k : ℕ) → m k ≡ true → fresh m test k ≡ false
  unfolding fresh
  fresh_marked k h = and_left (not (m k)) (test k) (not_from_true (m k) h)

  -- What fails the test is not fresh.
  pub fresh_off : (k : ℕ) → test k ≡ false → fresh m test k ≡ false
  unfolding fresh
  fresh_off k h = and_right (not (m k)) (test k) h

  -- What passes the test and is not marked is fresh.
  pub fresh_from : (k : ℕ) → m k ≡ false → test k ≡ true → fresh m test k ≡ true
  unfolding fresh
  fresh_from k h e = and_from (not (m k)) (test k) (not_from_false (m k) h) e

  -- What is fresh is not marked, and passes the test.
  pub fresh_parts : (k : ℕ) → fresh m test k ≡ true → (m k ≡ false) × (test k ≡ true)
  unfolding fresh
  fresh_parts k h = let e = and_parts (not (m k)) (test k) h in (not-true (m k) e.0, e.1)

  -- What passes the test and is not fresh is marked.
  pub fresh_done : (k : ℕ) → fresh m test k ≡ false → test k ≡ true → m k ≡ true
  unfolding fresh
  fresh_done k h e = grind arith

-- A scan for fresh numbers has come to v, and asks for the numbers of a larger test.
module _ (m test : ℕ → Bool) {base : ℕ → Bool} {w v : ℕ} (s : Scan (fresh m test) w v) (only : (k : ℕ) → base k ≡ false → test k ≡ false) where
  -- What fails the larger test is not fresh.
  wide : (k : ℕ) → base k ≡ false → fresh m test k ≡ false
  wide k h = fresh_off m test k (only k h)

  -- The next number of the larger test is the lowest, if it passes and is not marked.
  pub hit : {e n q : ℕ} {r : Bool} → Found base v e q → q < n → r ≡ m q → r ≡ false → test q ≡ true → Some q ≡ first (fresh m test) w (n - w)
  hit {q = q} f l is h t = Leaps.hit s wide f l (fresh_from m test q (sym is ∙ h) t)

  -- Or else the scan goes on behind it.
  pub on : {e q : ℕ} → Found base v e q → fresh m test q ≡ false → Scan (fresh m test) w (q + 1)
  on = Leaps.on s wide

  -- That number is out of range.
  pub past : {e n q : ℕ} → Found base v e q → n ≤ q → None ≡ first (fresh m test) w (n - w)
  past = Leaps.past s wide

  -- There is no such number.
  pub none : {e n : ℕ} → n ≤ e → ((k : ℕ) → v ≤ k → k < e → base k ≡ false) → None ≡ first (fresh m test) w (n - w)
  none = Leaps.none s wide

  -- That number is marked: the scan goes on behind it, and asks for what is not marked below u.
  module _ {e q : ℕ} {r : Bool} (f : Found base v e q) (is : r ≡ m q) (h : r ≡ true) (u : ℕ) where
    -- What is marked is not fresh.
    free : (k : ℕ) → not (m k) ≡ false → fresh m test k ≡ false
    free k z = fresh_marked m test k (not-false (m k) z)

    -- Behind it.
    behind : Scan (fresh m test) w (q + 1)
    behind = on f (fresh_marked m test q (sym is ∙ h))

    -- All from it up to the next are marked.
    pub leap : {z : ℕ} → Some z ≡ first (λ k. not (m k)) (q + 1) (u - (q + 1)) → Scan (fresh m test) w z
    leap {z} a = Leaps.reach behind free (first_some (λ k. not (m k)) (q + 1) u z (sym a))

    -- All above it are marked.
    pub leap_none : {n : ℕ} → n ≤ u → None ≡ first (λ k. not (m k)) (q + 1) (u - (q + 1)) → None ≡ first (fresh m test) w (n - w)
    leap_none l a = Leaps.none behind free l (first_all (λ k. not (m k)) (q + 1) u (sym a))

-- Where two tests agree, so do the fresh numbers.
pub fresh_ext : (m test test' : ℕ → Bool) (k : ℕ) → test k ≡ test' k → fresh m test k ≡ fresh m test' k
unfolding fresh
fresh_ext m test test' k h = ap (λ (b : Bool). not (m k) && b) h

-- What was asked of a value that is as it was: the lowest number below a bound of it that passes a test
-- of it.
module _ {X : Type 0} (test : X → ℕ → Bool) (bound : X → ℕ) (v : ℕ) {a b : X} (same : a ≡ b) where
  -- The answer is as it was.
  asked : first (test a) v (bound a - v) ≡ first (test b) v (bound b - v)
  asked = ap (λ (x : X). first (test x) v (bound x - v)) same

  -- What was found.
  pub found_in : {q : ℕ} → Some q ≡ first (test a) v (bound a - v) → Found (test b) v (bound b) q
  found_in {q} h = first_some (test b) v (bound b) q (sym (h ∙ asked))

  -- Where nothing was.
  pub none_in : None ≡ first (test a) v (bound a - v) → (k : ℕ) → v ≤ k → k < bound b → test b k ≡ false
  none_in h = first_all (test b) v (bound b) (sym (h ∙ asked))
