-- How the lowest number that passes a test is come to by leaps: from one number that passes a larger
-- test to the next.
--
--   Scan                         from w up to v, nothing passes
--   scan_on, scan_none           one stretch more; a scan that came past the end
--   reach, hit, on, past, none   what the next number of a larger test leads to
use Rattle.std.proofs.Common.{◌≡◌, ℕ, ◌+◌, ◌-◌, ◌<◌, ◌≤◌, Bool, true, false, Some, None, ⊎_elim, arith}
use Rattle.std.proofs.lemmas.Bool.{cases_lt}
use Rattle.graph.specs.Graph.{first}
use Rattle.graph.proofs.Firsts.{Found, first_found, first_missing}

-- A scan from w up has come to v, and nothing from w to v passes.
pub record Scan (p : ℕ → Bool) (w v : ℕ) : Type 0 where
  pub from : w ≤ v
  pub none : (k : ℕ) → w ≤ k → k < v → p k ≡ false

-- A scan that came to v, with nothing that passes from v to u, comes to u.
pub scan_on : {p : ℕ → Bool} {w v u : ℕ} → Scan p w v → v ≤ u → ((k : ℕ) → v ≤ k → k < u → p k ≡ false) → Scan p w u
scan_on {v = v} s l high = record {
  from = omega (arith, s.from);
  none = λ k a b. ⊎_elim (λ h. s.none k a h) (λ h. high k h b) (cases_lt k v);
}

-- A scan that came past n finds nothing below n.
pub scan_none : {p : ℕ → Bool} {w v : ℕ} (n : ℕ) → Scan p w v → n ≤ v → None ≡ first p w (n - w)
scan_none {p} {w} n s l = first_missing p w n (λ k a b. s.none k a (omega arith))

-- A scan has come to v, and asks for the numbers of a larger test.
module _ {base p : ℕ → Bool} {w v : ℕ} (s : Scan p w v) (only : (k : ℕ) → base k ≡ false → p k ≡ false) where
  -- It comes to the next number of the larger test.
  pub reach : {e q : ℕ} → Found base v e q → Scan p w q
  reach f = scan_on s f.from (λ k a b. only k (f.none k a b))

  -- That number is the lowest, if it passes.
  pub hit : {e n q : ℕ} → Found base v e q → q < n → p q ≡ true → Some q ≡ first p w (n - w)
  hit {n = n} {q = q} f l h = let r = reach f in first_found p w q n r.from l r.none h

  -- Or else the scan goes on behind it.
  pub on : {e q : ℕ} → Found base v e q → p q ≡ false → Scan p w (q + 1)
  on {q = q} f h = scan_on (reach f) (omega arith) (λ k a b. let e : q ≡ k = omega arith in rw e at h)

  -- That number is out of range.
  pub past : {e n q : ℕ} → Found base v e q → n ≤ q → None ≡ first p w (n - w)
  past {n = n} f l = scan_none n (reach f) l

  -- There is no such number.
  pub none : {e n : ℕ} → n ≤ e → ((k : ℕ) → v ≤ k → k < e → base k ≡ false) → None ≡ first p w (n - w)
  none {n = n} l h = first_missing p w n (λ k a b. ⊎_elim (λ c. s.none k a c) (λ c. only k (h k c (omega arith))) (cases_lt k v))
