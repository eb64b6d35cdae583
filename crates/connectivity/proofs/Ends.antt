-- No arc of a run's flow leads out of its second end. Where no arc with room leads to it either, no residual
-- path does.
--
--   none_open       none below n is the first not in a set exactly where all are in it
--   cut_off         the end is not reached
use Rattle.std.proofs.Common.{◌≡◌, ℕ, ◌-◌, ◌<◌, ◌↔◌, Bool, true, false, not, ◌&&◌, Some, None, Option, sym, refl, ap, ◌∙◌, ⊎_elim, arith}
use Rattle.std.specs.Option.{is_none}
use Rattle.std.proofs.lemmas.Bool.{both_ways, or_cases, not-true, not-false}
use Rattle.graph.specs.Graph.{first}
use Rattle.graph.proofs.Firsts.{first_all, first_some}
use Rattle.flows.specs.Flow.{Digraph, NoneOutOf, residual, residual_side}
use Rattle.flows.proofs.Lists.{never_true}
use Rattle.flows.proofs.Reached.{reached_each}
use Rattle.search.specs.Goals.{Closed}
use Rattle.search.specs.Steps.{along}

-- The lowest number below n that is not in a set is none exactly where all are in it.
pub none_open : (set : ℕ → Bool) (n : ℕ) (lowest : Option ℕ) → lowest ≡ first (λ k. not (set k)) 0 (n - 0)
    → (is_none lowest ≡ true) ↔ ((q : ℕ) → q < n → set q ≡ true)
none_open set n None h = (λ e q l. not-false (set q) (first_all (λ k. not (set k)) 0 n (sym h) q (omega arith) l), λ all. refl)
none_open set n (Some v) h = (
  λ e. absurd (both_ways false refl e),
  λ all. let f = first_some (λ k. not (set k)) 0 n v (sym h) in absurd (both_ways (set v) (not-true (set v) f.here) (all v f.below)),
)

module _ (d : Digraph) (f : ℕ → ℕ → Bool) (s t : ℕ) (below : s < d.nodes) (apart : s ≡ t → ⊥) (ends : NoneOutOf f t) (closed : ℕ → Bool)
    (sets : Closed d f t closed) (all : (q : ℕ) → q < d.nodes → closed q ≡ true) where
  -- No residual step leads to the end.
  no_step : (p : ℕ) → p < d.nodes → residual d f p t ≡ true → ⊥
  unfolding along
  no_step p l h =
      ⊎_elim
      (λ b. both_ways (f t p) (ends p) b)
      (λ a. both_ways (d.arc p t && not (f p t)) (not-true (d.arc p t && not (f p t)) (sym (sets p l) ∙ all p l)) a)
      (or_cases (f t p) (d.arc p t && not (f p t)) h)

  -- So it is not reached.
  pub cut_off : residual_side d f s t ≡ false
  cut_off = never_true _ (λ e.
      reached_each d.nodes (residual d f) s below (λ x. x ≡ t → ⊥) apart (λ p q l m o r z. no_step p l (ap (residual d f p) (sym z) ∙ r)) t e refl)
