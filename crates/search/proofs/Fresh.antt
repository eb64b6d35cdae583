-- Steps along an arc with room, and how a scan of a plan's arcs for the lowest that is not marked goes on.
use Rattle.std.proofs.Common.{◌≡◌, ℕ, ◌+◌, ◌-◌, ◌<◌, ◌≤◌, Bool, true, false, not, ◌&&◌, Some, None, sym, ◌∙◌, ⊎_elim, arith}
use Rattle.std.proofs.lemmas.Bool.{both_ways, cases_Bool, and_from, and_left, and_right, or_right}
use Rattle.graph.specs.Graph.{first}
use Rattle.graph.proofs.Firsts.{Found}
use Rattle.graph.proofs.Leaps as Leaps
use Rattle.graph.proofs.Leaps.{Scan}
use Rattle.flows.specs.Flow.{Digraph, residual}
use Rattle.rows.specs.Marks.{fresh}
use Rattle.rows.proofs.Fresh.{fresh_parts, fresh_from, fresh_off}
use Rattle.search.specs.Steps.{along}

module _ (d : Digraph) (f : ℕ → ℕ → Bool) (p q : ℕ) where
  -- A step along an arc with room is a residual step.
  pub along_step : along d f p q ≡ true → residual d f p q ≡ true
  unfolding along
  along_step h = or_right (f q p) (d.arc p q && not (f p q)) h

  -- Where no arc leads, none with room does.
  pub along_only : d.arc p q ≡ false → along d f p q ≡ false
  unfolding along
  along_only h = and_left (d.arc p q) (not (f p q)) h

  -- Where it was answered that there is no room, there is none.
  pub along_full : {r : Bool} → r ≡ not (f p q) → r ≡ false → along d f p q ≡ false
  unfolding along
  along_full is h = and_right (d.arc p q) (not (f p q)) (sym is ∙ h)

  -- Where it was answered that there is, an arc has room.
  pub along_from : {r : Bool} → d.arc p q ≡ true → r ≡ not (f p q) → r ≡ true → along d f p q ≡ true
  unfolding along
  along_from a is h = and_from (d.arc p q) (not (f p q)) a (sym is ∙ h)

-- A scan for the fresh nodes to which an arc with room leads from p has come to v.
module _ (d : Digraph) (f : ℕ → ℕ → Bool) (m : ℕ → Bool) (p : ℕ) {w v : ℕ} (s : Scan (fresh m (along d f p)) w v) where
  -- Where no arc leads to a fresh node, none with room does.
  fresh_only : (k : ℕ) → fresh m (d.arc p) k ≡ false → fresh m (along d f p) k ≡ false
  fresh_only k h =
      ⊎_elim
      (λ a. ⊎_elim
      (λ e. absurd (both_ways (fresh m (d.arc p) k) h (fresh_from m (d.arc p) k (fresh_parts m (along d f p) k e).0 a)))
      (λ e. e)
      (cases_Bool (fresh m (along d f p) k)))
      (λ a. fresh_off m (along d f p) k (along_only d f p k a))
      (cases_Bool (d.arc p k))

  module _ {q : ℕ} {r : Bool} (found : Found (fresh m (d.arc p)) v d.nodes q) (is : r ≡ not (f p q)) where
    -- One with room is the lowest.
    pub along_hit : r ≡ true → Some q ≡ first (fresh m (along d f p)) w (d.nodes - w)
    along_hit h =
        let parts = fresh_parts m (d.arc p) q found.here in
        Leaps.hit s fresh_only found found.below (fresh_from m (along d f p) q parts.0 (along_from d f p q parts.1 is h))

    -- Behind one without room the scan goes on.
    pub along_on : r ≡ false → Scan (fresh m (along d f p)) w (q + 1)
    along_on h = Leaps.on s fresh_only found (fresh_off m (along d f p) q (along_full d f p q is h))

  -- There is none.
  pub along_end : ((k : ℕ) → v ≤ k → k < d.nodes → fresh m (d.arc p) k ≡ false) → None ≡ first (fresh m (along d f p)) w (d.nodes - w)
  along_end all = Leaps.none s fresh_only {n = d.nodes} (omega arith) all
