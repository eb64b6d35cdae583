-- A largest flow: the empty one, pushed along residual routes as long as there are any.
use Rattle.std.proofs.Common.{◌≡◌, ℕ, zero, suc, ◌+◌, ◌<◌, Bool, false, refl, inl, inr, arith}
use Rattle.std.proofs.lemmas.Bool.{cases_Bool, both_ways}
use Rattle.graph.proofs.Counts.{count_most}
use Rattle.flows.specs.Flow.{Digraph, Sound, Flow, Most, residual, residual_side, pushed, MostExists}
use Rattle.flows.proofs.Routes.{reached_route}
use Rattle.flows.proofs.Push.{push_adds_one_lem}

module _ (d : Digraph) (s t : ℕ) (sound : Sound d) (hs : s < d.nodes) (st : s ≡ t → ⊥) where
  -- A flow has no more out of s than there are nodes, so it is pushed at most so often.
  most_from : (k : ℕ) (f : ℕ → ℕ → Bool) (v : ℕ) → Flow d s t f v → d.nodes < v + k → Most d s t
  most_from zero f v fl h = absurd (omega (arith, fl.value, count_most (λ q. f s q) d.nodes))
  most_from (suc k) f v fl h =
      elim (cases_Bool (residual_side d f s t)) [
        | inl e ↦
            (let w = reached_route d.nodes (residual d f) s hs t e in
            most_from k (pushed f w.0) (v + 1) (push_adds_one_lem d s t f v w.0 sound fl hs st w.1) (omega arith))
        | inr e ↦ record { flow = f; value = v; flows = fl; stuck = e }
      ]

  -- No arcs at all are a flow of value 0.
  flow_empty : Flow d s t (λ _ _. false) 0
  flow_empty = record { along = λ _ _ e. absurd (both_ways false refl e); oneway = λ _ _ _. refl; kept = λ _ _ _ _. refl; value = omega arith }

pub most_exists_lem : MostExists
most_exists_lem d s t sound hs st = most_from d s t sound hs st (d.nodes + 1) (λ _ _. false) 0 (flow_empty d s t sound hs st) (omega arith)
