-- How the lowest neighbour on the other side of a set is come to, by leaps: a scan for such neighbours
-- of p has come to v.
--
--   as_now      a neighbour, by the map as it is now
--   no_more     there is no more neighbour
--   found       the next neighbour is on the other side
--   to_other    it is not: up to the next number on the other side
--   none_other  there is none
use Rattle.std.proofs.Common.{◌≡◌, ℕ, ◌+◌, Bool, true, false, Some, None, sym, ap, ◌∙◌, arith}
use Rattle.std.proofs.lemmas.Bool.{and_from, and_left, and_right}
use Rattle.graph.specs.Graph.{Graph, next}
use Rattle.graph.proofs.Firsts.{Found, first_some, first_all}
use Rattle.graph.proofs.Leaps.{Scan, reach, hit, on, none}
use Rattle.plan.specs.Writing.{apart, next_other, next_across}
use Rattle.plan.proofs.Cuts.{across}

module _ (g : Graph) (u : ℕ → Bool) (p : ℕ) where
  -- What is no neighbour is none on the other side.
  only_joined : (k : ℕ) → g.joined p k ≡ false → across g u p k ≡ false
  only_joined k h = and_left (g.joined p k) (apart u p k) h

  -- What is on the same side is none either.
  only_apart : (k : ℕ) → apart u p k ≡ false → across g u p k ≡ false
  only_apart k h = and_right (g.joined p k) (apart u p k) h

  -- The next neighbour of p, by the map as it is now.
  pub as_now : {h : Graph} {v q : ℕ} → h ≡ g → Some q ≡ next h p v → Found (g.joined p) v g.order q
  as_now {v = v} {q = q} same e = first_some (g.joined p) v g.order q (sym (e ∙ ap (λ (k : Graph). next k p v) same))

  module _ {w v : ℕ} (s : Scan (across g u p) w v) where
    -- There is none.
    pub no_more : {h : Graph} → h ≡ g → None ≡ next h p v → None ≡ next_across g u p w
    no_more same e = none s only_joined (omega arith) (first_all (g.joined p) v g.order (sym (e ∙ ap (λ (k : Graph). next k p v) same)))

    module _ {q : ℕ} (f : Found (g.joined p) v g.order q) {r : Bool} (told : r ≡ apart u p q) where
      -- It is on the other side.
      pub found : r ≡ true → Some q ≡ next_across g u p w
      found h = hit s only_joined f f.below (and_from (g.joined p q) (apart u p q) f.here (sym told ∙ h))

      -- It is not: all behind it is passed that is on the same side.
      module _ (h : r ≡ false) (n : ℕ) where
        -- Behind it.
        behind : Scan (across g u p) w (q + 1)
        behind = on s only_joined f (only_apart q (sym told ∙ h))

        -- To the next number on the other side.
        pub to_other : {e : ℕ} → Some e ≡ next_other u p (q + 1) n → Scan (across g u p) w e
        to_other {e} o = reach behind only_apart (first_some (apart u p) (q + 1) n e (sym o))

        -- There is none.
        pub none_other : n ≡ g.order → None ≡ next_other u p (q + 1) n → None ≡ next_across g u p w
        none_other order o = none behind only_apart (omega (arith, order)) (first_all (apart u p) (q + 1) n (sym o))
