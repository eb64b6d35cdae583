-- One call more, as to what the memory under a session's store holds.
use Rattle.std.proofs.Common.{◌≡◌, ℕ, List, [], ◌∷◌, ◌++◌, Result, refl, sym, ap, ◌∙◌, subst}
use Rattle.graph.specs.Graph.{Graph}
use Rattle.model.specs.Model.{State, unmade}
use Rattle.model.specs.After.{after}
use Rattle.law.specs.Law.{Event, after_all, Sound}
use Rattle.session.specs.declared.planner.Planner.{Planner}
use Rattle.session.specs.Held.{held_next, held_through, Holds}

module _ (fresh : ℕ → List ℕ) (laid taken : Graph → List ℕ → ℕ → ℕ → List ℕ) where
  -- What it holds after one event more.
  held_push : (s : State) (es : List Event) (e : Event) (xs : List ℕ)
      → held_through fresh laid taken s (es ++ (e ∷ [])) xs ≡ held_next fresh laid taken e.lent (after_all s es) e.call (held_through fresh laid taken s es xs)
  unfolding held_through after_all
  held_push s [] e xs = refl
  held_push s (x ∷ es) e xs = held_push (after x.lent s x.call) es e (held_next fresh laid taken x.lent s x.call xs)

  -- So it is with a call more of a sound session.
  pub held_more : {S M : Type 0} (held : S → List ℕ) (next : Result (Planner S) M) (s : State) (es : List Event) (e : Event) (xs : List ℕ)
      → Sound es s → Holds held next (held_next fresh laid taken e.lent s e.call (held_through fresh laid taken unmade es xs))
      → Holds held next (held_through fresh laid taken unmade (es ++ (e ∷ [])) xs)
  held_more held next s es e xs sound one =
      let so_far = held_through fresh laid taken unmade es xs in
      let pushed = held_push unmade es e xs ∙ ap (λ (t : State). held_next fresh laid taken e.lent t e.call so_far) sound.stands in
      subst (λ (ys : List ℕ). Holds held next ys) (sym pushed) one
