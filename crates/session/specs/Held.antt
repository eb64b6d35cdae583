-- What the memory under a session's store holds. `fresh`, `laid` and `taken` say what such memory holds
-- after a make of so many vertices, with an edge laid, and with one taken up.
--
--   held_next       what it holds after a call
--   held_through    after the calls of events
--   Holds           what it holds, once a session has come to a planner
--   HoldsAfter      it holds what the calls of events leave there
--   HoldsChanged    what it held before a step of a session, it holds after it, with that change
use Rattle.std.specs.Prelude.{◌≡◌, ℕ, List, [], ◌∷◌, Result, IfOk}
use Rattle.graph.specs.Graph.{Graph}
use Rattle.model.specs.declared.call.Call.{Call}
use Rattle.model.specs.declared.call.Call.TheVariants.{Make}
use Rattle.model.specs.Model.{Lent, State, unmade, made}
use Rattle.model.specs.Table.{reply}
use Rattle.model.specs.After.{after}
use Rattle.law.specs.Law.{Event}
use Rattle.store.specs.Change.{held_after}
use Rattle.strike.specs.Kept.{memory_after}
use Rattle.session.specs.declared.planner.Planner.{Planner}
use Rattle.session.specs.Kept.{held_of}

-- What the memory holds after a call: an accepted make leaves a map with no edge, a call on a map that
-- stands what it leaves there, and every other call what was there.
abbrev pub held_next : (fresh : ℕ → List ℕ) (laid taken : Graph → List ℕ → ℕ → ℕ → List ℕ) → Lent → State → Call → List ℕ → List ℕ
held_next fresh laid taken lent unmade (Make n) held = held_after (reply lent unmade (Make n)) (fresh n) held
held_next fresh laid taken lent unmade c held = held
held_next fresh laid taken lent (made m) c held = memory_after laid taken m c held

-- What it holds after the calls of events, from a state.
unfoldable pub held_through : (fresh : ℕ → List ℕ) (laid taken : Graph → List ℕ → ℕ → ℕ → List ℕ) → State → List Event → List ℕ → List ℕ
held_through fresh laid taken s [] held = held
held_through fresh laid taken s (e ∷ es) held =
    held_through fresh laid taken (after e.lent s e.call) es (held_next fresh laid taken e.lent s e.call held)

-- Once a session has come to a planner, the memory under its store holds such a list, where `held` says what
-- the memory of a store holds. Nothing is said of memory that waits for a make.
abbrev pub Holds : {S M : Type 0} → (S → List ℕ) → Result (Planner S) M → List ℕ → Type 0
Holds held session xs = IfOk session (λ p. held_of held p ≡ xs)

-- From memory that waited for a make, a session of these events has come to what they leave in it.
abbrev pub HoldsAfter : {S M : Type 0} → (S → List ℕ) → (fresh : ℕ → List ℕ) (laid taken : Graph → List ℕ → ℕ → ℕ → List ℕ)
    → Result (Planner S) M → List Event → Type 0
HoldsAfter held fresh laid taken session events = Holds held session (held_through fresh laid taken unmade events [])

-- What the memory held before a step of a session, it holds after it, with that change.
abbrev pub HoldsChanged : {S M : Type 0} → (S → List ℕ) → Result (Planner S) M → Result (Planner S) M → (List ℕ → List ℕ) → Type 0
HoldsChanged held session next change = (xs : List ℕ) → Holds held session xs → Holds held next (change xs)
