-- The law of a session: after every list of calls, accepted or refused, the state is the reference
-- model's, each call was answered or refused rightly at its moment, and what questions told at two
-- moments goes together. The model is fed calls and what was lent with them, never a reply.
--
--   subject_of         the graph that questions are about
--   Right              a reply is the model's refusal, or what an accepted call rightly tells
--   Event, event       a call with what was lent with it, and what it said
--   after_all          the state after the events' calls
--   AllRight           each reply was right at its moment
--   edited             an edit was accepted
--   AcrossMoments      what two questions told before an edit came between goes together
--   Sound              events that led to a state
use Rattle.std.specs.Prelude.{◌≡◌, Bool, true, false, ◌&&◌, List, [], ◌∷◌, ◌++◌, All, is_ok, Ok, Err}
use Rattle.graph.specs.Graph.{Graph, empty}
use Rattle.model.specs.declared.call.Call.{Call}
use Rattle.model.specs.Kinds.{is_edit, is_question}
use Rattle.model.specs.Model.{Lent, State, unmade, made, subject}
use Rattle.model.specs.Table.{reply}
use Rattle.model.specs.After.{after}
use Rattle.law.specs.Told.{Told, Said}
use Rattle.law.specs.Right.{right, Agree}

-- The graph that questions are about; before an accepted make it has no vertex.
abbrev pub subject_of : State → Graph
subject_of unmade = empty 0
subject_of (made m) = subject m

-- A refusal is the model's, and an accepted call tells what is right.
abbrev pub Right : Lent → State → Call → Said → Type 0
Right lent s c (Ok t) = (reply lent s c ≡ Ok tt) × right (subject_of s) c t
Right lent s c (Err r) = reply lent s c ≡ Err r

-- A call, what was lent with it, and what it said.
pub record Event : Type 0 where
  pub lent : Lent
  pub call : Call
  pub said : Said

abbrev pub event : Lent → Call → Said → Event
event lent call said = record { lent = lent; call = call; said = said }

-- The state after the events' calls, from a state.
unfoldable pub after_all : State → List Event → State
after_all s [] = s
after_all s (e ∷ es) = after_all (after e.lent s e.call) es

-- Each reply was right at its moment.
unfoldable pub AllRight : State → List Event → Type 0
AllRight s [] = Unit {0}
AllRight s (e ∷ es) = Right e.lent s e.call e.said × AllRight (after e.lent s e.call) es

-- An edit was accepted.
abbrev pub edited : Event → Bool
edited e = is_edit e.call && is_ok e.said

-- What any two questions told between which no edit was accepted goes together.
abbrev pub AcrossMoments : List Event → Type 0
AcrossMoments events =
    (before between later : List Event) (e f : Event) (w t : Told)
    → events ≡ before ++ (e ∷ (between ++ (f ∷ later)))
    → All (λ x. edited x ≡ false) between
    → is_question e.call ≡ true → is_question f.call ≡ true
    → e.said ≡ Ok w → f.said ≡ Ok t
    → Agree e.call w f.call t

-- A session of these events, from before its make, has come to this state.
pub record Sound (events : List Event) (s : State) : Type 0 where
  -- The state is the model's.
  pub stands : after_all unmade events ≡ s
  -- The calls refused are those that the model refuses, by the same numbers; the others tell what is right.
  pub replies : AllRight unmade events
  -- What was told at two moments goes together.
  pub across : AcrossMoments events
