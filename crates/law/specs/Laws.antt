-- What follows from right replies alone: statements; src/lib.rt carries their proofs.
--
--   RightGoesTogether   what was right at two moments goes together
--   OneMore             one right reply more keeps a session sound
--   NotBegun            a session begins before its make, with no event
--   Begun               an accepted make alone is a sound session
use Rattle.std.specs.Prelude.{◌≡◌, ℕ, List, ◌++◌, [], ◌∷◌, Ok}
use Rattle.model.specs.declared.call.Call.{Call}
use Rattle.model.specs.declared.call.Call.TheVariants.{Make}
use Rattle.model.specs.declared.call.Answer.TheVariants.{Made}
use Rattle.model.specs.Model.{Lent, State, unmade, made, blank}
use Rattle.model.specs.Table.{reply}
use Rattle.model.specs.After.{after}
use Rattle.law.specs.Told.{Said, plain}
use Rattle.law.specs.Law.{Event, event, Right, AllRight, AcrossMoments, Sound}

-- What was right at two moments goes together.
abbrev pub RightGoesTogether : Type 0
RightGoesTogether = (events : List Event) → AllRight unmade events → AcrossMoments events

-- One right reply more keeps a session sound.
abbrev pub OneMore : Type 0
OneMore =
    (events : List Event) (s s' : State) (lent : Lent) (c : Call) (r : Said)
    → Sound events s → Right lent s c r → s' ≡ after lent s c → Sound (events ++ (event lent c r ∷ [])) s'

-- Before any call nothing is made.
abbrev pub NotBegun : Type 0
NotBegun = Sound [] unmade

-- A make that was accepted is a sound session of one event.
abbrev pub Begun : Type 0
Begun =
    (lent : Lent) (n : ℕ)
    → reply lent unmade (Make n) ≡ Ok tt
    → Sound (event lent (Make n) (Ok (plain Made)) ∷ []) (made (blank n (lent.room.capacity n)))
