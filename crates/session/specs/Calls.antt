-- A call on a workspace, as an event of the law, and a make.
--
--   lent_at        memory for a map, and a workspace, as they are lent
--   said_in        what was said, with what stands in the buffers
--   AcceptedMake   a make that was accepted, and its model
--   Opened         with the session that it begins
use Rattle.std.specs.Prelude.{◌≡◌, ℕ, [], ◌∷◌, Ok, Result}
use Rattle.model.specs.declared.call.Answer.{Answer}
use Rattle.model.specs.declared.call.Answer.TheVariants as answer
use Rattle.model.specs.declared.call.Call.TheVariants.{Make}
use Rattle.model.specs.declared.refusal.Refusal.{Refusal}
use Rattle.model.specs.Model.{Model, Room, Lent, lent_of, unmade, made, blank}
use Rattle.model.specs.Table.{alone, reply}
use Rattle.workspace.specs.declared.Workspace.{Workspace}
use Rattle.workspace.specs.Parts.{buffers, sizes_of}
use Rattle.law.specs.Told.{Said, plain, said}
use Rattle.law.specs.Law.{event, Sound}

abbrev pub lent_at : Room → Workspace → Lent
lent_at room w = lent_of room (sizes_of w)

abbrev pub said_in : Result Answer Refusal → Workspace → Said
said_in r w = said r (buffers w)

-- A make of n vertices was accepted over memory with that room, and the model has no edge.
abbrev pub AcceptedMake : Room → ℕ → Model → Type 0
AcceptedMake room n m = (reply (alone room) unmade (Make n) ≡ Ok tt) × (m ≡ blank n (room.capacity n))

-- With it, a sound session of this one event has begun.
abbrev pub Opened : Room → ℕ → Model → Type 0
Opened room n m = AcceptedMake room n m × Sound (event (alone room) (Make n) (Ok (plain answer.Made)) ∷ []) (made m)
