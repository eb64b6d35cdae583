-- A script: calls with the workspace that is lent to each and its reply, before and after it was played.
--
--   event_of      a call, as it was asked, and what it said
--   events_of     the calls of a script as events of the law
--   Answered      a call as it was asked, and as it is left
--   WrittenOnly   so it is with every call of a script
use Rattle.std.specs.Prelude.{◌≡◌, false, List, [], ◌∷◌, is_ok}
use Rattle.std.specs.List.{AllZip}
use Rattle.model.specs.Kinds.{is_question}
use Rattle.model.specs.Model.{Room}
use Rattle.workspace.specs.Parts.{buffers, sizes_of, SameMemory, Untouched}
use Rattle.law.specs.Told.{left_by}
use Rattle.law.specs.Law.{Event, event}
use Rattle.session.specs.Calls.{lent_at, said_in}
use Rattle.session.specs.declared.script.Asked.{Asked}

-- A call as it was asked, with what was lent, and what it said.
abbrev pub event_of : Room → Asked → Asked → Event
event_of room a b = event (lent_at room a.workspace) a.call (said_in b.reply b.workspace)

-- So with each call of a script.
abbrev pub events_of : Room → List Asked → List Asked → List Event
events_of room [] new = []
events_of room (a ∷ old) [] = []
events_of room (a ∷ old) (b ∷ new) = event_of room a b ∷ events_of room old new

-- A call as it was asked, and as it is left.
pub record Answered (a b : Asked) : Type 0 where
  pub call : b.call ≡ a.call
  -- The same memory is still lent, as much as it was.
  pub memory : SameMemory a.workspace b.workspace
  pub sizes : sizes_of b.workspace ≡ sizes_of a.workspace
  -- What was told stands in front in the buffers, and all else in them is as it was.
  pub written : buffers b.workspace ≡ left_by (said_in b.reply b.workspace) (buffers a.workspace)
  -- A make and an edit write nothing at all, nor does a refused call.
  pub edit : is_question a.call ≡ false → Untouched a.workspace b.workspace
  pub refused : is_ok b.reply ≡ false → Untouched a.workspace b.workspace

-- Every call of a script stands as it was asked, and no more is written than it told.
abbrev pub WrittenOnly : List Asked → List Asked → Type 0
WrittenOnly old new = AllZip Answered old new
