-- How far an input is answered.
--
--   left       the lines that are left
--   Takes      the first of them is taken, with its number; or none is left
--   reply_in   a reply, with its lists as they stand in the buffers
--   as_call    what a call was answered, as the reply to its line
--   SoFar      the lines that were taken are answered
use Rattle.std.specs.Prelude.{◌≡◌, ℕ, ◌+◌, [], ◌∷◌, Some, None, Option, List, ◌++◌, length, Ok, Err, Result}
use Rattle.model.specs.declared.call.Answer.{Answer}
use Rattle.model.specs.declared.refusal.Refusal.{Refusal}
use Rattle.model.specs.Model.{Lent, State}
use Rattle.workspace.specs.Buffers.{Buffers}
use Rattle.law.specs.Told.{told}
use Rattle.law.specs.Law.{Event}
use Rattle.frames.specs.declared.fault.SessionFault.TheVariants as fault
use Rattle.frames.specs.Text.{Reported}
use Rattle.serve.specs.declared.lines.Line.{Line}
use Rattle.serve.specs.declared.lines.Lines.{Lines}
use Rattle.serve.specs.Lines.{lines}
use Rattle.serve.specs.Served.{Reply, Dialogue, session_text}

-- The lines that are left.
abbrev pub left : Lines → List (List ℕ)
left ls = lines ls.rest.now

-- The first line that is left comes out, with the next number; or none is left.
abbrev pub Takes : Lines → Option Line → Lines → Type 0
Takes before None after = (left before ≡ []) × (after ≡ before)
Takes before (Some l) after = (left before ≡ l.text.now ∷ left after) × (l.number ≡ before.taken + 1) × (after.taken ≡ before.taken + 1)

-- A reply, with its lists as they stand in the buffers.
abbrev pub reply_in : Reported → Buffers → Reply
reply_in (Ok a) b = Ok (told a b)
reply_in (Err f) b = Err f

-- What a call was answered, as the reply to its line.
abbrev pub as_call : Result Answer Refusal → Reported
as_call (Ok a) = Ok a
as_call (Err r) = Err (fault.Call r)

-- The lines that were taken are answered, and their text is written.
pub record SoFar (lent : Lent) (input : List ℕ) (ls : Lines) (holds : List Event → Type 0) (state : State)
    (old new : Buffers) (before written : List ℕ) : Type 0 where
  pub asked : List (List ℕ)
  pub in_order : lines input ≡ asked ++ left ls
  pub counted : ls.taken ≡ length asked
  pub replies : List Reply
  pub answered : Dialogue lent asked replies holds state old new
  pub text : written ≡ before ++ session_text 1 replies
