-- What comes of a whole input: a reply to each line, a session of the calls that the lines ask for, and the
-- text of the replies.
--
--   Reply, reported        what is replied to a line; the same without its lists, as it is written
--   IsReplyTo, Exactly     a call has its answer or refusal, any other line its fault; a reply tells its lists
--   Replied                each line has its reply
--   events_at, events_of   the call that a line asks for, with what was said to it; those of some lines
--   left_after             the buffers after some events
--   Dialogue               lines, their replies, and the session that they are
--   session_text           the text of the replies, a line each, lines counted from 1
--   SessionText            a whole input, answered
--   BrokenOff              a front part of its lines, answered, and of their text, written
--   Served, Broken         what comes of an input of any length, with all of the text and without memory for it
use Rattle.std.specs.Prelude.{◌≡◌, ℕ, suc, ◌*◌, List, [], ◌∷◌, ◌++◌, length, Ok, Err, MatchBool, Result, nat_lt}
use Rattle.std.specs.List.{AllZip}
use Rattle.model.specs.declared.call.Call.{Call}
use Rattle.model.specs.declared.refusal.Refusal.TheVariants.{ShortMemory}
use Rattle.model.specs.Model.{Lent, State, unmade}
use Rattle.cuts.specs.RouteBytes.{bytes_of}
use Rattle.workspace.specs.Buffers.{Buffers}
use Rattle.law.specs.Told.{Told, told, left_by}
use Rattle.law.specs.Law.{Event, event, Sound}
use Rattle.frames.specs.declared.fault.FrameFault.{FrameFault}
use Rattle.frames.specs.declared.fault.SessionFault.{SessionFault}
use Rattle.frames.specs.declared.fault.SessionFault.TheVariants as fault
use Rattle.frames.specs.Frames.{request}
use Rattle.frames.specs.Text.{Reported, reply_text, FrontPut}
use Rattle.serve.specs.Lines.{lines}

-- The most bytes of input that are read as lines.
abbrev pub input_limit : ℕ
input_limit = 32768

-- What a call told, or the fault that the line met.
abbrev pub Reply : Type 0
Reply = Result Told SessionFault

-- A reply as it is written.
abbrev pub reported : Reply → Reported
reported (Ok t) = Ok t.answer
reported (Err f) = Err f

-- A call is told of or refused as a call; a line that asks for none is refused with its fault.
abbrev pub IsReplyTo : Result Call FrameFault → Reply → Type 0
IsReplyTo (Ok c) (Ok t) = Unit {0}
IsReplyTo (Ok c) (Err (fault.Call r)) = Unit {0}
IsReplyTo (Ok c) (Err (fault.Frame f)) = ⊥
IsReplyTo (Err f) r = r ≡ Err (fault.Frame f)

-- The lists of a reply, as they stand in buffers.
abbrev pub lists_of : Told → Buffers
lists_of t = record { edges = t.edges; vertices = t.vertices; runs = t.runs; routes = bytes_of t.routes }

-- A reply tells the lists that its answer has, and no others.
abbrev pub Exactly : Reply → Type 0
Exactly (Ok t) = t ≡ told t.answer (lists_of t)
Exactly (Err f) = Unit {0}

-- Each line has its reply.
abbrev pub Replied : List (List ℕ) → List Reply → Type 0
Replied ls rs = AllZip (λ line r. IsReplyTo (request line) r × Exactly r) ls rs

-- A call and what was said to it; a line that asks for none is no event.
abbrev pub events_at : Lent → Result Call FrameFault → Reply → List Event
events_at lent (Ok c) (Ok t) = event lent c (Ok t) ∷ []
events_at lent (Ok c) (Err (fault.Call r)) = event lent c (Err r) ∷ []
events_at lent (Ok c) (Err (fault.Frame f)) = []
events_at lent (Err f) r = []

-- Those of some lines, in order.
unfoldable pub events_of : Lent → List (List ℕ) → List Reply → List Event
events_of lent [] rs = []
events_of lent (l ∷ ls) [] = []
events_of lent (line ∷ ls) (r ∷ rs) = events_at lent (request line) r ++ events_of lent ls rs

-- What the events told stands in front in the buffers, each after those before it, and all else is as it was.
unfoldable pub left_after : List Event → Buffers → Buffers
left_after [] b = b
left_after (e ∷ es) b = left_after es (left_by e.said b)

-- Lines and their replies: the calls that the lines ask for are a session that has come to this state, the
-- memory under its store holds what `holds` says of them, and what they told is what is left in the buffers.
pub record Dialogue (lent : Lent) (asked : List (List ℕ)) (replies : List Reply) (holds : List Event → Type 0)
    (state : State) (old new : Buffers) : Type 0 where
  pub replied : Replied asked replies
  pub sound : Sound (events_of lent asked replies) state
  pub held : holds (events_of lent asked replies)
  pub left : new ≡ left_after (events_of lent asked replies) old

-- The text of replies, one after another, the first to the line of this number.
unfoldable pub session_text : ℕ → List Reply → List ℕ
session_text line [] = []
session_text line (r ∷ rs) = reply_text line (reported r) ++ session_text (suc line) rs

-- A whole input is answered: there is a reply to each line, and their text is put behind what was written.
pub record SessionText (lent : Lent) (input : List ℕ) (holds : List Event → Type 0) (state : State)
    (old new : Buffers) (before written : List ℕ) : Type 0 where
  pub replies : List Reply
  pub answered : Dialogue lent (lines input) replies holds state old new
  pub text : written ≡ before ++ session_text 1 replies

-- A front part of the lines is answered, the last of them with a reply whose text finds no memory: the replies
-- before it are written whole, and a front part of its own text behind them.
pub record BrokenOff (lent : Lent) (input : List ℕ) (holds : List Event → Type 0) (state : State)
    (old new : Buffers) (before written : List ℕ) : Type 0 where
  pub asked : List (List ℕ)
  pub unasked : List (List ℕ)
  pub in_order : lines input ≡ asked ++ unasked
  pub whole : List Reply
  pub last : Reply
  pub answered : Dialogue lent asked (whole ++ (last ∷ [])) holds state old new
  pub text : FrontPut (before ++ session_text 1 whole) (reply_text (suc (length whole)) (reported last)) written

-- Input that is too long gets one refusal of the call layer, of no line.
abbrev pub too_long : List ℕ
too_long = reply_text 0 (Err (fault.Call ShortMemory))

-- What comes of an input, with what is lent to its calls: what the memory under the store holds, the state
-- that the session has come to, what is left in the buffers, and the text put behind what was written before.
-- Input that is too long is no session.
abbrev pub Served : Lent → List ℕ → (List Event → Type 0) → State → Buffers → Buffers → List ℕ → List ℕ → Type 0
Served lent input holds state old new before written =
    MatchBool (nat_lt input_limit (length input))
    ((written ≡ before ++ too_long) × (state ≡ unmade) × (new ≡ old))
    (SessionText lent input holds state old new before written)

-- The same where the text finds no memory. Of input that is too long, no line is asked.
abbrev pub Broken : Lent → List ℕ → (List Event → Type 0) → State → Buffers → Buffers → List ℕ → List ℕ → Type 0
Broken lent input holds state old new before written =
    MatchBool (nat_lt input_limit (length input))
    (FrontPut before too_long written × (state ≡ unmade) × (new ≡ old))
    (BrokenOff lent input holds state old new before written)

-- The text of a reply takes no more bytes.
abbrev pub reply_limit : ℕ
reply_limit = 15

-- Room enough for the text of an input's replies.
abbrev pub text_limit : List ℕ → ℕ
text_limit input = reply_limit * length (lines input)
