-- Frames: a kind, and a payload whose length goes by the kind.
--
--   kind_number, kind_of   the number of a kind; the kind of a number, if one has it
--   payload_length         how many bytes a kind takes
--   kind_read, call_read   the kind that bytes begin with; the call that a payload gives
--   Opened, frame_read     a line as a frame: its kind, and its payload as a stretch of the line
--   request                what a line asks for
use Rattle.std.specs.Prelude.{ℕ, cond, List, [], ◌∷◌, length, drop, Some, None, Ok, Err, Option, Result, ◌==◌, slice_index}
use Rattle.model.specs.declared.call.Call.{Call}
use Rattle.model.specs.declared.call.Call.TheVariants as call
use Rattle.frames.specs.declared.fault.DigitFault.{DigitFault}
use Rattle.frames.specs.declared.fault.FrameFault.{FrameFault}
use Rattle.frames.specs.declared.fault.FrameFault.TheVariants.{Digits, Empty, UnknownKind, WrongLength}
use Rattle.frames.specs.declared.kind.Kind.{Kind}
use Rattle.frames.specs.declared.kind.Kind.TheVariants.{Make, Join, Part, Strike, Lift}
use Rattle.frames.specs.Hex.{bytes_of, digits_reply}

abbrev pub kind_number : Kind → ℕ
kind_number Make = 0x01
kind_number Join = 0x02
kind_number Part = 0x03
kind_number Strike = 0x04
kind_number Lift = 0x05

-- The kinds that are served; any other number is an unknown kind.
abbrev pub kinds : List Kind
kinds = Make ∷ Join ∷ Part ∷ Strike ∷ Lift ∷ []

abbrev pub kind_among : List Kind → ℕ → Option Kind
kind_among [] b = None
kind_among (k ∷ ks) b = cond (b == kind_number k) (Some k) (kind_among ks b)

abbrev pub kind_of : ℕ → Option Kind
kind_of b = kind_among kinds b

-- A make has the order, the others have two vertices.
abbrev pub payload_length : Kind → ℕ
payload_length Make = 1
payload_length Join = 2
payload_length Part = 2
payload_length Strike = 2
payload_length Lift = 2

abbrev pub known : Option Kind → Result Kind FrameFault
known None = Err UnknownKind
known (Some k) = Ok k

-- The kind of a frame of these bytes.
abbrev pub kind_read : List ℕ → Result Kind FrameFault
kind_read bytes = cond (length bytes == 0) (Err Empty) (known (kind_of (slice_index bytes 0)))

abbrev pub call_with : Kind → List ℕ → Call
call_with Make p = call.Make (slice_index p 0)
call_with Join p = call.Join (slice_index p 0) (slice_index p 1)
call_with Part p = call.Part (slice_index p 0) (slice_index p 1)
call_with Strike p = call.Strike (slice_index p 0) (slice_index p 1)
call_with Lift p = call.Lift (slice_index p 0) (slice_index p 1)

-- The call of a kind with these bytes as its payload.
abbrev pub call_read : Kind → List ℕ → Result Call FrameFault
call_read k p = cond (length p == payload_length k) (Ok (call_with k p)) (Err WrongLength)

-- A frame in a line: the kind takes the first two characters, the payload is the stretch of
-- the line from there on.
pub record Opened : Type 0 where
  pub kind : Kind
  pub text : List ℕ
  pub place : ℕ

abbrev pub opened : Result Kind FrameFault → List ℕ → Result Opened FrameFault
opened (Ok k) line = Ok (record { kind = k; text = drop 2 line; place = 2 })
opened (Err f) line = Err f

abbrev pub if_digits : {X : Type 0} → Result (Unit {0}) DigitFault → Result X FrameFault → Result X FrameFault
if_digits (Ok _) r = r
if_digits (Err f) r = Err (Digits f)

abbrev pub frame_read : List ℕ → Result Opened FrameFault
frame_read line = if_digits (digits_reply line) (opened (kind_read (bytes_of line)) line)

abbrev pub called : Result Opened FrameFault → Result Call FrameFault
called (Ok o) = call_read o.kind (bytes_of o.text)
called (Err f) = Err f

-- What a line asks for, or what is wrong with it.
abbrev pub request : List ℕ → Result Call FrameFault
request line = called (frame_read line)
