-- Replies as text: bytes in capital hexadecimal, one reply a line.
use Rattle.std.specs.Prelude.{◌≡◌, ℕ, ◌+◌, ◌/◌, ◌%◌, cond, List, [], ◌∷◌, ◌++◌, take, Ok, Err, Result, nat_lt}
use Rattle.std.specs.List.{flat_map}
use Rattle.model.specs.declared.call.Answer.{Answer}
use Rattle.model.specs.Numbers.{answer_number, refusal_number}
use Rattle.frames.specs.declared.fault.SessionFault.{SessionFault}
use Rattle.frames.specs.Faults.{layer_number, fault_layer, fault_refusal, fault_detail}

-- The character of a digit: 0 to 9, then A to F.
abbrev pub capital : ℕ → ℕ
capital d = cond (nat_lt d 10) (48 + d) (55 + d)

abbrev pub hex_byte : ℕ → List ℕ
hex_byte b = capital (b / 16) ∷ (capital (b % 16) ∷ [])

-- The bytes of a text, one after the other.
abbrev pub hex_text : List ℕ → List ℕ
hex_text bytes = flat_map hex_byte bytes

-- A number in two bytes, the high one first.
abbrev pub two_bytes : ℕ → List ℕ
two_bytes x = (x / 256 % 256) ∷ ((x % 256) ∷ [])

-- What a line of input is answered: an answer, or the fault that it met.
abbrev pub Reported : Type 0
Reported = Result Answer SessionFault

-- An answer is its number. A refusal is FF, its number, the layer of its fault, the line of
-- input, and where the digits are wrong.
abbrev pub reply_bytes : ℕ → Reported → List ℕ
reply_bytes line (Ok a) = answer_number a ∷ []
reply_bytes line (Err f) =
    0xFF ∷ (refusal_number (fault_refusal f) ∷ (layer_number (fault_layer f) ∷ (two_bytes line ++ two_bytes (fault_detail f))))

-- The text of a reply, with its line end.
abbrev pub reply_text : ℕ → Reported → List ℕ
reply_text line r = hex_text (reply_bytes line r) ++ (10 ∷ [])

-- What was written before stands, and a front part of a text is put behind it: none of it, some, or all.
pub record FrontPut (before text after : List ℕ) : Type 0 where
  pub upto : ℕ
  pub is : after ≡ before ++ take upto text
