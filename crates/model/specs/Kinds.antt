-- Kinds of calls. A new kind is a constructor here, a line of `is_kind`, and, where it edits the map, an
-- entry of `edits`; where it names two vertices, an entry of `pair_kinds` and a line of `ends`.
--
--   Kind, is_kind    a kind of calls; whether a call is of it
--   is_of            whether a call is of one of some kinds
--   is_make          whether a call asks for a map
--   edits, is_edit   the kinds that change the map; whether a call is of one of them
--   is_question      whether it is neither: it is answered from the map, and changes nothing of it
--   ends             the two vertices that a call names
--   pair_kinds       the kinds that name two
use Rattle.std.specs.Prelude.{ℕ, Bool, true, false, not, ◌||◌, List, [], ◌∷◌}
use Rattle.model.specs.declared.call.Call.{Call}
use Rattle.model.specs.declared.call.Call.TheVariants.{Make, Join, Part, Strike, Lift}

pub data Kind : Type 0 where
  make : Kind
  join : Kind
  part : Kind
  strike : Kind
  lift : Kind

-- Whether a call is of a kind.
abbrev pub is_kind : Kind → Call → Bool
is_kind make (Make n) = true
is_kind join (Join u v) = true
is_kind part (Part u v) = true
is_kind strike (Strike u v) = true
is_kind lift (Lift u v) = true
is_kind k c = false

-- Whether a call is of one of some kinds.
abbrev pub is_of : List Kind → Call → Bool
is_of [] c = false
is_of (k ∷ ks) c = is_kind k c || is_of ks c

-- Whether a call asks for a map.
abbrev pub is_make : Call → Bool
is_make c = is_kind make c

-- The kinds of calls that change the map.
abbrev pub edits : List Kind
edits = join ∷ part ∷ strike ∷ lift ∷ []

-- Whether a call is to change the map.
abbrev pub is_edit : Call → Bool
is_edit c = is_of edits c

-- Every other call is a question about the map.
abbrev pub is_question : Call → Bool
is_question c = not (is_make c || is_edit c)

-- The two vertices that a call names; 0 and 0 for one that names none.
abbrev pub ends : Call → ℕ × ℕ
ends (Join u v) = (u, v)
ends (Part u v) = (u, v)
ends (Strike u v) = (u, v)
ends (Lift u v) = (u, v)
ends c = (0, 0)

-- The kinds of calls that name two vertices.
abbrev pub pair_kinds : List Kind
pair_kinds = edits
