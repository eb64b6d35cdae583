-- The table of refusals, and what a call is answered by it.
--
--   PairTest         a test of two vertices on a model
--   row              a row about a map that stands: the kinds of calls that it is about, and its test
--   fits             whether a refusal fits a call: a row for each refusal
--   checking_order   which rows are looked at first
--   reply            the first row that fits, or acceptance
--   alone, nothing   memory for a map and no workspace; neither
--   reply_on         what an edit of a map that stands is answered
use Rattle.std.specs.Prelude.{ℕ, Bool, false, cond, not, ◌&&◌, List, [], ◌∷◌, Ok, Err, Result, ◌==◌, nat_le, nat_lt}
use Rattle.graph.specs.Graph.{order_limit, edges_below}
use Rattle.model.specs.declared.call.Call.{Call}
use Rattle.model.specs.declared.call.Call.TheVariants.{Make, Strike}
use Rattle.model.specs.declared.refusal.Refusal.{Refusal}
use Rattle.model.specs.declared.refusal.Refusal.TheVariants.{BadOrder, ShortMemory, NoVertex, SameVertex, IsStruck, IsJoined, NotJoined, NotStruck, NoRoom, OneVertex, Adjacent, BadDigits, BadFrame, OutOfTurn}
use Rattle.model.specs.Kinds.{Kind, join, part, strike, lift, pair_kinds, is_of, is_make, is_question, ends}
use Rattle.model.specs.Sizes.{no_sizes, needed, below}
use Rattle.model.specs.Model.{Model, Room, Lent, State, unmade, made, in_force, subject, make_limit, strike_limit}

-- A test of a pair of vertices on a model.
abbrev pub PairTest : Type 0
PairTest = Model → ℕ → ℕ → Bool

abbrev pub outside : PairTest
outside m u v = not (nat_lt u m.order && nat_lt v m.order)

abbrev pub same : PairTest
same m u v = u == v

abbrev pub struck : PairTest
struck m u v = m.struck u v

abbrev pub unstruck : PairTest
unstruck m u v = not (m.struck u v)

abbrev pub joined : PairTest
joined m u v = (in_force m).joined u v

abbrev pub apart : PairTest
apart m u v = not ((in_force m).joined u v)

-- As many edges laid as the capacity.
abbrev pub at_capacity : PairTest
at_capacity m u v = nat_le m.capacity (edges_below m.order m.laid)

-- As many edges struck as may be.
abbrev pub all_struck : PairTest
all_struck m u v = nat_le strike_limit (edges_below order_limit m.struck)

-- No room is left for a call: for a strike among the struck edges, else among the laid ones.
abbrev pub full_for : Call → PairTest
full_for (Strike u v) = all_struck
full_for c = at_capacity

-- A row about calls on a map that stands: a call of one of its kinds passes its test.
abbrev pub row : List Kind → PairTest → State → Call → Bool
row kinds test unmade c = false
row kinds test (made m) c = is_of kinds c && test m (ends c).0 (ends c).1

abbrev pub bad_order : ℕ → Bool
bad_order n = not (nat_le 1 n && nat_le n make_limit)

-- A make of an order that no make accepts.
abbrev pub bad_make : Call → Bool
bad_make (Make n) = bad_order n
bad_make c = false

-- Less is lent than the call needs: to a make, of memory for its map; to a question, of a workspace.
abbrev pub short : Lent → State → Call → Bool
short lent unmade (Make n) = not (lent.room.enough n)
short lent unmade c = false
short lent (made m) c = is_question c && below lent.sizes (needed (subject m) c)

-- A call other than make before an accepted make, or a make after it.
abbrev pub out_of_turn : State → Call → Bool
out_of_turn unmade c = not (is_make c)
out_of_turn (made m) c = is_make c

-- The table. Rows with `false` belong to calls that are not there yet, or to the reading of frames.
abbrev pub fits : Lent → State → Call → Refusal → Bool
fits lent s c BadOrder = bad_make c
fits lent s c ShortMemory = short lent s c
fits lent s c NoVertex = row pair_kinds outside s c
fits lent s c SameVertex = row pair_kinds same s c
fits lent s c IsStruck = row (join ∷ part ∷ strike ∷ []) struck s c
fits lent s c IsJoined = row (join ∷ []) joined s c
fits lent s c NotJoined = row (part ∷ strike ∷ []) apart s c
fits lent s c NotStruck = row (lift ∷ []) unstruck s c
fits lent s c NoRoom = row (join ∷ strike ∷ []) (full_for c) s c
fits lent s c OneVertex = false
fits lent s c Adjacent = false
fits lent s c BadDigits = false
fits lent s c BadFrame = false
fits lent s c OutOfTurn = out_of_turn s c

-- The order in which the rows are looked at.
abbrev pub checking_order : List Refusal
checking_order =
    BadOrder ∷ ShortMemory ∷ NoVertex ∷ SameVertex ∷ IsStruck ∷ IsJoined ∷ NotJoined ∷ NotStruck ∷ NoRoom
    ∷ OneVertex ∷ Adjacent ∷ BadDigits ∷ BadFrame ∷ OutOfTurn ∷ []

-- Accepted, or refused for that reason.
abbrev pub Reply : Type 0
Reply = Result (Unit {0}) Refusal

abbrev pub first_fitting : (Refusal → Bool) → List Refusal → Reply
first_fitting p [] = Ok tt
first_fitting p (r ∷ rs) = cond (p r) (Err r) (first_fitting p rs)

abbrev pub reply : Lent → State → Call → Reply
reply lent s c = first_fitting (fits lent s c) checking_order

-- Memory for a map, and no workspace.
abbrev pub alone : Room → Lent
alone room = record { room = room; sizes = no_sizes }

-- Neither: no make is open to a map that stands, and no question to an empty workspace.
abbrev pub nothing : Lent
nothing = alone (record { enough = λ n. false; capacity = λ n. 0 })

-- What an edit of a map that stands is answered.
abbrev pub reply_on : Model → Call → Reply
reply_on m c = reply nothing (made m) c
