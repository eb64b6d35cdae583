-- What a call changes in the model.
--
--   change   what an accepted call changes
--   settle   the state that a reply leaves
--   after    the state after a call
use Rattle.std.specs.Prelude.{Ok, Err}
use Rattle.model.specs.declared.call.Call.{Call}
use Rattle.model.specs.declared.call.Call.TheVariants.{Make, Join, Part, Strike, Lift}
use Rattle.model.specs.Model.{Lent, State, unmade, made, blank, lay, take_up, strike_out, lift_up}
use Rattle.model.specs.Table.{Reply, reply}

-- What an accepted call changes. Before an accepted make only a make is accepted, and after it only other
-- calls are; a question changes nothing.
abbrev pub change : Lent → State → Call → State
change lent unmade (Make n) = made (blank n (lent.room.capacity n))
change lent (made m) (Join u v) = made (lay m u v)
change lent (made m) (Part u v) = made (take_up m u v)
change lent (made m) (Strike u v) = made (strike_out m u v)
change lent (made m) (Lift u v) = made (lift_up m u v)
change lent s c = s

-- A refused call leaves the state, an accepted one what it changed.
abbrev pub settle : Reply → State → State → State
settle (Ok _) changed s = changed
settle (Err _) changed s = s

-- The state after a call: a refused one changes nothing.
abbrev pub after : Lent → State → Call → State
after lent s c = settle (reply lent s c) (change lent s c) s
