-- When what an accepted call tells is right, and when what two questions tell goes together.
--
--   right   what a call rightly tells of the graph that questions are about
--   Agree   what two questions on one graph tell of each other
use Rattle.std.specs.Prelude.{◌≡◌}
use Rattle.graph.specs.Graph.{Graph}
use Rattle.model.specs.declared.call.Call.{Call}
use Rattle.model.specs.declared.call.Call.TheVariants.{Make, Join, Part, Strike, Lift}
use Rattle.model.specs.declared.call.Answer.TheVariants.{Made, Joined, Parted, Struck, Lifted}
use Rattle.law.specs.Told.{Told, plain}

-- What a call rightly tells. A make and an edit answer that they are done, and tell no more.
abbrev pub right : Graph → Call → Told → Type 0
right g (Make n) t = t ≡ plain Made
right g (Join u v) t = t ≡ plain Joined
right g (Part u v) t = t ≡ plain Parted
right g (Strike u v) t = t ≡ plain Struck
right g (Lift u v) t = t ≡ plain Lifted

-- What two questions on one graph tell of each other. No two calls have to agree in anything yet.
abbrev pub Agree : Call → Told → Call → Told → Type 0
Agree c w d t = Unit {0}
