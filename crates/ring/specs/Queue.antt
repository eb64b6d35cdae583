-- What a ring means: the list of the items that wait, the first in front, and the slots as they are.
--
--   Queue         the items, how many can wait, what every slot holds, where the first item stands, in which memory
--   popped_from   what was held before a pop, by its answer and what is held after it
use Rattle.std.specs.Prelude.{ℕ, List, [], ◌∷◌, Some, None, Option}
use base.Fml.{GName}

-- The items that wait, and how many there is room for; and the whole of what lies below: what
-- each slot holds, those that no item waits in too, the slot that the first item stands in, and which
-- memory was lent.
-- So two rings with the same value differ in nothing.
pub record Queue (T : Type 0) : Type 0 where
  pub items : List T
  pub room : ℕ
  pub slots : List T
  pub head : ℕ
  pub memory : GName

-- A pop that gives nothing found nothing; one that gives x found x in front of what it leaves.
abbrev pub popped_from : {X : Type 0} → Option X → List X → List X
popped_from None after = []
popped_from (Some x) after = x ∷ after
