-- Lists of numbers as sets, and lists in buffers.
--
--   upto       the numbers below n, ascending
--   any, all   some item passes a test; every item does
--   among      a number stands in a list
--   in_front   a list in place of the first entries of a buffer; the others keep their content
use Rattle.std.specs.Prelude.{ℕ, zero, suc, Bool, true, false, ◌&&◌, ◌||◌, List, [], ◌∷◌, ◌++◌, length, drop, nat_eq}

-- The numbers below n, ascending.
unfoldable pub upto : ℕ → List ℕ
upto zero = []
upto (suc n) = upto n ++ (n ∷ [])

-- Some item passes the test; every item does.
unfoldable pub any : {X : Type 0} → (X → Bool) → List X → Bool
any p [] = false
any p (x ∷ xs) = p x || any p xs

unfoldable pub all : {X : Type 0} → (X → Bool) → List X → Bool
all p [] = true
all p (x ∷ xs) = p x && all p xs

-- A number stands in a list.
abbrev pub among : List ℕ → ℕ → Bool
among xs v = any (nat_eq v) xs

-- What stands in a lent buffer after a list was written into it.
abbrev pub in_front : {X : Type 0} → List X → List X → List X
in_front xs buffer = xs ++ drop (length xs) buffer
