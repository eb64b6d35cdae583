-- The layout of the two kinds of sets.
--
--   set_words   how many words a set of nodes has
--   set_limit   the numbers below it can be in the set: a bit for each
--   row_words   how many words a row of a set of arcs takes; its first have the row's set of tails
--   arc_words   how many words have room for a row of every head
--   head_limit  of words that are lent for reading alone, the rows of the heads below it are read
use Rattle.std.specs.Prelude.{ℕ, ◌*◌}

-- Seven words for the nodes of a plan.
abbrev pub set_words : ℕ
set_words = 7

-- A bit of these words for each number.
abbrev pub set_limit : ℕ
set_limit = 64 * set_words

-- The last word of a row is not used.
abbrev pub row_words : ℕ
row_words = 8

-- A head can be any number that a set can have.
abbrev pub arc_words : ℕ
arc_words = row_words * set_limit

-- Rows of 4,096 words. Words lent for reading may be of any number, and no head is counted for them.
abbrev pub head_limit : ℕ
head_limit = 512
