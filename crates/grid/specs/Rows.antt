-- The words of a grid: a row of them for each vertex, and in a row a bit for each number below `vertex_bits`.
--
--   vertex_words, vertex_bits   how many words the row of a vertex takes, and how many bits they are
--   row_end        where the row of a vertex ends
--   set_bits       how many bits of a row are set
--   grid           the graph that words mean
--   Rows           words that begin with the rows of a graph
--   wiped          words with the rows of a map without edges
--   edge_words     words with the two bits of an edge set, or cleared
--   pairs          how many pairs n vertices make: the edges that a grid takes
--   lent_words     what words are good for, lent to a make
--   RestStays      the words past the rows are as they were before the make
--   grid_rows      what words mean as a graph, they hold as its rows
--   few_vertices   what a make accepts is small enough for a graph
use Rattle.std.specs.Prelude.{◌≡◌, ℕ, ◌+◌, ◌-◌, ◌*◌, ◌/◌, ◌<◌, ◌≤◌, Bool, ◌&&◌, List, ◌++◌, length, drop, replicate, nat_le, nat_lt, slice_index}
use Rattle.std.proofs.Common.{lit≤}
use Rattle.std.proofs.Math.Nat.{le_trans}
use Rattle.std.proofs.lemmas.Bool.{lt-ltb}
use Rattle.graph.specs.Graph.{Graph, order_limit, count}
use Rattle.bits.specs.Bits.{bit, has, with_number}
use Rattle.model.specs.Model.{Room, make_limit}

-- Four words a vertex.
abbrev pub vertex_words : ℕ
vertex_words = 4

-- The numbers below it have a bit in a row.
abbrev pub vertex_bits : ℕ
vertex_bits = 64 * vertex_words

-- The row of u lies from word `vertex_words * u` up to this one.
abbrev pub row_end : ℕ → ℕ
row_end u = vertex_words * u + vertex_words

-- The bits of a row that are set, counted word by word.
abbrev pub set_bits : List ℕ → ℕ
set_bits row = count (bit (slice_index row 0)) 64 + count (bit (slice_index row 1)) 64 + count (bit (slice_index row 2)) 64 + count (bit (slice_index row 3)) 64

-- u and v are joined if bit v of u's row is set.
abbrev pub grid : ℕ → List ℕ → Graph
grid n words = record { order = n; joined = λ u v. (nat_lt u n && nat_lt v vertex_bits) && has words (vertex_words * u) v }

-- The words hold a row for each vertex, and every bit of u's row says whether u is joined
-- to the number that the bit stands for.
pub record Rows (g : Graph) (words : List ℕ) : Type 0 where
  pub fits : vertex_words * g.order ≤ length words
  pub bits : (u v : ℕ) → u < g.order → v < vertex_bits → has words (vertex_words * u) v ≡ g.joined u v

-- The rows of n vertices are zeros, and the words after them are as they were.
abbrev pub wiped : ℕ → List ℕ → List ℕ
wiped n words = replicate (vertex_words * n) 0 ++ drop (vertex_words * n) words

-- Bit v of u's row and bit u of v's row are set, or cleared, and all else is as it was.
abbrev pub edge_words : Bool → List ℕ → ℕ → ℕ → List ℕ
edge_words on words u v = with_number (with_number words (vertex_words * u) v on) (vertex_words * v) u on

-- Each of n vertices with each other, counted once.
abbrev pub pairs : ℕ → ℕ
pairs n = n * (n - 1) / 2

-- The rows of the vertices are enough, and whatever is beyond them, every pair can be joined.
abbrev pub lent_words : List ℕ → Room
lent_words words = record { enough = λ n. nat_le (vertex_words * n) (length words); capacity = pairs }

-- A make of n vertices, and an edge between two of them set or cleared, change no word past the rows.
abbrev pub RestStays : Type 0
RestStays =
    (n : ℕ) (words : List ℕ) → n ≤ order_limit → vertex_words * n ≤ length words
    → (drop (vertex_words * n) (wiped n words) ≡ drop (vertex_words * n) words)
    × ((on : Bool) (u v : ℕ) → u < n → v < n → drop (vertex_words * n) (edge_words on words u v) ≡ drop (vertex_words * n) words)

-- What words mean as a graph, they hold as its rows.
pub grid_rows : (n : ℕ) (words : List ℕ) → vertex_words * n ≤ length words → Rows (grid n words) words
grid_rows n words fits = record { fits = fits; bits = λ u v hu hv. rw (lt-ltb u n hu, lt-ltb v vertex_bits hv) }

-- What a make accepts is small enough for a graph.
pub few_vertices : (n : ℕ) → n ≤ make_limit → n ≤ order_limit
few_vertices n few = le_trans few (lit≤ tt)
