-- What the items of a cut are where a loop comes to them one after another, and how they stand in a buffer.
--
--   placed                    a list in place of the entries of a buffer from a place on; the others keep their content
--   vertex_at                 what is written for a vertex
--   apart                     whether q is on the other side of a set than p
--   next_other                the lowest such number from w up
--   next_across               the lowest such number to which an edge leads from p
--   crossing_row              the edges from a vertex up that have one end in a set
use Rattle.std.specs.Prelude.{ℕ, ◌+◌, ◌-◌, Bool, cond, not, ◌&&◌, ◌||◌, List, ◌++◌, length, take, drop, filter, Option, ◌==◌}
use Rattle.std.specs.Bool.{then_some}
use Rattle.graph.specs.Graph.{Graph, first}
use Rattle.cuts.specs.declared.edge.Edge.{Edge}
use Rattle.cuts.specs.Edges.{edges_up}

-- The entries before place k, the list, and the entries that it does not cover.
unfoldable pub placed : {X : Type 0} → ℕ → List X → List X → List X
placed k xs buffer = take k buffer ++ (xs ++ drop (k + length xs) buffer)

-- The vertex v, where the arc through it leaves the set u of nodes, or the arc from a to it does.
abbrev pub vertex_at : Graph → ℕ → (ℕ → Bool) → ℕ → Option ℕ
vertex_at g a u v = then_some ((u v && not (u (g.order + v)) && not (v == a)) || (not (u v) && g.joined a v)) v

-- Whether q is outside the set u if p is in it, and in it if p is outside.
abbrev pub apart : (ℕ → Bool) → ℕ → ℕ → Bool
apart u p q = cond (u p) (not (u q)) (u q)

-- The lowest number from w up and below n that is on the other side.
abbrev pub next_other : (ℕ → Bool) → ℕ → ℕ → ℕ → Option ℕ
next_other u p w n = first (apart u p) w (n - w)

-- The lowest neighbour of p from w up that is on the other side.
abbrev pub next_across : Graph → (ℕ → Bool) → ℕ → ℕ → Option ℕ
next_across g u p w = first (λ q. g.joined p q && apart u p q) w (g.order - w)

-- The edges from p to higher neighbours that have exactly one end in the set u.
abbrev pub crossing_row : Graph → (ℕ → Bool) → ℕ → List Edge
crossing_row g u p = filter (λ e. (u e.low && not (u e.high)) || (u e.high && not (u e.low))) (edges_up g p)
