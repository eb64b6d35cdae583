-- What a search looks for, a node or none, and how it finds it: at a node, one step on from it, or two.
--
--   Far          a set of the nodes from which no arc leads to t
--   Closed       a set of the nodes from which no arc with room leads to t; the others are open
--   way_on       the lowest open node to which an arc with room leads from q
--   on_noted     the notes, with the way on to the goal if there is one
--   goal_from    whether the goal is found with q: there, or at an open node one step on too
--   goal_noted   the notes, with the steps from q to the goal if it is found so
use Rattle.std.specs.Prelude.{◌≡◌, ℕ, ◌<◌, Bool, false, cond, not, ◌||◌, Some, None, Option, List, ◌==◌, slice_set, is_some}
use Rattle.graph.specs.Graph.{first}
use Rattle.flows.specs.Flow.{Digraph}
use Rattle.rows.specs.Marks.{fresh}
use Rattle.search.specs.Steps.{along}

-- Of the nodes, those from which no arc leads to t.
abbrev pub Far : Digraph → ℕ → (ℕ → Bool) → Type 0
Far d t set = (q : ℕ) → q < d.nodes → set q ≡ not (d.arc q t)

-- Of the nodes, those from which no arc with room leads to t.
abbrev pub Closed : Digraph → (ℕ → ℕ → Bool) → ℕ → (ℕ → Bool) → Type 0
Closed d f t set = (q : ℕ) → q < d.nodes → set q ≡ not (along d f q t)

-- The lowest node that is not closed and to which an arc with room leads from q, or none.
abbrev pub way_on : Digraph → (ℕ → ℕ → Bool) → (ℕ → Bool) → ℕ → Option ℕ
way_on d f closed q = first (fresh closed (along d f q)) 0 d.nodes

-- Without a goal nothing is found; `on` is the way on from q.
abbrev pub goal_from : Option ℕ → (ℕ → Bool) → Option ℕ → ℕ → Bool
goal_from None closed on q = false
goal_from (Some t) closed on q = (q == t) || (not (closed q) || is_some on)

-- The way on to t, if there is one.
abbrev pub on_noted : Option ℕ → ℕ → ℕ → List ℕ → List ℕ
on_noted None q t before = before
on_noted (Some r) q t before = slice_set (slice_set before r q) t r

-- Only what lies behind q is noted.
abbrev pub goal_noted : Option ℕ → (ℕ → Bool) → Option ℕ → ℕ → List ℕ → List ℕ
goal_noted None closed on q before = before
goal_noted (Some t) closed on q before = cond (q == t) before (cond (closed q) (on_noted on q t before) (slice_set before t q))
