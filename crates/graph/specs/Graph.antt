-- Graphs: vertices are numbers, edges join two of them and have no direction.
--
--   order_limit      how many vertices a graph of ours may have at most
--   node_limit       how many nodes a digraph made of one may have at most
--   Graph, Simple    an order with a test of what is joined; the rules that it keeps
--   count, first     how many numbers pass a test; the lowest that does
--   degree, next     of a vertex: how many neighbours; the lowest neighbour from w up
--   edges            how many edges
--   empty, with_edge, without_edge
use Rattle.std.specs.Prelude.{◌≡◌, ℕ, zero, suc, ◌+◌, ◌-◌, ◌*◌, ◌<◌, ◌≤◌, Bool, true, false, cond, not, ◌&&◌, ◌||◌, Some, None, Option, ◌==◌}

-- One vertex more than a make accepts, so that a layer may add one. Whatever is proved
-- about memory is proved for this limit.
abbrev pub order_limit : ℕ
order_limit = 201

-- Two nodes for each vertex.
abbrev pub node_limit : ℕ
node_limit = 2 * order_limit

-- The vertices are the numbers below the order; `joined u v` says that an edge joins u and v.
pub record Graph : Type 0 where
  pub order : ℕ
  pub joined : ℕ → ℕ → Bool

-- At least one vertex and not too many; an edge has no direction, joins two different
-- vertices, and joins nothing outside.
pub record Simple (g : Graph) : Type 0 where
  pub some : 1 ≤ g.order
  pub small : g.order ≤ order_limit
  pub symmetric : (u v : ℕ) → g.joined u v ≡ g.joined v u
  pub irreflexive : (u : ℕ) → g.joined u u ≡ false
  pub bounded : (u v : ℕ) → g.joined u v ≡ true → (u < g.order) × (v < g.order)

-- How many numbers below n pass the test.
unfoldable pub count : (ℕ → Bool) → ℕ → ℕ
count p zero = 0
count p (suc n) = count p n + cond (p n) 1 0

-- The lowest of the k numbers from w up that passes the test, or none.
unfoldable pub first : (ℕ → Bool) → ℕ → ℕ → Option ℕ
first p w zero = None
first p w (suc k) = cond (p w) (Some w) (first p (suc w) k)

-- The number of neighbours of u.
abbrev pub degree : Graph → ℕ → ℕ
degree g u = count (g.joined u) g.order

-- The lowest neighbour of u that is w or more, or none.
abbrev pub next : Graph → ℕ → ℕ → Option ℕ
next g u w = first (g.joined u) w (g.order - w)

-- How many pairs below n are joined: each edge is counted at its higher end.
unfoldable pub edges_below : ℕ → (ℕ → ℕ → Bool) → ℕ
edges_below zero j = 0
edges_below (suc k) j = edges_below k j + count (j k) k

-- The number of edges.
abbrev pub edges : Graph → ℕ
edges g = edges_below g.order g.joined

-- Whether u and v are the two ends of the edge between a and b, in either order.
abbrev pub same_edge : ℕ → ℕ → ℕ → ℕ → Bool
same_edge a b u v = (a == u && b == v) || (a == v && b == u)

-- What is joined, with the edge between a and b, and without it.
abbrev pub added : (ℕ → ℕ → Bool) → ℕ → ℕ → (ℕ → ℕ → Bool)
added j a b = λ u v. j u v || same_edge a b u v

abbrev pub removed : (ℕ → ℕ → Bool) → ℕ → ℕ → (ℕ → ℕ → Bool)
removed j a b = λ u v. j u v && not (same_edge a b u v)

abbrev pub empty : ℕ → Graph
empty n = record { order = n; joined = λ u v. false }

abbrev pub with_edge : Graph → ℕ → ℕ → Graph
with_edge g a b = record { order = g.order; joined = added g.joined a b }

abbrev pub without_edge : Graph → ℕ → ℕ → Graph
without_edge g a b = record { order = g.order; joined = removed g.joined a b }
