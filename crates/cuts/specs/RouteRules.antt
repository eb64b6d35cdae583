-- Lists of routes that obey the rules, and what holds between them and a parting set.
--
--   Pairwise                                   a relation between each item and every later one
--   second, Ascending                          the second vertex of a route; routes in its order
--   inner                                      the inner vertices of a route
--   ShareNoEdge, ShareOnlyEnds                 what two routes have in common
--   EdgeRoutes, VertexRoutes                   the rules
--   SharingByInner                             to share only the ends is to share no inner vertex
--   RoutesFit, VertexRoutesFit                 how many bytes routes take
--   NoMoreEdgeRoutes, NoMoreVertexRoutes       no more routes than the value of the pair
--   EachEdgeOnOneRoute, EachVertexOnOneRoute   routes against as many edges or vertices that part
use Rattle.std.specs.Prelude.{◌≡◌, ℕ, ◌+◌, ◌-◌, ◌*◌, ◌<◌, ◌≤◌, Bool, true, false, ◌⊎◌, List, [], ◌∷◌, length, take, drop, All, filter, ◌≢◌, ◌↔◌, slice_index}
use Rattle.graph.specs.Graph.{Graph, Simple, edges}
use Rattle.flows.specs.Lists.{among}
use Rattle.flows.specs.Routes.{Route, edge_on}
use Rattle.cuts.specs.declared.edge.Edge.{Edge}
use Rattle.cuts.specs.Choices.{In}
use Rattle.cuts.specs.Cuts.{edges_part, edge_value, vertices_part, vertex_value}
use Rattle.cuts.specs.RouteBytes.{route_bytes}

-- A relation holds between each item and every later one.
abbrev pub Pairwise : {X : Type 0} → (X → X → Type 0) → List X → Type 0
Pairwise r [] = Unit {0}
Pairwise r (x ∷ xs) = All (r x) xs × Pairwise r xs

-- The second vertex of a route.
abbrev pub second : List ℕ → ℕ
second xs = slice_index xs 1

abbrev pub Ascending : List (List ℕ) → Type 0
Ascending = Pairwise (λ xs ys. second xs < second ys)

-- The inner vertices of a route are all but its two ends.
abbrev pub inner : List ℕ → List ℕ
inner xs = take (length xs - 2) (drop 1 xs)

-- No edge is used by both, in either direction.
abbrev pub ShareNoEdge : List ℕ → List ℕ → Type 0
ShareNoEdge xs ys = (u v : ℕ) → edge_on xs u v ≡ true → edge_on ys u v ≡ false

-- Only a and b are on both.
abbrev pub ShareOnlyEnds : ℕ → ℕ → List ℕ → List ℕ → Type 0
ShareOnlyEnds a b xs ys = (w : ℕ) → among xs w ≡ true → among ys w ≡ true → (w ≡ a) ⊎ (w ≡ b)

-- Edge routes from a to b: along edges in force, ascending by second vertex, no edge used twice.
pub record EdgeRoutes (g : Graph) (a b : ℕ) (routes : List (List ℕ)) : Type 0 where
  pub each : All (Route g.joined a b) routes
  pub ascending : Ascending routes
  pub disjoint : Pairwise ShareNoEdge routes

-- Vertex routes from a to b: the same, and they share only a and b.
pub record VertexRoutes (g : Graph) (a b : ℕ) (routes : List (List ℕ)) : Type 0 where
  pub each : All (Route g.joined a b) routes
  pub ascending : Ascending routes
  pub apart : Pairwise (ShareOnlyEnds a b) routes

-- Of two routes from a to b only a and b are on both exactly where no inner vertex of one is
-- an inner vertex of the other.
abbrev pub SharingByInner : Type 0
SharingByInner =
    (r : ℕ → ℕ → Bool) (a b : ℕ) (xs ys : List ℕ) → Route r a b xs → Route r a b ys
    → ShareOnlyEnds a b xs ys ↔ ((w : ℕ) → among (inner xs) w ≡ true → among (inner ys) w ≡ false)

-- The bytes of edge routes are at most as many as there are edges, and two more for each vertex but one.
abbrev pub RoutesFit : Type 0
RoutesFit =
    (g : Graph) (a b : ℕ) (routes : List (List ℕ)) → Simple g → a < g.order → b < g.order → (a ≢ b)
    → EdgeRoutes g a b routes → route_bytes routes ≤ edges g + 2 * (g.order - 1)

-- There are no more edge routes between two vertices than their value.
abbrev pub NoMoreEdgeRoutes : Type 0
NoMoreEdgeRoutes =
    (g : Graph) (a b : ℕ) (routes : List (List ℕ)) → Simple g → a < g.order → b < g.order → (a ≢ b)
    → EdgeRoutes g a b routes → length routes ≤ edge_value g a b

-- And no more vertex routes, if the two are not joined.
abbrev pub NoMoreVertexRoutes : Type 0
NoMoreVertexRoutes =
    (g : Graph) (a b : ℕ) (routes : List (List ℕ)) → Simple g → a < g.order → b < g.order → (a ≢ b) → g.joined a b ≡ false
    → VertexRoutes g a b routes → length routes ≤ vertex_value g a b

-- Of as many edges as there are routes, that part a and b, each lies on exactly one route.
abbrev pub EachEdgeOnOneRoute : Type 0
EachEdgeOnOneRoute =
    (g : Graph) (a b : ℕ) (routes : List (List ℕ)) (c : List Edge) → Simple g → a < g.order → b < g.order → (a ≢ b)
    → EdgeRoutes g a b routes → edges_part g a b c ≡ true → length routes ≡ length c
    → (e : Edge) → In e c → length (filter (λ xs. edge_on xs e.low e.high) routes) ≡ 1

-- And so with vertices, neither of them an end.
abbrev pub EachVertexOnOneRoute : Type 0
EachVertexOnOneRoute =
    (g : Graph) (a b : ℕ) (routes : List (List ℕ)) (c : List ℕ) → Simple g → a < g.order → b < g.order → (a ≢ b) → g.joined a b ≡ false
    → VertexRoutes g a b routes → among c a ≡ false → among c b ≡ false → vertices_part g a b c ≡ true → length routes ≡ length c
    → (w : ℕ) → among c w ≡ true → length (filter (λ xs. among xs w) routes) ≡ 1

-- Vertex routes of an unjoined pair share no edge either, so they fit as well.
abbrev pub VertexRoutesFit : Type 0
VertexRoutesFit =
    (g : Graph) (a b : ℕ) (routes : List (List ℕ)) → Simple g → a < g.order → b < g.order → (a ≢ b) → g.joined a b ≡ false
    → VertexRoutes g a b routes → EdgeRoutes g a b routes × (route_bytes routes ≤ edges g + 2 * (g.order - 1))
