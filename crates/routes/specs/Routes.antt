-- Routes read off a flow one after another, and their bytes.
--
--   web           the arcs of a flow, as a digraph of their own
--   Sends         a flow from a to b among n nodes, none of whose arcs leads to a
--   Led           the notes lead from c on to b, and with a in front that is a route along the flow
--   RouteNoted    the notes lead from a over c to b, and that is a route along the flow
--   FlowRoutes    routes along a flow, ascending by second node, no two with an arc in common
--   vertices      the vertices among the nodes of a route
--   route_block   the bytes of one route: how many vertices, and which
--   noted_bytes   those of the route that is noted
--   RouteRoom, RoutesRoom   there is room for the bytes of any route over c, and of any routes
--   Taken         one route over c was taken out of a flow and written from a place on
--   Told          as many routes as go out of a were written in front of a buffer
use Rattle.std.specs.Prelude.{◌≡◌, ℕ, ◌+◌, ◌<◌, ◌≤◌, Bool, List, ◌∷◌, map, filter, length, All, ◌≢◌, nat_lt}
use Rattle.flows.specs.Lists.{in_front}
use Rattle.flows.specs.Routes.{Route}
use Rattle.flows.specs.Flow.{Digraph, Sound, Flow, out, without, NoneInto, ArcDisjoint}
use Rattle.cuts.specs.RouteBytes.{bytes_of, route_bytes}
use Rattle.cuts.specs.RouteRules.{Pairwise, second, Ascending}
use Rattle.augment.specs.Trails.{way, LeadsBack}
use Rattle.plan.specs.Writing.{placed}

-- No arc but those of the flow.
abbrev pub web : ℕ → (ℕ → ℕ → Bool) → Digraph
web n f = record { nodes = n; arc = f }

-- A flow of some value from a to b, two of the n nodes. Its arcs lead between these nodes, and none to a.
pub record Sends (n : ℕ) (f : ℕ → ℕ → Bool) (a b : ℕ) : Type 0 where
  pub value : ℕ
  pub flow : Flow (web n f) a b f value
  pub sound : Sound (web n f)
  pub starts : NoneInto f a
  pub from : a < n
  pub to : b < n
  pub apart : a ≢ b

-- The notes lead from c on to b; with a in front, that is a route from a to b along the flow.
pub record Led (f : ℕ → ℕ → Bool) (a b c : ℕ) (before : List ℕ) : Type 0 where
  pub leads : LeadsBack before b c (way before b c)
  pub route : Route f a b (a ∷ way before b c)

-- The notes lead from a to b; that is a route along the flow, and c is its second node.
pub record RouteNoted (f : ℕ → ℕ → Bool) (a b c : ℕ) (before : List ℕ) : Type 0 where
  pub leads : LeadsBack before b a (way before b a)
  pub route : Route f a b (way before b a)
  pub over : second (way before b a) ≡ c

-- Routes from a to b along the flow, ascending by second node, no two with an arc in common.
pub record FlowRoutes (f : ℕ → ℕ → Bool) (a b : ℕ) (routes : List (List ℕ)) : Type 0 where
  pub each : All (Route f a b) routes
  pub ascending : Ascending routes
  pub disjoint : Pairwise ArcDisjoint routes

-- The nodes below the order of the map are vertices.
abbrev pub vertices : ℕ → List ℕ → List ℕ
vertices order xs = filter (λ x. nat_lt x order) xs

-- A byte for the number of vertices, and then these.
abbrev pub route_block : List ℕ → List ℕ
route_block xs = length xs ∷ xs

-- Of the nodes of that route only the vertices are written.
abbrev pub noted_bytes : ℕ → ℕ → ℕ → List ℕ → List ℕ
noted_bytes order a b before = route_block (vertices order (way before b a))

-- From a place on there is room for the route, whichever it is.
abbrev pub RouteRoom : ℕ → (ℕ → ℕ → Bool) → ℕ → ℕ → ℕ → ℕ → ℕ → Type 0
RouteRoom order f a b c at room =
    (xs : List ℕ) → Route f a b xs → second xs ≡ c → at + length (route_block (vertices order xs)) ≤ room

-- There is room for all routes, whichever they are.
abbrev pub RoutesRoom : ℕ → (ℕ → ℕ → Bool) → ℕ → ℕ → ℕ → Type 0
RoutesRoom order f a b room =
    (routes : List (List ℕ)) → FlowRoutes f a b routes → route_bytes (map (vertices order) routes) ≤ room

-- One route over c along the flow f was taken out of it, which is h then, and its bytes stand from the place
-- `at` on in `now`; all else there is as in `start`, and the place `next` comes next.
pub record Taken (order : ℕ) (f h : ℕ → ℕ → Bool) (a b c at : ℕ) (start : List ℕ) (next : ℕ) (now : List ℕ) : Type 0 where
  pub route : List ℕ
  pub along : Route f a b route
  pub over : second route ≡ c
  pub arcs : h ≡ without f route
  pub behind : next ≡ at + length (route_block (vertices order route))
  pub bytes : now ≡ placed at (route_block (vertices order route)) start

-- As many routes along the flow as go out of a stand in front in `now`, of each the number of its vertices and
-- these; all past them is as in `start`.
pub record Told (n order : ℕ) (f : ℕ → ℕ → Bool) (a b : ℕ) (start now : List ℕ) : Type 0 where
  pub routes : List (List ℕ)
  pub obey : FlowRoutes f a b routes
  pub many : length routes ≡ out n f a
  pub bytes : now ≡ in_front (bytes_of (map (vertices order) routes)) start
