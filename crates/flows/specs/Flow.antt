-- Digraphs, unit flows, residual steps.
--
--   Digraph, Sound                                     nodes and arcs; arcs lead between nodes
--   total, pairs_passing                               sums, and how many pairs pass a test
--   out, into                                          how many arcs of a set go out of a node, and into it
--   Flow                                               a unit flow from s to t
--   leaving, entering, Between                         the arcs out of a set of nodes, and into it; a set with s and without t
--   NoneInto, NoneOutOf                                no arc of a set leads to a node; none leads out of it
--   back                                               the steps back along a set of arcs
--   residual, residual_side                            where a flow can be changed; what s reaches by such steps
--   stepped, pushed                                    a flow after a step, and after a path of them
--   FlowBalance, FlowBound, LargestFlow, PushAddsOne   what holds of flows
--   Most, MostExists                                   a flow that nothing leads on from; there is one
--   without                                            a set of arcs without those of a route
--   ArcDisjoint, AllDisjoint                           routes that share no arc
--   Peeled, FlowPeels                                  so many routes of a flow; there are as many as its value
use Rattle.std.specs.Prelude.{◌≡◌, ℕ, zero, suc, ◌+◌, ◌<◌, ◌≤◌, Bool, true, false, cond, not, ◌&&◌, ◌||◌, List, [], ◌∷◌, length, All, ◌==◌, ◌≢◌}
use Rattle.graph.specs.Graph.{count}
use Rattle.flows.specs.Reach.{reaches}
use Rattle.flows.specs.Routes.{Route, goes}

-- Nodes are the numbers below `nodes`, arcs lead one way between them.
pub record Digraph : Type 0 where
  pub nodes : ℕ
  pub arc : ℕ → ℕ → Bool

pub record Sound (d : Digraph) : Type 0 where
  pub bounded : (p q : ℕ) → d.arc p q ≡ true → (p < d.nodes) × (q < d.nodes)

-- A sum over the numbers below n, and how many pairs below n pass a test.
unfoldable pub total : (ℕ → ℕ) → ℕ → ℕ
total f zero = 0
total f (suc n) = f n + total f n

abbrev pub pairs_passing : (ℕ → ℕ → Bool) → ℕ → ℕ
pairs_passing r n = total (λ p. count (r p) n) n

-- How many arcs of a set go out of p, and into p.
abbrev pub out : ℕ → (ℕ → ℕ → Bool) → ℕ → ℕ
out n f p = count (λ q. f p q) n

abbrev pub into : ℕ → (ℕ → ℕ → Bool) → ℕ → ℕ
into n f p = count (λ q. f q p) n

-- A unit flow from s to t of value v: a set of arcs, never an arc there and back, as many into
-- each node as out of it but at s and t, and v more out of s than into it.
pub record Flow (d : Digraph) (s t : ℕ) (f : ℕ → ℕ → Bool) (v : ℕ) : Type 0 where
  pub along : (p q : ℕ) → f p q ≡ true → d.arc p q ≡ true
  pub oneway : (p q : ℕ) → f p q ≡ true → f q p ≡ false
  pub kept : (p : ℕ) → p < d.nodes → (p ≢ s) → (p ≢ t) → out d.nodes f p ≡ into d.nodes f p
  pub value : out d.nodes f s ≡ into d.nodes f s + v

-- How many arcs of a set go out of a set u of nodes, and how many come into it.
abbrev pub leaving : ℕ → (ℕ → ℕ → Bool) → (ℕ → Bool) → ℕ
leaving n f u = pairs_passing (λ p q. u p && (not (u q) && f p q)) n

abbrev pub entering : ℕ → (ℕ → ℕ → Bool) → (ℕ → Bool) → ℕ
entering n f u = pairs_passing (λ p q. u p && (not (u q) && f q p)) n

-- No arc of a set leads to s.
abbrev pub NoneInto : (ℕ → ℕ → Bool) → ℕ → Type 0
NoneInto f s = (q : ℕ) → f q s ≡ false

-- No arc of a set leads out of t.
abbrev pub NoneOutOf : (ℕ → ℕ → Bool) → ℕ → Type 0
NoneOutOf f t = (q : ℕ) → f t q ≡ false

-- The steps back along the arcs of a set.
abbrev pub back : (ℕ → ℕ → Bool) → ℕ → ℕ → Bool
back f p q = f q p

-- Where a flow can still be changed: back along an arc of it, or along an arc that is free.
abbrev pub residual : Digraph → (ℕ → ℕ → Bool) → ℕ → ℕ → Bool
residual d f p q = f q p || (d.arc p q && not (f p q))

-- What s reaches by residual steps.
abbrev pub residual_side : Digraph → (ℕ → ℕ → Bool) → ℕ → ℕ → Bool
residual_side d f s = reaches d.nodes (residual d f) s

-- A set of nodes with s and without t.
abbrev pub Between : ℕ → ℕ → (ℕ → Bool) → Type 0
Between s t u = (u s ≡ true) × (u t ≡ false)

-- The flow after one step from p to q: an arc back is taken out, else the arc is put in.
abbrev pub stepped : (ℕ → ℕ → Bool) → ℕ → ℕ → (ℕ → ℕ → Bool)
stepped f p q =
    cond (f q p)
    (λ x y. f x y && not (x == q && y == p))
    (λ x y. f x y || (x == p && y == q))

-- The flow pushed along a list of nodes, step by step.
unfoldable pub pushed : (ℕ → ℕ → Bool) → List ℕ → (ℕ → ℕ → Bool)
pushed f [] = f
pushed f (p ∷ []) = f
pushed f (p ∷ (q ∷ ps)) = pushed (stepped f p q) (q ∷ ps)

-- Balance over any set that has s and not t.
abbrev pub FlowBalance : Type 0
FlowBalance =
    (d : Digraph) (s t : ℕ) (f : ℕ → ℕ → Bool) (v : ℕ) (u : ℕ → Bool) → Flow d s t f v → s < d.nodes → Between s t u
    → v + entering d.nodes f u ≡ leaving d.nodes f u

-- No flow is larger than the arcs that leave such a set.
abbrev pub FlowBound : Type 0
FlowBound =
    (d : Digraph) (s t : ℕ) (f : ℕ → ℕ → Bool) (v : ℕ) → Flow d s t f v → s < d.nodes
    → (u : ℕ → Bool) → Between s t u → v ≤ leaving d.nodes d.arc u

-- A flow with no augmenting path is as large as the arcs that leave its residual side; so no
-- flow is larger, no such set is left by fewer arcs, and of those left by as many the residual
-- side is the smallest.
abbrev pub LargestFlow : Type 0
LargestFlow =
    (d : Digraph) (s t : ℕ) (f : ℕ → ℕ → Bool) (v : ℕ) → Sound d → Flow d s t f v → s < d.nodes
    → residual_side d f s t ≡ false
    → (leaving d.nodes d.arc (residual_side d f s) ≡ v)
    × ((h : ℕ → ℕ → Bool) (w : ℕ) → Flow d s t h w → w ≤ v)
    × ((u : ℕ → Bool) → Between s t u → v ≤ leaving d.nodes d.arc u)
    × ((u : ℕ → Bool) → Between s t u → leaving d.nodes d.arc u ≡ v → (q : ℕ) → residual_side d f s q ≡ true → u q ≡ true)

-- Pushing along a residual path with no node twice adds one.
abbrev pub PushAddsOne : Type 0
PushAddsOne =
    (d : Digraph) (s t : ℕ) (f : ℕ → ℕ → Bool) (v : ℕ) (path : List ℕ) → Sound d → Flow d s t f v → s < d.nodes → (s ≢ t)
    → Route (residual d f) s t path → Flow d s t (pushed f path) (v + 1)

-- There is a largest flow.
pub record Most (d : Digraph) (s t : ℕ) : Type 0 where
  pub flow : ℕ → ℕ → Bool
  pub value : ℕ
  pub flows : Flow d s t flow value
  pub stuck : residual_side d flow s t ≡ false

abbrev pub MostExists : Type 0
MostExists = (d : Digraph) (s t : ℕ) → Sound d → s < d.nodes → (s ≢ t) → Most d s t

-- The arcs of a set but those that a route goes along.
abbrev pub without : (ℕ → ℕ → Bool) → List ℕ → (ℕ → ℕ → Bool)
without f xs = λ p q. f p q && not (goes xs p q)

-- Two routes that share no arc.
abbrev pub ArcDisjoint : List ℕ → List ℕ → Type 0
ArcDisjoint xs ys = (p q : ℕ) → goes xs p q ≡ true → goes ys p q ≡ false

abbrev pub AllDisjoint : List (List ℕ) → Type 0
AllDisjoint [] = Unit {0}
AllDisjoint (xs ∷ rs) = All (ArcDisjoint xs) rs × AllDisjoint rs

-- So many routes along the arcs of f from s to t, no two of them with an arc in common.
pub record Peeled (f : ℕ → ℕ → Bool) (s t v : ℕ) : Type 0 where
  pub routes : List (List ℕ)
  pub many : length routes ≡ v
  pub each : All (Route f s t) routes
  pub disjoint : AllDisjoint routes

-- A flow peels into that many routes.
abbrev pub FlowPeels : Type 0
FlowPeels = (d : Digraph) (s t : ℕ) (f : ℕ → ℕ → Bool) (v : ℕ) → Sound d → s < d.nodes → (s ≢ t) → Flow d s t f v → Peeled f s t v
