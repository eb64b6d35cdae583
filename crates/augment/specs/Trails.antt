-- Routes that a search noted: at each node but the first, the node that it came from.
--
--   Noted        each node of a list but the first has the one before it noted
--   Trail        a route whose nodes are noted
--   walk_back    the nodes from t back to s, read from the notes
--   way          all of them
--   route_back   the nodes read, from s on to t
--   LeadsBack    a list that goes from t back to s by the notes
--   pushed_back  a flow pushed along nodes from the last one back
--   PushedBack   it is the flow pushed along the trail
--   ReadBack     the nodes of a trail are those read back
use Rattle.std.specs.Prelude.{◌≡◌, ℕ, zero, suc, ◌<◌, Bool, cond, List, [], ◌∷◌, reverse, All, ◌==◌, ◌≢◌, slice_index}
use Rattle.graph.specs.Graph.{node_limit}
use Rattle.flows.specs.Routes.{Route}
use Rattle.flows.specs.Flow.{stepped, pushed}

-- What is noted at each node is the one before it.
abbrev pub Noted : List ℕ → List ℕ → Type 0
Noted before [] = Unit {0}
Noted before (x ∷ []) = Unit {0}
Noted before (x ∷ (y ∷ xs)) = (slice_index before y ≡ x) × Noted before (y ∷ xs)

-- A route from s to t by steps of r, noted on the way.
pub record Trail (r : ℕ → ℕ → Bool) (s t : ℕ) (before : List ℕ) : Type 0 where
  pub nodes : List ℕ
  pub route : Route r s t nodes
  pub noted : Noted before nodes

-- At most n nodes, the last of them s if it is met so soon.
unfoldable pub walk_back : List ℕ → ℕ → ℕ → ℕ → List ℕ
walk_back before s t zero = []
walk_back before s t (suc n) = t ∷ cond (t == s) [] (walk_back before s (slice_index before t) n)

-- No route has more nodes than there can be.
abbrev pub way : List ℕ → ℕ → ℕ → List ℕ
way before s t = walk_back before s t node_limit

-- The nodes back, turned round.
abbrev pub route_back : List ℕ → ℕ → ℕ → ℕ → List ℕ
route_back before s t n = reverse (walk_back before s t n)

-- A list that leads by the notes from t back to s, which is met only at its end.
abbrev pub LeadsBack : List ℕ → ℕ → ℕ → List ℕ → Type 0
LeadsBack before s t [] = ⊥
LeadsBack before s t (x ∷ []) = (x ≡ t) × (x ≡ s)
LeadsBack before s t (x ∷ (y ∷ xs)) = (x ≡ t) × (x ≢ s) × LeadsBack before s (slice_index before x) (y ∷ xs)

-- The flow pushed along the nodes back from an end, the last step first.
unfoldable pub pushed_back : (ℕ → ℕ → Bool) → List ℕ → (ℕ → ℕ → Bool)
pushed_back f [] = f
pushed_back f (q ∷ []) = f
pushed_back f (q ∷ (p ∷ ps)) = pushed_back (stepped f p q) (p ∷ ps)

-- What is pushed back from the end of a trail is what is pushed along it.
abbrev pub PushedBack : Type 0
PushedBack =
    (r : ℕ → ℕ → Bool) (s t : ℕ) (before : List ℕ) (n : ℕ) (trail : Trail r s t before) (f : ℕ → ℕ → Bool)
    → All (λ x. x < n) trail.nodes → pushed_back f (walk_back before s t n) ≡ pushed f trail.nodes

-- A trail among the nodes below n is read back from what it noted.
abbrev pub ReadBack : Type 0
ReadBack =
    (r : ℕ → ℕ → Bool) (s t : ℕ) (before : List ℕ) (n : ℕ) (trail : Trail r s t before)
    → All (λ x. x < n) trail.nodes → trail.nodes ≡ route_back before s t n
