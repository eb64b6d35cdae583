-- Routes: lists of vertices, each joined to the next, none twice.
--
--   Walk, Apart, Route   a list that leads from a to b; nothing stands twice; both
--   goes, edge_on        a step that a route takes; an edge that it goes along in either direction
--   ReachedByRoute       reached exactly where a route leads
use Rattle.std.specs.Prelude.{◌≡◌, ℕ, ◌<◌, Bool, true, false, ◌&&◌, ◌||◌, List, [], ◌∷◌, ◌==◌}
use Rattle.flows.specs.Lists.{among}
use Rattle.flows.specs.Reach.{reaches}

-- A list that leads from a to b by steps of r.
abbrev pub Walk : (ℕ → ℕ → Bool) → ℕ → ℕ → List ℕ → Type 0
Walk r a b [] = ⊥
Walk r a b (x ∷ []) = (x ≡ a) × (x ≡ b)
Walk r a b (x ∷ (y ∷ xs)) = (x ≡ a) × (r x y ≡ true) × Walk r y b (y ∷ xs)

-- Nothing stands twice.
abbrev pub Apart : List ℕ → Type 0
Apart [] = Unit {0}
Apart (x ∷ xs) = (among xs x ≡ false) × Apart xs

pub record Route (r : ℕ → ℕ → Bool) (a b : ℕ) (xs : List ℕ) : Type 0 where
  pub walk : Walk r a b xs
  pub apart : Apart xs

-- A route goes from u to v in one step.
unfoldable pub goes : List ℕ → ℕ → ℕ → Bool
goes [] u v = false
goes (x ∷ []) u v = false
goes (x ∷ (y ∷ xs)) u v = (x == u && y == v) || goes (y ∷ xs) u v

-- The edge between u and v lies on a route that has them next to each other in either order.
abbrev pub edge_on : List ℕ → ℕ → ℕ → Bool
edge_on xs u v = goes xs u v || goes xs v u

-- Reached exactly where a route leads.
abbrev pub ReachedByRoute : Type 0
ReachedByRoute =
    (n : ℕ) (r : ℕ → ℕ → Bool) → ((u v : ℕ) → r u v ≡ true → (u < n) × (v < n)) → (a b : ℕ) → a < n
    → (reaches n r a b ≡ true → (xs : List ℕ) × Route r a b xs)
    × ((xs : List ℕ) → Route r a b xs → reaches n r a b ≡ true)
