-- Edge routes fit: their steps are different edges, and their second vertices are different
-- neighbours of the first end.
use Rattle.std.proofs.Common.{◌≡◌, ℕ, suc, ◌+◌, ◌*◌, ◌<◌, ◌≤◌, Bool, true, false, List, [], ◌∷◌, ◌++◌, length, All, sym, refl, ap, ◌∙◌, ap₂, inl, inr, ⊎_elim, arith, length-append}
use Rattle.std.proofs.lemmas.List.Elements.{All-head, All-tail, All-weaker, All-append}
use Rattle.std.proofs.lemmas.Bool.{cases_lt, both_ways, or_left, or_right, and_from, not_from_false}
use Rattle.graph.specs.Graph.{Graph, Simple, edges, same_edge, without_edge}
use Rattle.graph.proofs.Edges.{same_edge_ends, joined_differ, one_edge_less_lem}
use Rattle.flows.specs.Lists.{among}
use Rattle.flows.specs.Routes.{Walk, Apart, Route, goes}
use Rattle.flows.proofs.Lists.{never_true}
use Rattle.flows.proofs.Routes.{walk_goes}
use Rattle.cuts.specs.declared.edge.Edge.{Edge}
use Rattle.cuts.specs.Edges.{edge}
use Rattle.cuts.specs.Choices.{In}
use Rattle.cuts.specs.RouteBytes.{route_bytes}
use Rattle.cuts.specs.RouteRules.{Pairwise, second, Ascending, ShareNoEdge, RoutesFit}
use Rattle.cuts.proofs.Smallest.{in_either}
use Rattle.cuts.proofs.RouteBytes.{bytes_more}
use Rattle.cuts.proofs.RouteCounts.{all_in_list, in_list_all}
use Rattle.cuts.proofs.RouteMeets.{goes_first, goes_later, goes_among}

-- Two steps along different edges.
abbrev Differ : Edge → Edge → Type 0
Differ e f = same_edge e.low e.high f.low f.high ≡ false

-- Different edges of a graph are at most as many as it has: each one taken away leaves one fewer.
different_edges : (es : List Edge) (g : Graph) → Simple g → All (λ e. g.joined e.low e.high ≡ true) es → Pairwise Differ es → length es ≤ edges g
different_edges [] g simple on differ = omega arith
different_edges (e ∷ es) g simple on differ =
    let less = one_edge_less_lem g e.low e.high simple (All-head (λ e. g.joined e.low e.high ≡ true) e es on) in
    let rest = different_edges es (without_edge g e.low e.high) less.0
    (in_list_all _ es (λ f i. and_from _ _
    (all_in_list (λ e. g.joined e.low e.high ≡ true) f es (All-tail (λ e. g.joined e.low e.high ≡ true) e es on) i)
    (not_from_false _ (all_in_list (Differ e) f es differ.0 i))))
    differ.1 in
    omega (arith, rest, less.1)

-- The steps of a route.
steps : List ℕ → List Edge
steps [] = []
steps (x ∷ []) = []
steps (x ∷ (y ∷ xs)) = edge x y ∷ steps (y ∷ xs)

-- The steps of several routes.
all_steps : List (List ℕ) → List Edge
all_steps [] = []
all_steps (xs ∷ rs) = steps xs ++ all_steps rs

-- A route goes along each of its steps.
steps_go : (xs : List ℕ) (e : Edge) → In e (steps xs) → goes xs e.low e.high ≡ true
unfolding steps
steps_go [] e i = absurd i
steps_go (x ∷ []) e i = absurd i
steps_go (x ∷ (y ∷ xs)) e i =
    ⊎_elim
    (λ s. ap₂ (goes (x ∷ (y ∷ xs))) (ap (λ (f : Edge). f.low) s) (ap (λ (f : Edge). f.high) s) ∙ goes_first x y xs)
    (λ j. goes_later x y xs e.low e.high (steps_go (y ∷ xs) e j))
    i

-- A step of several routes is a step of one of them.
steps_of : (rs : List (List ℕ)) (e : Edge) → In e (all_steps rs) → (xs : List ℕ) × In xs rs × In e (steps xs)
unfolding all_steps
steps_of [] e i = absurd i
steps_of (xs ∷ rs) e i =
    ⊎_elim (λ j. (xs, inl refl, j)) (λ j. let r = steps_of rs e j in (r.0, inr r.1, r.2)) (in_either e (steps xs) (all_steps rs) i)

-- A route with nothing twice has different steps: its first vertex is not on the rest.
route_differs : (xs : List ℕ) → Apart xs → Pairwise Differ (steps xs)
unfolding steps
route_differs [] o = tt
route_differs (x ∷ []) o = tt
route_differs (x ∷ (y ∷ xs)) o = (
  in_list_all (Differ (edge x y)) (steps (y ∷ xs)) (λ e i. never_true _ (λ h. twice e (goes_among (y ∷ xs) e.low e.high (steps_go (y ∷ xs) e i)) h)),
  route_differs (y ∷ xs) o.1,
)
  where
    twice : (e : Edge) → (among (y ∷ xs) e.low ≡ true) × (among (y ∷ xs) e.high ≡ true) → same_edge x y e.low e.high ≡ true → ⊥
    twice e on h =
        ⊎_elim
        (λ s. both_ways _ o.0 (ap (among (y ∷ xs)) s.0 ∙ on.0))
        (λ s. both_ways _ o.0 (ap (among (y ∷ xs)) s.0 ∙ on.1))
        (same_edge_ends x y e.low e.high h)

-- Routes that share no edge have different steps.
routes_differ : (xs ys : List ℕ) → ShareNoEdge xs ys → (e f : Edge) → In e (steps xs) → In f (steps ys) → Differ e f
routes_differ xs ys apart e f i j =
    never_true _ (λ h.
    both_ways _ (apart e.low e.high (or_left _ _ (steps_go xs e i)))
    (⊎_elim
    (λ s. or_left _ _ (ap₂ (goes ys) s.0 s.1 ∙ steps_go ys f j))
    (λ s. or_right (goes ys e.low e.high) _ (ap₂ (goes ys) s.1 s.0 ∙ steps_go ys f j))
    (same_edge_ends e.low e.high f.low f.high h)))

-- A relation within two lists and between them is one within the joined list.
pub pairwise_append : {X : Type 0} (r : X → X → Type 0) (xs ys : List X) → Pairwise r xs → Pairwise r ys → ((x y : X) → In x xs → In y ys → r x y) → Pairwise r (xs ++ ys)
pairwise_append r [] ys p q h = q
pairwise_append r (x ∷ xs) ys p q h =
    (All-append (r x) xs ys p.0 (in_list_all (r x) ys (λ y j. h x y (inl refl) j)), pairwise_append r xs ys p.1 q (λ y z i j. h y z (inr i) j))

-- So have all of them together.
all_differ : (rs : List (List ℕ)) → All Apart rs → Pairwise ShareNoEdge rs → Pairwise Differ (all_steps rs)
unfolding all_steps
all_differ [] o d = tt
all_differ (xs ∷ rs) o d =
    pairwise_append Differ (steps xs) (all_steps rs) (route_differs xs (All-head Apart xs rs o)) (all_differ rs (All-tail Apart xs rs o) d.1)
    (λ e f i j. let r = steps_of rs f j in routes_differ xs r.0 (all_in_list (ShareNoEdge xs) r.0 rs d.0 r.1) e f i r.2)

-- A walk has one vertex more than steps.
walk_length : (r : ℕ → ℕ → Bool) (a b : ℕ) (xs : List ℕ) → Walk r a b xs → length xs ≡ 1 + length (steps xs)
unfolding steps
walk_length r a b [] w = absurd w
walk_length r a b (x ∷ []) w = refl
walk_length r a b (x ∷ (y ∷ xs)) w = let l = walk_length r y b (y ∷ xs) w.2 in omega arith

-- So a route takes two bytes more than it has steps.
bytes_steps : (r : ℕ → ℕ → Bool) (a b : ℕ) (rs : List (List ℕ)) → All (Route r a b) rs → route_bytes rs ≡ length (all_steps rs) + 2 * length rs
unfolding all_steps route_bytes
bytes_steps r a b [] each = refl
bytes_steps r a b (xs ∷ rs) each =
    omega (
      arith,
      bytes_more xs rs,
      walk_length r a b xs (All-head (Route r a b) xs rs each).walk,
      length-append (steps xs) (all_steps rs),
      bytes_steps r a b rs (All-tail (Route r a b) xs rs each),
    )

module _ {X : Type 0} (f : X → ℕ) (n : ℕ) where
  -- Ascending numbers from low up and below n are at most n - low.
  ascending_fit : (low : ℕ) (xs : List X) → low ≤ n → Pairwise (λ x y. f x < f y) xs → All (λ x. low ≤ f x) xs → All (λ x. f x < n) xs → length xs + low ≤ n
  ascending_fit low [] h p from below = omega arith
  ascending_fit low (x ∷ xs) h p from below =
      let low_x = All-head (λ x. low ≤ f x) x xs from in
      let x_below = All-head (λ x. f x < n) x xs below in
      let rest_below = All-tail (λ x. f x < n) x xs below in
      let rest = ascending_fit (suc (f x)) xs (omega (arith, x_below)) p.1 (All-weaker (λ y. f x < f y) (λ y. suc (f x) ≤ f y) (λ y l. omega (arith, l)) xs p.0) rest_below in
      omega (arith, low_x, rest)

  -- And one fewer where they leave one of these out.
  ascending_but : (low a : ℕ) (xs : List X) → low ≤ a → a < n → Pairwise (λ x y. f x < f y) xs → All (λ x. low ≤ f x) xs → All (λ x. f x < n) xs
      → All (λ x. f x ≡ a → ⊥) xs → length xs + suc low ≤ n
  ascending_but low a [] h k p from below other = omega arith
  ascending_but low a (x ∷ xs) h k p from below other =
      ⊎_elim
      (λ l. omega (arith, low_x, ascending_but (suc (f x)) a xs (omega arith) k p.1 later rest_below (All-tail (λ x. f x ≡ a → ⊥) x xs other)))
      (λ l. omega (arith, All-head (λ x. f x ≡ a → ⊥) x xs other, low_x, ascending_fit (suc (f x)) xs (omega (arith, All-head (λ x. f x < n) x xs below)) p.1 later rest_below))
      (cases_lt (f x) a)
    where
      later : All (λ y. suc (f x) ≤ f y) xs
      later = All-weaker (λ y. f x < f y) (λ y. suc (f x) ≤ f y) (λ y l. omega (arith, l)) xs p.0

      low_x : low ≤ f x
      low_x = All-head (λ x. low ≤ f x) x xs from

      rest_below : All (λ x. f x < n) xs
      rest_below = All-tail (λ x. f x < n) x xs below

-- The second vertex of a walk between two different ends is a neighbour of the first.
second_joined : (r : ℕ → ℕ → Bool) (a b : ℕ) → (a ≡ b → ⊥) → (xs : List ℕ) → Walk r a b xs → r a (second xs) ≡ true
second_joined r a b ne [] w = absurd w
second_joined r a b ne (x ∷ []) w = absurd (ne (sym w.0 ∙ w.1))
second_joined r a b ne (x ∷ (y ∷ xs)) w = ap (λ (z : ℕ). r z y) (sym w.0) ∙ w.1

-- There are fewer routes than vertices.
few_routes : (g : Graph) (a b : ℕ) (rs : List (List ℕ)) → Simple g → a < g.order → (a ≡ b → ⊥) → All (Route g.joined a b) rs → Ascending rs → length rs + 1 ≤ g.order
few_routes g a b rs simple ha ne each up =
    ascending_but second g.order 0 a rs (omega arith) ha up
    (All-weaker (Route g.joined a b) (λ xs. 0 ≤ second xs) (λ xs r. omega arith) rs each)
    (All-weaker (Route g.joined a b) (λ xs. second xs < g.order) (λ xs r. (simple.bounded a (second xs) (second_joined g.joined a b ne xs r.walk)).1) rs each)
    (All-weaker (Route g.joined a b) (λ xs. second xs ≡ a → ⊥) (λ xs r e. joined_differ g simple a (second xs) (second_joined g.joined a b ne xs r.walk) (sym e)) rs each)

-- A byte for each step, two for each route.
pub routes_fit_lem : RoutesFit
routes_fit_lem g a b routes simple ha hb ne rules =
    omega (
      arith,
      bytes_steps g.joined a b routes rules.each,
      different_edges (all_steps routes) g simple
          (in_list_all _ (all_steps routes) (λ e i.
          let r = steps_of routes e i in
          walk_goes g.joined a b r.0 (all_in_list (Route g.joined a b) r.0 routes rules.each r.1).walk e.low e.high (steps_go r.0 e r.2)))
          (all_differ routes (All-weaker (Route g.joined a b) Apart (λ xs r. r.apart) routes rules.each) rules.disjoint),
      few_routes g a b routes simple ha ne rules.each rules.ascending,
    )
