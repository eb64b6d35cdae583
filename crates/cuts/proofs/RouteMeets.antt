-- Routes and a parting set: each route meets it, so they are no more than its items, and of as
-- many items as there are routes each lies on exactly one.
use Rattle.std.proofs.Common.{◌≡◌, ℕ, ◌<◌, ◌≤◌, Bool, true, false, ◌&&◌, eqb, List, [], ◌∷◌, length, All, filter, sym, refl, ap, ◌∙◌, ap₂, ⊎_elim}
use Rattle.std.proofs.lemmas.Bool.{cases_Bool, both_ways, eqb-true, eq-eqb, or_cases, or_left, or_right, or_from, and_parts, and_from, not-true, not_from_false}
use Rattle.std.proofs.lemmas.List.Elements.{All-weaker}
use Rattle.graph.specs.Graph.{Graph, Simple}
use Rattle.graph.proofs.Edges.{same_edge_ends}
use Rattle.flows.specs.Lists.{any, among}
use Rattle.flows.specs.Reach.{reaches}
use Rattle.flows.specs.Routes.{Walk, Route, goes, edge_on}
use Rattle.flows.proofs.Lists.{never_true, among_head, among_tail}
use Rattle.flows.proofs.Reached.{reached_self}
use Rattle.flows.proofs.Routes.{walk_reached}
use Rattle.cuts.specs.declared.edge.Edge.{Edge}
use Rattle.cuts.specs.Edges.{is_between, has_edge, without_edges, without_vertices}
use Rattle.cuts.specs.Choices.{In}
use Rattle.cuts.specs.Cuts.{edges_part, vertices_part}
use Rattle.cuts.specs.RouteRules.{ShareNoEdge, ShareOnlyEnds, EdgeRoutes, VertexRoutes, EachEdgeOnOneRoute, EachVertexOnOneRoute}
use Rattle.cuts.proofs.Standing.{in_among, among_in}
use Rattle.cuts.proofs.RouteCounts.{pairwise_weaker, any_wider, kept_once, met_few, met_once}

-- A route goes from its first vertex to its second.
pub goes_first : (x y : ℕ) (xs : List ℕ) → goes (x ∷ (y ∷ xs)) x y ≡ true
unfolding goes
goes_first x y xs = or_left _ _ (and_from _ _ (eq-eqb x x refl) (eq-eqb y y refl))

-- And wherever the rest of it goes.
pub goes_later : (x y : ℕ) (xs : List ℕ) (p q : ℕ) → goes (y ∷ xs) p q ≡ true → goes (x ∷ (y ∷ xs)) p q ≡ true
unfolding goes
goes_later x y xs p q h = or_right (eqb x p && eqb y q) _ h

-- Where a route goes stands on it.
pub goes_among : (xs : List ℕ) (p q : ℕ) → goes xs p q ≡ true → (among xs p ≡ true) × (among xs q ≡ true)
unfolding goes
goes_among [] p q h = absurd (both_ways false refl h)
goes_among (x ∷ []) p q h = absurd (both_ways false refl h)
goes_among (x ∷ (y ∷ xs)) p q h =
    ⊎_elim
    (λ k. let e = and_parts (eqb x p) (eqb y q) k in (
      ap (among (x ∷ (y ∷ xs))) (sym (eqb-true x p e.0)) ∙ among_head x (y ∷ xs),
      ap (among (x ∷ (y ∷ xs))) (sym (eqb-true y q e.1)) ∙ among_tail x (y ∷ xs) y (among_head y xs),
    ))
    (λ k. let r = goes_among (y ∷ xs) p q k in (among_tail x (y ∷ xs) p r.0, among_tail x (y ∷ xs) q r.1))
    (or_cases (eqb x p && eqb y q) (goes (y ∷ xs) p q) h)

-- A walk is one by any steps that are there wherever it goes.
walk_along : (r z : ℕ → ℕ → Bool) (a b : ℕ) (xs : List ℕ) → ((p q : ℕ) → goes xs p q ≡ true → r p q ≡ true → z p q ≡ true) → Walk r a b xs → Walk z a b xs
walk_along r z a b [] h w = w
walk_along r z a b (x ∷ []) h w = w
walk_along r z a b (x ∷ (y ∷ xs)) h w =
    (w.0, h x y (goes_first x y xs) w.1, walk_along r z y b (y ∷ xs) (λ p q k. h p q (goes_later x y xs p q k)) w.2)

-- If a doesn't reach b by the steps of z, then no walk to b has only such steps: a test that
-- leaves it only such steps where it fails is met.
meets : (n : ℕ) (r z : ℕ → ℕ → Bool) (a b : ℕ) (xs : List ℕ) (met : Bool) → a < n → ((p q : ℕ) → z p q ≡ true → (p < n) × (q < n))
    → reaches n z a b ≡ false → Walk r a b xs → (met ≡ false → (p q : ℕ) → goes xs p q ≡ true → r p q ≡ true → z p q ≡ true) → met ≡ true
meets n r z a b xs met ha ranged off w h =
    ⊎_elim (λ e. e)
    (λ e. let on = walk_reached n z ranged a a b ha xs (walk_along r z a b xs (h e) w) (reached_self n z a ha) in
    absurd (both_ways _ off on))
    (cases_Bool met)

module _ (g : Graph) (simple : Simple g) (a b : ℕ) (ha : a < g.order) where
  -- A walk from a to b has an edge of any edges that part them.
  edge_met : (c : List Edge) → edges_part g a b c ≡ true → (xs : List ℕ) → Walk g.joined a b xs → any (λ e. edge_on xs e.low e.high) c ≡ true
  edge_met c part xs w =
      meets g.order g.joined (without_edges g c).joined a b xs (any on_it c) ha
      (λ p q h. simple.bounded p q (and_parts (g.joined p q) _ h).0) (not-true _ part) w
      (λ off p q k j. and_from _ _ j (not_from_false _ (never_true (has_edge c p q) (λ h. both_ways _ off (any_wider (is_between p q) on_it (λ e. covers e p q k) c h)))))
    where
      on_it : Edge → Bool
      on_it e = edge_on xs e.low e.high

      covers : (e : Edge) (p q : ℕ) → goes xs p q ≡ true → is_between p q e ≡ true → edge_on xs e.low e.high ≡ true
      covers e p q k h =
          ⊎_elim
          (λ s. or_left _ _ (ap₂ (goes xs) s.0 s.1 ∙ k))
          (λ s. or_right (goes xs e.low e.high) _ (ap₂ (goes xs) s.1 s.0 ∙ k))
          (same_edge_ends e.low e.high p q h)

  -- A walk from a to b has a vertex of any vertices that part them.
  vertex_met : (c : List ℕ) → vertices_part g a b c ≡ true → (xs : List ℕ) → Walk g.joined a b xs → any (among xs) c ≡ true
  vertex_met c part xs w =
      meets g.order g.joined (without_vertices g c).joined a b xs (any (among xs) c) ha
      (λ p q h. simple.bounded p q (and_parts (g.joined p q) _ h).0) (not-true _ part) w
      (λ off p q k j. let s = goes_among xs p q k in
      and_from _ _ j (not_from_false _ (or_from _ _ (clear off p s.0) (clear off q s.1))))
    where
      clear : any (among xs) c ≡ false → (p : ℕ) → among xs p ≡ true → among c p ≡ false
      clear off p k = never_true _ (λ h. both_ways _ off (any_wider (eqb p) (among xs) (λ v e. ap (among xs) (sym (eqb-true p v e)) ∙ k) c h))

module _ (g : Graph) (simple : Simple g) (a b : ℕ) (ha : a < g.order) (routes : List (List ℕ)) where
  -- Each of some edge routes has an edge of any edges that part the ends.
  edge_routes_meet : EdgeRoutes g a b routes → (c : List Edge) → edges_part g a b c ≡ true
      → All (λ xs. any (λ e. edge_on xs e.low e.high) c ≡ true) routes
  edge_routes_meet rules c part =
      All-weaker (Route g.joined a b) (λ xs. any (λ (e : Edge). edge_on xs e.low e.high) c ≡ true)
      (λ xs r. edge_met g simple a b ha c part xs r.walk) routes rules.each

  -- No edge is on two of them.
  edge_once : EdgeRoutes g a b routes → (e : Edge) → length (filter (λ xs. edge_on xs e.low e.high) routes) ≤ 1
  edge_once rules e =
      kept_once (λ xs. edge_on xs e.low e.high) routes
      (pairwise_weaker ShareNoEdge _ (λ xs ys s. s e.low e.high) routes rules.disjoint)

  -- So they are no more than these edges.
  pub edge_routes_few : EdgeRoutes g a b routes → (c : List Edge) → edges_part g a b c ≡ true → length routes ≤ length c
  edge_routes_few rules c part =
      met_few (λ xs (e : Edge). edge_on xs e.low e.high) routes c (edge_routes_meet rules c part) (λ e _. edge_once rules e)

  -- Each of some vertex routes has a vertex of any vertices that part the ends.
  vertex_routes_meet : VertexRoutes g a b routes → (c : List ℕ) → vertices_part g a b c ≡ true → All (λ xs. any (among xs) c ≡ true) routes
  vertex_routes_meet rules c part =
      All-weaker (Route g.joined a b) (λ xs. any (among xs) c ≡ true)
      (λ xs r. vertex_met g simple a b ha c part xs r.walk) routes rules.each

  -- No vertex of a list that has neither end is on two of them.
  vertex_once : VertexRoutes g a b routes → (c : List ℕ) → among c a ≡ false → among c b ≡ false → (v : ℕ) → In v c
      → length (filter (λ xs. among xs v) routes) ≤ 1
  vertex_once rules c ca cb v i =
      kept_once (λ xs. among xs v) routes
      (pairwise_weaker (ShareOnlyEnds a b) (λ xs ys. among xs v ≡ true → among ys v ≡ false)
      (λ xs ys s on. never_true _ (λ k. ⊎_elim (no_end a ca) (no_end b cb) (s v on k))) routes rules.apart)
    where
      no_end : (x : ℕ) → among c x ≡ false → v ≡ x → ⊥
      no_end x off e = both_ways _ off (ap (among c) (sym e) ∙ in_among v c i)

  -- So they are no more than these vertices.
  pub vertex_routes_few : VertexRoutes g a b routes → (c : List ℕ) → among c a ≡ false → among c b ≡ false → vertices_part g a b c ≡ true
      → length routes ≤ length c
  vertex_routes_few rules c ca cb part = met_few among routes c (vertex_routes_meet rules c part) (vertex_once rules c ca cb)

-- Of as many edges as there are routes, that part the ends, each lies on exactly one route.
pub each_edge_on_one_route_lem : EachEdgeOnOneRoute
each_edge_on_one_route_lem g a b routes c simple ha hb ne rules part l =
    met_once (λ xs (e : Edge). edge_on xs e.low e.high) routes c
    (edge_routes_meet g simple a b ha routes rules c part) (λ e _. edge_once g simple a b ha routes rules e) l

-- And so of vertices, none of them an end.
pub each_vertex_on_one_route_lem : EachVertexOnOneRoute
each_vertex_on_one_route_lem g a b routes c simple ha hb ne off rules ca cb part l w h =
    met_once among routes c
    (vertex_routes_meet g simple a b ha routes rules c part) (vertex_once g simple a b ha routes rules c ca cb) l w (among_in w c h)
