-- Routes of an unjoined pair that share only their ends share no edge.
use Rattle.std.proofs.Common.{◌≡◌, ℕ, true, false, ◌⊎◌, List, [], ◌∷◌, All, sym, ◌∙◌, ap₂, ⊎_elim}
use Rattle.std.proofs.lemmas.List.Elements.{All-nil, All-cons, All-head, All-tail}
use Rattle.std.proofs.lemmas.Bool.{or_cases, true≢false}
use Rattle.graph.specs.Graph.{Graph, Simple}
use Rattle.graph.proofs.Edges.{joined_differ}
use Rattle.flows.specs.Lists.{among}
use Rattle.flows.specs.Routes.{Route, goes, edge_on}
use Rattle.flows.proofs.Lists.{never_true}
use Rattle.flows.proofs.Routes.{walk_goes}
use Rattle.cuts.specs.RouteRules.{Pairwise, ShareNoEdge, ShareOnlyEnds, EdgeRoutes, VertexRoutesFit}
use Rattle.cuts.proofs.RouteMeets.{goes_among}
use Rattle.cuts.proofs.RouteFits.{routes_fit_lem}

module _ (g : Graph) (simple : Simple g) (a b : ℕ) (off : g.joined a b ≡ false) where
  -- Two joined vertices are not both among the ends.
  not_ends : (u v : ℕ) → g.joined u v ≡ true → (u ≡ a) ⊎ (u ≡ b) → (v ≡ a) ⊎ (v ≡ b) → ⊥
  not_ends u v on eu ev =
      ⊎_elim
      (λ p. ⊎_elim (λ q. joined_differ g simple u v on (p ∙ sym q)) (λ q. true≢false (sym on ∙ ap₂ g.joined p q ∙ off)) ev)
      (λ p. ⊎_elim (λ q. true≢false (sym on ∙ simple.symmetric u v ∙ ap₂ g.joined q p ∙ off)) (λ q. joined_differ g simple u v on (p ∙ sym q)) ev)
      eu

  -- The two ends of an edge on a route are joined and stand on it.
  on_edge : (xs : List ℕ) → Route g.joined a b xs → (u v : ℕ) → edge_on xs u v ≡ true → (g.joined u v ≡ true) × (among xs u ≡ true) × (among xs v ≡ true)
  on_edge xs r u v h =
      ⊎_elim
      (λ s. let m = goes_among xs u v s in (walk_goes g.joined a b xs r.walk u v s, m.0, m.1))
      (λ s. let m = goes_among xs v u s in (simple.symmetric u v ∙ walk_goes g.joined a b xs r.walk v u s, m.1, m.0))
      (or_cases (goes xs u v) (goes xs v u) h)

  no_edge : (xs ys : List ℕ) → Route g.joined a b xs → Route g.joined a b ys → ShareOnlyEnds a b xs ys → ShareNoEdge xs ys
  no_edge xs ys rx ry share u v h =
      never_true (edge_on ys u v) (λ k.
      let x = on_edge xs rx u v h in
      let y = on_edge ys ry u v k in
      not_ends u v x.0 (share u x.1 y.1) (share v x.2 y.2))

  no_edges : (xs : List ℕ) (rs : List (List ℕ)) → Route g.joined a b xs → All (Route g.joined a b) rs → All (ShareOnlyEnds a b xs) rs → All (ShareNoEdge xs) rs
  no_edges xs [] rx each share = All-nil (ShareNoEdge xs)
  no_edges xs (ys ∷ rs) rx each share =
      All-cons (ShareNoEdge xs) ys rs
      (no_edge xs ys rx (All-head (Route g.joined a b) ys rs each) (All-head (ShareOnlyEnds a b xs) ys rs share))
      (no_edges xs rs rx (All-tail (Route g.joined a b) ys rs each) (All-tail (ShareOnlyEnds a b xs) ys rs share))

  all_disjoint : (rs : List (List ℕ)) → All (Route g.joined a b) rs → Pairwise (ShareOnlyEnds a b) rs → Pairwise ShareNoEdge rs
  all_disjoint [] each share = tt
  all_disjoint (xs ∷ rs) each share =
      let first = All-head (Route g.joined a b) xs rs each in
      let rest = All-tail (Route g.joined a b) xs rs each in
      (no_edges xs rs first rest share.0, all_disjoint rs rest share.1)

pub vertex_routes_fit_lem : VertexRoutesFit
vertex_routes_fit_lem g a b routes simple ha hb ne off v =
    let e : EdgeRoutes g a b routes = record { each = v.each; ascending = v.ascending; disjoint = all_disjoint g simple a b off routes v.each v.apart } in
    (e, routes_fit_lem g a b routes simple ha hb ne e)
