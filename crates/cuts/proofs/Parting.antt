-- Parting two vertices and being a cut, said by routes; parting has no direction; a complete
-- graph has no vertex cut.
use Rattle.std.proofs.Common.{◌≡◌, ℕ, ◌<◌, true, false, not, eqb, List, sym, ap, ◌∙◌, inl, inr}
use Rattle.std.specs.Prelude.{◌↔◌}
use Rattle.std.proofs.lemmas.Bool.{both_ways, and_from, and_parts, or_cases, not-true, not-false, not_from_false, eqb-true, lt-ltb, ltb-true}
use Rattle.graph.specs.Graph.{Graph, Simple}
use Rattle.flows.specs.Lists.{upto, any, all, among}
use Rattle.flows.proofs.Lists.{never_true, any_none, any_from, any_at, all_at, all_from, all_off, all_upto_at, among_upto, among_kept}
use Rattle.flows.proofs.Reached.{reached_self, reached_step}
use Rattle.flows.proofs.Routes.{reached_by_route_lem}
use Rattle.cuts.specs.declared.edge.Edge.{Edge}
use Rattle.cuts.specs.Edges.{without_edges, without_vertices, side, linked}
use Rattle.cuts.specs.Cuts.{outside_of}
use Rattle.cuts.specs.Parting.{NoRoute, SomeRoute, Outside, EdgesPartByRoutes, VerticesPartByRoutes, EdgeCutByRoutes, VertexCutByRoutes, PartingTurns, CompleteUncut}
use Rattle.cuts.proofs.EdgeNearest.{parts_turn}
use Rattle.cuts.proofs.VertexLaws.{part_turn, step_from}

-- Two vertices of a graph that joins nothing outside are linked exactly where a route leads.
module _ (h : Graph) (ranged : (u v : ℕ) → h.joined u v ≡ true → (u < h.order) × (v < h.order)) where
  -- They are not, where no route does.
  pub unlinked : (a b : ℕ) → a < h.order → (linked h a b ≡ false) ↔ NoRoute h a b
  unlinked a b ha =
      let k = reached_by_route_lem h.order h.joined ranged a b ha in
      (λ e xs r. both_ways _ e (k.1 xs r), λ none. never_true _ (λ on. let w = k.0 on in none w.0 w.1))

  -- And they are, where some route does.
  pub is_linked : (a b : ℕ) → a < h.order → (linked h a b ≡ true) ↔ SomeRoute h a b
  is_linked a b ha =
      let k = reached_by_route_lem h.order h.joined ranged a b ha in
      (k.0, λ w. k.1 w.0 w.1)

  -- The same, said of what parts them.
  pub parted : (a b : ℕ) → a < h.order → ((not (linked h a b) ≡ true) ↔ NoRoute h a b) × ((not (linked h a b) ≡ false) ↔ SomeRoute h a b)
  parted a b ha =
      let off = unlinked a b ha in
      let on = is_linked a b ha in
      ((λ e. off.0 (not-true _ e), λ none. not_from_false _ (off.1 none)), (λ e. on.0 (not-false _ e), λ w. ap not (on.1 w)))

  -- Of some vertices not every two are linked exactly where two of them have no route.
  pub not_all_linked : (vs : List ℕ) → ((v : ℕ) → among vs v ≡ true → v < h.order)
      → (any (λ a. not (all (among (side h a)) vs)) vs ≡ true)
      ↔ ((a : ℕ) × (b : ℕ) × (among vs a ≡ true) × (among vs b ≡ true) × (a ≡ b → ⊥) × NoRoute h a b)
  not_all_linked vs below = (
    λ e.
        let w = any_from (λ a. not (all (among (side h a)) vs)) vs e in
        let z = all_off (among (side h w.0)) vs (not-true _ w.2) in
        (w.0, z.0, w.1, z.1, apart w.0 z.0 (below w.0 w.1) z.2, (unlinked w.0 z.0 (below w.0 w.1)).0 z.2),
    λ w.
        any_at (λ a. not (all (among (side h a)) vs)) vs w.0 w.2
        (not_from_false _ (never_true _ (λ full. both_ways _ ((unlinked w.0 w.1 (below w.0 w.2)).1 w.5) (all_at (among (side h w.0)) vs full w.1 w.3)))),
  )
    where
      apart : (a b : ℕ) → a < h.order → linked h a b ≡ false → a ≡ b → ⊥
      apart a b ha off e = both_ways _ off (ap (linked h a) (sym e) ∙ reached_self h.order h.joined a ha)

  -- And every two are exactly where every two have a route.
  pub all_linked : (vs : List ℕ) → ((v : ℕ) → among vs v ≡ true → v < h.order)
      → (any (λ a. not (all (among (side h a)) vs)) vs ≡ false)
      ↔ ((a b : ℕ) → among vs a ≡ true → among vs b ≡ true → SomeRoute h a b)
  all_linked vs below = (
    λ e a b ma mb.
        (is_linked a b (below a ma)).0
        (all_at (among (side h a)) vs
        (not-false _ (never_true _ (λ k. both_ways _ e (any_at (λ a. not (all (among (side h a)) vs)) vs a ma k)))) b mb),
    λ on.
        any_none (λ a. not (all (among (side h a)) vs)) vs
        (λ a ma. ap not (all_from (among (side h a)) vs (λ b mb. (is_linked a b (below a ma)).1 (on a b ma mb)))),
  )

-- What is left of a simple graph joins nothing outside.
edges_ranged : (g : Graph) → Simple g → (c : List Edge) (u v : ℕ) → (without_edges g c).joined u v ≡ true → (u < g.order) × (v < g.order)
edges_ranged g s c u v e = s.bounded u v (and_parts (g.joined u v) _ e).0

vertices_ranged : (g : Graph) → Simple g → (c : List ℕ) (u v : ℕ) → (without_vertices g c).joined u v ≡ true → (u < g.order) × (v < g.order)
vertices_ranged g s c u v e = s.bounded u v (and_parts (g.joined u v) _ e).0

-- So parting is by routes, for edges and for vertices.
pub edges_part_by_routes_lem : EdgesPartByRoutes
edges_part_by_routes_lem g a b c s ha = parted (without_edges g c) (edges_ranged g s c) a b ha

pub vertices_part_by_routes_lem : VerticesPartByRoutes
vertices_part_by_routes_lem g a b c s ha = parted (without_vertices g c) (vertices_ranged g s c) a b ha

-- The vertices of a graph are those below its order.
vertex_below : (g : Graph) (v : ℕ) → among (upto g.order) v ≡ true → v < g.order
vertex_below g v m = ltb-true v g.order (sym (among_upto g.order v) ∙ m)

below_vertex : (g : Graph) (v : ℕ) → v < g.order → among (upto g.order) v ≡ true
below_vertex g v l = among_upto g.order v ∙ lt-ltb v g.order l

-- An edge cut leaves some two of them no route.
pub edge_cut_by_routes_lem : EdgeCutByRoutes
edge_cut_by_routes_lem g c s =
    let cut = not_all_linked (without_edges g c) (edges_ranged g s c) (upto g.order) (vertex_below g) in
    let none = all_linked (without_edges g c) (edges_ranged g s c) (upto g.order) (vertex_below g) in (
      (
        λ e. let w = cut.0 e in (w.0, w.1, vertex_below g w.0 w.2, vertex_below g w.1 w.3, w.4, w.5),
        λ w. cut.1 (w.0, w.1, below_vertex g w.0 w.2, below_vertex g w.1 w.3, w.4, w.5),
      ),
      (
        λ e a b ha hb. none.0 e a b (below_vertex g a ha) (below_vertex g b hb),
        λ on. none.1 (λ a b ma mb. on a b (vertex_below g a ma) (vertex_below g b mb)),
      ),
    )

-- What stands outside a list of vertices.
pub outside_parts : (g : Graph) (c : List ℕ) (v : ℕ) → among (outside_of g c) v ≡ true → Outside g c v
outside_parts g c v h =
    let a = and_parts (among (upto g.order) v) _ (sym (among_kept (λ v. not (among c v)) (upto g.order) v) ∙ h) in
    (vertex_below g v a.0, not-true _ a.1)

-- A vertex that is not in the list stands outside it.
pub outside_from : (g : Graph) (c : List ℕ) (v : ℕ) → Outside g c v → among (outside_of g c) v ≡ true
outside_from g c v o = among_kept (λ v. not (among c v)) (upto g.order) v ∙ and_from _ _ (below_vertex g v o.0) (not_from_false _ o.1)

-- A vertex cut leaves some two of those no route.
pub vertex_cut_by_routes_lem : VertexCutByRoutes
vertex_cut_by_routes_lem g c s =
    let below = λ (v : ℕ) (m : among (outside_of g c) v ≡ true). (outside_parts g c v m).0 in
    let cut = not_all_linked (without_vertices g c) (vertices_ranged g s c) (outside_of g c) below in
    let none = all_linked (without_vertices g c) (vertices_ranged g s c) (outside_of g c) below in (
      (
        λ e. let w = cut.0 e in (w.0, w.1, outside_parts g c w.0 w.2, outside_parts g c w.1 w.3, w.4, w.5),
        λ w. cut.1 (w.0, w.1, outside_from g c w.0 w.2, outside_from g c w.1 w.3, w.4, w.5),
      ),
      (
        λ e a b oa ob. none.0 e a b (outside_from g c a oa) (outside_from g c b ob),
        λ on. none.1 (λ a b ma mb. on a b (outside_parts g c a ma) (outside_parts g c b mb)),
      ),
    )

-- Parting has no direction.
pub parting_turns_lem : PartingTurns
parting_turns_lem g a b s ha hb = (parts_turn g s a b ha hb, part_turn g s a b ha hb)

-- Of a complete graph every two vertices outside a list are linked: they are one, or joined.
pub complete_uncut_lem : CompleteUncut
complete_uncut_lem g full c =
    any_none (λ a. not (all (among (side (without_vertices g c) a)) (outside_of g c))) (outside_of g c)
    (λ a ma. ap not (all_from (among (side (without_vertices g c) a)) (outside_of g c)
    (λ b mb. near a b (outside_parts g c a ma) (outside_parts g c b mb))))
  where
    near : (a b : ℕ) → Outside g c a → Outside g c b → linked (without_vertices g c) a b ≡ true
    near a b oa ob =
        let r = (without_vertices g c).joined in
        let self = reached_self g.order r a oa.0 in
        elim (or_cases (eqb a b) (g.joined a b) (all_upto_at _ g.order (all_upto_at _ g.order full a oa.0) b ob.0)) [
          | inl e ↦ ap (linked (without_vertices g c) a) (sym (eqb-true a b e)) ∙ self
          | inr j ↦ reached_step g.order r a oa.0 a b ob.0 self (step_from g c a b j oa.1 ob.1)
        ]
