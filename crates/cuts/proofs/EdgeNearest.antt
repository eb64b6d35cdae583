-- The edge value of a pair is the value of a largest flow, and the nearest of its smallest cuts
-- is what crosses the flow's residual side.
use Rattle.std.proofs.Common.{◌≡◌, ℕ, ◌<◌, ◌≤◌, Bool, true, false, not, ◌&&◌, ◌||◌, List, [], length, sym, refl, ap, ◌∙◌, ap₂, ⊎_elim, arith}
use mathlib.Core.Path.{fun_ext}
use Rattle.std.proofs.lemmas.Bool.{and_parts, or_cases, true≢false}
use Rattle.graph.specs.Graph.{Graph, Simple}
use Rattle.flows.specs.Lists.{all, among}
use Rattle.flows.specs.Flow.{Sound, Flow, residual, residual_side, leaving, Between}
use Rattle.flows.proofs.Lists.{same_test, all_at, all_from}
use Rattle.flows.proofs.Reached.{reached_self, reached_turn}
use Rattle.flows.proofs.Largest.{largest_flow_lem}
use Rattle.flows.proofs.Most.{most_exists_lem}
use Rattle.cuts.specs.declared.edge.Edge.{Edge}
use Rattle.cuts.specs.Edges.{edge_list, has_edge, without_edges, side, linked}
use Rattle.cuts.specs.Choices.{In, size, inside}
use Rattle.cuts.specs.Cuts.{edges_part, edge_cuts, edge_value, nearest_edge_cut}
use Rattle.cuts.specs.Pairs.{both_ways, crossing_edges, EdgeValueByFlow, NearestEdgeCut}
use Rattle.cuts.proofs.Smallest.{Sub, kept_sub, size_least, size_met, smallest_each, smallest_every}
use Rattle.cuts.proofs.Standing.{all_in, in_all, find_in, sub_full}
use Rattle.cuts.proofs.EdgeLists.{edge_out, distinct_edges, has_in, has_swap, crossing_count}
use Rattle.cuts.proofs.EdgeParts.{crossing_keeps, crossing_parts, parted_between, leaving_has, leaving_most}

not-false : (b : Bool) → not b ≡ true → b ≡ false
not-false true h = let z : ⊥ = true≢false (sym h) in absurd z
not-false false h = refl

-- A graph's two-way digraph is sound.
pub both_sound : (g : Graph) → Simple g → Sound (both_ways g)
both_sound g simple = record { bounded = simple.bounded }

-- A set of edges of the graph that parts a and b, as large as what leaves a's side, is just
-- what crosses that side.
module _ (g : Graph) (simple : Simple g) (a : ℕ) (ha : a < g.order) where
  left : List Edge → ℕ → Bool
  left d q = linked (without_edges g d) a q

  crossing_in : (d : List Edge) → Sub d (edge_list g) → (e : Edge) → In e (edge_list g)
      → ((linked (without_edges g d) a e.low && not (linked (without_edges g d) a e.high)) || (linked (without_edges g d) a e.high && not (linked (without_edges g d) a e.low))) ≡ true
      → In e d
  crossing_in d s e i t =
      let on = (edge_out g e i).2 in
      let lo = linked (without_edges g d) a e.low in
      let hi = linked (without_edges g d) a e.high in
      has_in g d e s i
      (⊎_elim
      (λ h. let p = and_parts lo (not hi) h in leaving_has g simple a a ha d e.low e.high p.0 (not-false hi p.1) on)
      (λ h. let p = and_parts hi (not lo) h in
      has_swap d e.low e.high ∙ leaving_has g simple a a ha d e.high e.low p.0 (not-false lo p.1) (simple.symmetric e.high e.low ∙ on))
      (or_cases (lo && not hi) (hi && not lo) t))

  pub is_crossing : (d : List Edge) → Sub d (edge_list g) → leaving g.order g.joined (λ q. linked (without_edges g d) a q) ≡ length d → d ≡ crossing_edges g (λ q. linked (without_edges g d) a q)
  is_crossing d s full =
      sub_full (λ e. (linked (without_edges g d) a e.low && not (linked (without_edges g d) a e.high)) || (linked (without_edges g d) a e.high && not (linked (without_edges g d) a e.low)))
      (distinct_edges g) s (crossing_in d s) (crossing_count g simple (λ q. linked (without_edges g d) a q) ∙ full)

module _ (g : Graph) (simple : Simple g) (a b : ℕ) (ha : a < g.order) (f : ℕ → ℕ → Bool) (v : ℕ)
    (flow : Flow (both_ways g) a b f v) (stuck : residual_side (both_ways g) f a b ≡ false) where
  near : ℕ → Bool
  near = residual_side (both_ways g) f a

  cut : List Edge
  cut = crossing_edges g (residual_side (both_ways g) f a)

  cuts : List (List Edge)
  cuts = edge_cuts g a b

  between : Between a b (residual_side (both_ways g) f a)
  between = (reached_self g.order (residual (both_ways g) f) a ha, stuck)

  cut_size : length (crossing_edges g (residual_side (both_ways g) f a)) ≡ v
  cut_size = crossing_count g simple (residual_side (both_ways g) f a) ∙ (largest_flow_lem (both_ways g) a b f v (both_sound g simple) flow ha stuck).0

  cut_parts : edges_part g a b (crossing_edges g (residual_side (both_ways g) f a)) ≡ true
  cut_parts = crossing_parts g simple a b ha (residual_side (both_ways g) f a) between

  -- What a set of edges that parts them leaves a reaching is left by no fewer than the flow's value.
  fewest : (d : List Edge) → edges_part g a b d ≡ true → v ≤ leaving g.order g.joined (λ q. linked (without_edges g d) a q)
  fewest d h =
      (largest_flow_lem (both_ways g) a b f v (both_sound g simple) flow ha stuck).2
      (λ q. linked (without_edges g d) a q) (parted_between g simple a b ha d h)

  -- No set of edges that parts them is smaller than the flow.
  at_least : (d : List Edge) → edges_part g a b d ≡ true → v ≤ length d
  at_least d h =
      omega (arith, fewest d h, leaving_most g simple a ha d)

  -- One that is as small is left by as many.
  tight : (d : List Edge) → edges_part g a b d ≡ true → length d ≡ v → leaving g.order g.joined (λ q. linked (without_edges g d) a q) ≡ v
  tight d h l =
      omega (arith, l, fewest d h, leaving_most g simple a ha d)

  size_is : size (edge_cuts g a b) ≡ v
  size_is =
      let c = crossing_edges g (residual_side (both_ways g) f a) in
      let s = kept_sub _ (edge_list g) in
      let low = size_least (edges_part g a b) (edge_list g) c s cut_parts in
      let met = size_met (edges_part g a b) (edge_list g) c s cut_parts in
      omega (arith, low, cut_size, at_least met.0 met.2, met.3)

  -- The residual side lies inside what any smallest cut leaves.
  near_inside : (d : List Edge) → edges_part g a b d ≡ true → length d ≡ v → (q : ℕ) → residual_side (both_ways g) f a q ≡ true → linked (without_edges g d) a q ≡ true
  near_inside d h l =
      (largest_flow_lem (both_ways g) a b f v (both_sound g simple) flow ha stuck).3 (λ q. linked (without_edges g d) a q) (parted_between g simple a b ha d h) (tight d h l)

  each_cut : (d : List Edge) → In d (edge_cuts g a b) → Sub d (edge_list g) × (edges_part g a b d ≡ true) × (length d ≡ v)
  each_cut d i = let e = smallest_each (edges_part g a b) (edge_list g) d i in (e.0, e.1, e.2 ∙ size_is)

  cut_in : In (crossing_edges g (residual_side (both_ways g) f a)) (edge_cuts g a b)
  cut_in = smallest_every (edges_part g a b) (edge_list g) (crossing_edges g (residual_side (both_ways g) f a)) (kept_sub _ (edge_list g)) cut_parts (cut_size ∙ sym size_is)

  cut_innermost : all (λ d. inside (side (without_edges g (crossing_edges g (residual_side (both_ways g) f a))) a) (side (without_edges g d) a)) (edge_cuts g a b) ≡ true
  cut_innermost =
      in_all _ (edge_cuts g a b) (λ d i. let e = each_cut d i in
      all_from (among (side (without_edges g d) a)) (side (without_edges g (crossing_edges g (residual_side (both_ways g) f a))) a)
      (λ q h. near_inside d e.1 e.2 q (crossing_keeps g simple a b ha (residual_side (both_ways g) f a) between.0 q h)))

  -- A smallest cut whose side lies inside that cut's is that cut.
  only : (d : List Edge) → In d (edge_cuts g a b) → inside (side (without_edges g d) a) (side (without_edges g (crossing_edges g (residual_side (both_ways g) f a))) a) ≡ true
      → d ≡ crossing_edges g (residual_side (both_ways g) f a)
  only d i h =
      let e = each_cut d i in
      is_crossing g simple a ha d e.0 (tight d e.1 e.2 ∙ sym e.2)
      ∙ ap (crossing_edges g)
      (fun_ext (λ q. same_test (linked (without_edges g d) a q) (residual_side (both_ways g) f a q)
      (λ on. crossing_keeps g simple a b ha (residual_side (both_ways g) f a) between.0 q (all_at _ (side (without_edges g d) a) h q on))
      (near_inside d e.1 e.2 q)))

  nearest_found : In (nearest_edge_cut g a b) (edge_cuts g a b) × (all (λ d. inside (side (without_edges g (nearest_edge_cut g a b)) a) (side (without_edges g d) a)) (edge_cuts g a b) ≡ true)
  unfolding nearest_edge_cut
  nearest_found =
      find_in (λ c. all (λ d. inside (side (without_edges g c) a) (side (without_edges g d) a)) (edge_cuts g a b)) []
      (crossing_edges g (residual_side (both_ways g) f a)) (edge_cuts g a b) cut_in cut_innermost

  pub value_by_flow : edge_value g a b ≡ v
  unfolding edge_value
  value_by_flow = size_is

  pub nearest_by_flow : nearest_edge_cut g a b ≡ crossing_edges g (residual_side (both_ways g) f a)
  nearest_by_flow =
      only (nearest_edge_cut g a b) nearest_found.0
      (all_in (λ d. inside (side (without_edges g (nearest_edge_cut g a b)) a) (side (without_edges g d) a))
      (crossing_edges g (residual_side (both_ways g) f a)) (edge_cuts g a b) nearest_found.1 cut_in)

  pub pair_laws : In (nearest_edge_cut g a b) (edge_cuts g a b)
      × ((d : List Edge) → In d (edge_cuts g a b) → (edges_part g a b d ≡ true) × (length d ≡ edge_value g a b))
      × ((d : List Edge) → edges_part g a b d ≡ true → edge_value g a b ≤ length d)
      × ((d : List Edge) → In d (edge_cuts g a b) → inside (side (without_edges g (nearest_edge_cut g a b)) a) (side (without_edges g d) a) ≡ true)
      × ((d : List Edge) → In d (edge_cuts g a b)
      → ((e : List Edge) → In e (edge_cuts g a b) → inside (side (without_edges g d) a) (side (without_edges g e) a) ≡ true) → d ≡ nearest_edge_cut g a b)
  pair_laws = (
    nearest_found.0,
    λ d i. let e = each_cut d i in (e.1, e.2 ∙ sym value_by_flow),
    λ d h. omega (arith, value_by_flow, at_least d h),
    λ d i. all_in (λ x. inside (side (without_edges g (nearest_edge_cut g a b)) a) (side (without_edges g x) a)) d (edge_cuts g a b) nearest_found.1 i,
    λ d i h. only d i (h (crossing_edges g (residual_side (both_ways g) f a)) cut_in) ∙ sym nearest_by_flow,
  )

pub edge_value_by_flow_lem : EdgeValueByFlow
edge_value_by_flow_lem g a b f v simple ha hb ne flow stuck = (value_by_flow g simple a b ha f v flow stuck, nearest_by_flow g simple a b ha f v flow stuck)

pub nearest_edge_cut_laws : NearestEdgeCut
nearest_edge_cut_laws g a b simple ha hb ne =
    let m = most_exists_lem (both_ways g) a b (both_sound g simple) ha ne in
    pair_laws g simple a b ha m.flow m.value m.flows m.stuck

-- Parting goes both ways.
pub parts_turn : (g : Graph) → Simple g → (a b : ℕ) → a < g.order → b < g.order → (c : List Edge) → edges_part g a b c ≡ edges_part g b a c
parts_turn g simple a b ha hb c =
    ap not (same_test (linked (without_edges g c) a b) (linked (without_edges g c) b a)
    (reached_turn g.order (without_edges g c).joined even a b ha) (reached_turn g.order (without_edges g c).joined even b a hb))
  where
    even : (p q : ℕ) → (g.joined p q && not (has_edge c p q)) ≡ (g.joined q p && not (has_edge c q p))
    even p q = ap₂ (λ (x y : Bool). x && not y) (simple.symmetric p q) (has_swap c p q)
