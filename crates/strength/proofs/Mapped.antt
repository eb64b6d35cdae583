-- The check maps: what the computations give by computing, and the connectivities by the
-- theorems, where brute force would take too long, or by computing.
use Rattle.std.proofs.Common.{◌≡◌, ◌≤◌, List, [], ◌∷◌, All, sym, refl, ap, ◌∙◌, arith}
use Rattle.std.specs.List.{AllByRecursion}
use Rattle.std.proofs.lemmas.List.Elements.{All-nil, All-cons, All-head, All-tail, All-from_recursion}
use Rattle.graph.specs.Graph.{Simple}
use Rattle.flows.specs.Lists.{upto, any, all}
use Rattle.flows.specs.Reach.{rounds, reached}
use Rattle.cuts.specs.declared.edge.Edge.{Edge}
use Rattle.cuts.specs.Choices.{choices, smallest_from}
use Rattle.cuts.specs.Cuts.{edge_connectivity, vertex_connectivity}
use Rattle.cuts.specs.Maps.{Check, Computes, Outcome, check_maps, two_apart, two_joined, ring_of_five, four_but_one, bridged_triangles, shared_triangles}
use Rattle.cuts.proofs.Shown.{computed}
use Rattle.strength.specs.Checked.{Holds, CheckMapsHold}
use Rattle.strength.proofs.EdgeComputed.{edge_strength_lem}
use Rattle.strength.proofs.Refuted.{good, graph_of_simple, path_simple, hub_simple}

-- With the edge connectivity from the theorem.
by_theorem : (c : Check) → Simple c.map → 2 ≤ c.map.order → Computes c → edge_connectivity c.map ≡ c.by_edges.strength
by_theorem c simple two h = sym (edge_strength_lem c.map simple two) ∙ ap (λ (o : Outcome Edge). o.strength) h.0

-- Each is a simple graph of two or more vertices.
abbrev Sized : Check → Type 0
Sized c = Simple c.map × (2 ≤ c.map.order)

apart_simple : Simple two_apart
unfolding good
apart_simple = graph_of_simple 2 _ (omega arith) (omega arith) refl

joined_simple : Simple two_joined
unfolding good
joined_simple = graph_of_simple 2 _ (omega arith) (omega arith) refl

ring_simple : Simple ring_of_five
unfolding good
ring_simple = graph_of_simple 5 _ (omega arith) (omega arith) refl

four_simple : Simple four_but_one
unfolding good
four_simple = graph_of_simple 4 _ (omega arith) (omega arith) refl

bridged_simple : Simple bridged_triangles
unfolding good
bridged_simple = graph_of_simple 6 _ (omega arith) (omega arith) refl

shared_simple : Simple shared_triangles
unfolding good
shared_simple = graph_of_simple 5 _ (omega arith) (omega arith) refl

each_sized : AllByRecursion Sized check_maps
each_sized = (
  (apart_simple, omega arith),
  (
    (joined_simple, omega arith),
    (
      (path_simple, omega arith),
      (
        (ring_simple, omega arith),
        ((four_simple, omega arith), ((bridged_simple, omega arith), ((shared_simple, omega arith), ((hub_simple, omega arith), tt)))),
      ),
    ),
  ),
)

sized : All Sized check_maps
sized = All-from_recursion Sized check_maps each_sized

abbrev ByTrying : Check → Type 0
ByTrying c = vertex_connectivity c.map ≡ c.by_vertices.strength

-- The vertex connectivities, by trying all sets of vertices.
each_by_trying : AllByRecursion ByTrying check_maps
unfolding upto any all rounds reached choices smallest_from vertex_connectivity
each_by_trying = (refl, (refl, (refl, (refl, (refl, (refl, (refl, (refl, tt))))))))

by_trying : All ByTrying check_maps
by_trying = All-from_recursion ByTrying check_maps each_by_trying

together : (cs : List Check) → All Sized cs → All Computes cs → All ByTrying cs → All Holds cs
together [] s h v = All-nil Holds
together (c ∷ cs) s h v =
    let size = All-head Sized c cs s in
    let first = All-head Computes c cs h in
    let tried = All-head ByTrying c cs v in
    All-cons Holds c cs
    (size.0, first, by_theorem c size.0 size.1 first, tried)
    (together cs (All-tail Sized c cs s) (All-tail Computes c cs h) (All-tail ByTrying c cs v))

pub check_maps_hold_lem : CheckMapsHold
check_maps_hold_lem = together check_maps sized computed by_trying
