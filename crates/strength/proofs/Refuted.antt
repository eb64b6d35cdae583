-- Wrong variants, refuted by computing on a map.
use Rattle.std.proofs.Common.{◌≡◌, ℕ, ◌<◌, ◌≤◌, Bool, true, false, not, ◌&&◌, ◌||◌, eqb, ltb, leb, List, [], ◌∷◌, sym, refl, ap, ◌∙◌, ap₂, ⊎_elim, arith}
use Rattle.std.proofs.lemmas.Bool.{and_parts, or_cases, ltb-true, true≢false, cases_Bool, eq-eqb, eqb-true}
use Rattle.std.proofs.lemmas.Bool.Decides.{nat_tests}
use Rattle.graph.specs.Graph.{Simple, count, order_limit}
use Rattle.graph.proofs.Edges.{same_edge_swap, same_edge_ends}
use Rattle.flows.specs.Lists.{upto, any, all}
use Rattle.flows.specs.Reach.{rounds, reached}
use Rattle.cuts.specs.declared.edge.Edge.{Edge}
use Rattle.cuts.specs.Edges.{is_between, has_edge}
use Rattle.cuts.specs.Choices.{choices, smallest_from, find, least}
use Rattle.cuts.specs.Cuts.{vertex_value, nearest_vertex_cut, vertex_connectivity}
use Rattle.cuts.specs.Maps.{graph_of, cliques_and_hub, path_of_three, hub_joins, in_first, in_second}
use Rattle.strength.specs.Variants.{rounds_with, seven, VariantsRefuted, SevenRefutes, HubRefutes, NearEndRefuted}

-- Every listed edge has its lower end first and its higher end below n.
unfoldable pub good : ℕ → List Edge → Bool
good n [] = true
good n (e ∷ es) = (ltb e.low e.high && ltb e.high n) && good n es

has_swap : (es : List Edge) (u v : ℕ) → has_edge es u v ≡ has_edge es v u
unfolding any
has_swap [] u v = refl
has_swap (e ∷ es) u v = ap₂ (λ (x y : Bool). x || y) (same_edge_swap e.low e.high u v) (has_swap es u v)

has_bounded : (n : ℕ) (es : List Edge) (u v : ℕ) → good n es ≡ true → has_edge es u v ≡ true → (u < n) × ((v < n) × (u ≡ v → ⊥))
unfolding any good
has_bounded n [] u v ok h = let z : ⊥ = true≢false (sym h) in absurd z
has_bounded n (e ∷ es) u v ok h =
    let o = and_parts (ltb e.low e.high && ltb e.high n) (good n es) ok in
    let b = and_parts (ltb e.low e.high) (ltb e.high n) o.0 in
    let low = ltb-true e.low e.high b.0 in
    let high = ltb-true e.high n b.1 in
    ⊎_elim
    (λ s. ⊎_elim
    (λ (p : (e.low ≡ u) × (e.high ≡ v)). let x = p.0 in let y = p.1 in (omega arith, (omega arith, λ q. omega arith)))
    (λ (p : (e.low ≡ v) × (e.high ≡ u)). let x = p.0 in let y = p.1 in (omega arith, (omega arith, λ q. omega arith)))
    (same_edge_ends e.low e.high u v s))
    (λ s. has_bounded n es u v o.1 s)
    (or_cases (is_between u v e) (has_edge es u v) h)

-- A graph by such edges is simple.
pub graph_of_simple : (n : ℕ) (es : List Edge) → 1 ≤ n → n ≤ order_limit → good n es ≡ true → Simple (graph_of n es)
graph_of_simple n es some small ok = record {
  some = some;
  small = small;
  symmetric = has_swap es;
  irreflexive = λ u. ⊎_elim (λ h. let z : ⊥ = (has_bounded n es u u ok h).1.1 refl in absurd z) (λ h. h) (cases_Bool (has_edge es u u));
  bounded = λ u v h. let b = has_bounded n es u v ok h in (b.0, b.1.0);
}

-- The path of three vertices is, and the map of seven.
pub path_simple : Simple path_of_three
unfolding good
path_simple = graph_of_simple 3 _ (omega arith) (omega arith) refl

seven_simple : Simple seven
unfolding good
seven_simple = graph_of_simple 7 _ (omega arith) (omega arith) refl

-- On the map of seven vertices the runs from r give 4, and the truth is 3.
pub seven_refutes_lem : SevenRefutes
unfolding count upto any all rounds reached choices smallest_from find least vertex_value vertex_connectivity
seven_refutes_lem = (seven_simple, refl, refl)

-- On the path of three what is read at the near end is the first vertex, and no cut.
pub near_end_refuted_lem : NearEndRefuted
unfolding count upto any all rounds reached choices smallest_from find least nearest_vertex_cut
near_end_refuted_lem h =
    let t : true ≡ false = sym (h path_of_three 0 2 path_simple (omega arith) (omega arith) (λ e. omega arith) refl) in true≢false t

-- The two cliques and the hub are a simple graph.
or_swap : (x y : Bool) → (x || y) ≡ (y || x)
or_swap true true = refl
or_swap true false = refl
or_swap false true = refl
or_swap false false = refl

and_swap : (x y : Bool) → (x && y) ≡ (y && x)
and_swap true true = refl
and_swap true false = refl
and_swap false true = refl
and_swap false false = refl

eqb_swap : (u v : ℕ) → eqb u v ≡ eqb v u
eqb_swap u v = grind (arith, nat_tests)

hub_low : (v : ℕ) → hub_joins v ≡ true → v < 12
unfolding any
hub_low v h = grind (arith, nat_tests)

clique_low : (u v : ℕ) → ((in_first u && in_first v) || (in_second u && in_second v)) ≡ true → (u < 12) × (v < 12)
clique_low u v h =
    ⊎_elim
    (λ a. let p = and_parts (in_first u) (in_first v) a in let x = ltb-true u 6 p.0 in let y = ltb-true v 6 p.1 in (omega arith, omega arith))
    (λ a. let p = and_parts (in_second u) (in_second v) a in
    let x = ltb-true u 12 (and_parts (leb 6 u) (ltb u 12) p.0).1 in
    let y = ltb-true v 12 (and_parts (leb 6 v) (ltb v 12) p.1).1 in
    (omega arith, omega arith))
    (or_cases (in_first u && in_first v) (in_second u && in_second v) h)

hub_edge : (u v : ℕ) → (eqb u 12 && hub_joins v) ≡ true → (u ≡ 12) × (v < 12)
hub_edge u v h = let p = and_parts (eqb u 12) (hub_joins v) h in (eqb-true u 12 p.0, hub_low v p.1)

pub hub_simple : Simple cliques_and_hub
hub_simple = record {
  some = omega arith;
  small = omega arith;
  symmetric = λ u v.
      ap₂ (λ (x y : Bool). x || y)
      (ap₂ (λ (x y : Bool). not x && y) (eqb_swap u v) (ap₂ (λ (x y : Bool). x || y) (and_swap (in_first u) (in_first v)) (and_swap (in_second u) (in_second v))))
      (or_swap (eqb u 12 && hub_joins v) (eqb v 12 && hub_joins u));
  irreflexive = λ u. ⊎_elim (λ h. let z : ⊥ = loop u h in absurd z) (λ h. h) (cases_Bool (cliques_and_hub.joined u u));
  bounded = λ u v h.
      ⊎_elim
      (λ a. let p = clique_low u v (and_parts (not (eqb u v)) _ a).1 in let x = p.0 in let y = p.1 in (omega arith, omega arith))
      (λ a. ⊎_elim
      (λ b. let p = hub_edge u v b in let x = p.0 in let y = p.1 in (omega arith, omega arith))
      (λ b. let p = hub_edge v u b in let x = p.0 in let y = p.1 in (omega arith, omega arith))
      (or_cases (eqb u 12 && hub_joins v) (eqb v 12 && hub_joins u) a))
      (or_cases _ _ h);
}
  where
    spoke : (u : ℕ) → (eqb u 12 && hub_joins u) ≡ true → ⊥
    spoke u b = let p = hub_edge u u b in let x = p.0 in let y = p.1 in omega arith

    loop : (u : ℕ) → cliques_and_hub.joined u u ≡ true → ⊥
    loop u h =
        ⊎_elim
        (λ a. let p = and_parts (not (eqb u u)) ((in_first u && in_first u) || (in_second u && in_second u)) a in
        true≢false (sym p.0 ∙ ap not (eq-eqb u u refl)))
        (λ a. ⊎_elim (spoke u) (spoke u) (or_cases (eqb u 12 && hub_joins u) (eqb u 12 && hub_joins u) a))
        (or_cases (not (eqb u u) && ((in_first u && in_first u) || (in_second u && in_second u))) ((eqb u 12 && hub_joins u) || (eqb u 12 && hub_joins u)) h)

-- On it the runs from r give 2, and the truth is 1.
pub hub_refutes_lem : HubRefutes
unfolding count upto any all rounds reached choices smallest_from find least vertex_value vertex_connectivity
hub_refutes_lem = (hub_simple, refl, refl)

two_is_not_one : ◌≡◌ {A = ℕ} 2 1 → ⊥
two_is_not_one e = omega arith

-- And it refutes all three.
pub variants_refuted_lem : VariantsRefuted
unfolding count upto any all rounds reached choices smallest_from find least vertex_value vertex_connectivity rounds_with
variants_refuted_lem = (
  λ h. two_is_not_one (h cliques_and_hub hub_simple (omega arith) refl),
  λ h. two_is_not_one (h cliques_and_hub hub_simple (omega arith) refl),
  λ h. two_is_not_one (h cliques_and_hub hub_simple (omega arith) refl),
)
