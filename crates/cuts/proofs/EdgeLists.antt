-- The list of a graph's edges: what stands in it, each once, and how many cross a set.
use Rattle.std.proofs.Common.{◌≡◌, ℕ, zero, suc, ◌+◌, ◌<◌, ◌≤◌, Bool, true, false, cond, not, ◌&&◌, ◌||◌, ltb, List, [], ◌∷◌, ◌++◌, map, length, filter, sym, refl, ap, ◌∙◌, subst, ap₂, inl, inr, ⊎_elim, append_assoc, arith, length-append}
use Rattle.std.proofs.lemmas.List.{append-nil}
use Rattle.std.proofs.lemmas.List.Elements.{filter-append}
use Rattle.std.proofs.lemmas.Bool.{cases_lt, cases_eq, and_parts, or_cases, lt-ltb, le-ltb, ltb-true, true≢false}
use Rattle.graph.specs.Graph.{Graph, Simple, count}
use Rattle.graph.proofs.Edges.{same_edge_ends, same_edge_swap}
use Rattle.flows.specs.Lists.{upto, any}
use Rattle.flows.specs.Flow.{total, leaving}
use Rattle.flows.proofs.Sums.{bit, total_same, total_swap, total₂_add, total₂_same, pairs_total}
use Rattle.cuts.specs.declared.edge.Edge.{Edge}
use Rattle.cuts.specs.Edges.{edge, edges_up, edges_of, edge_list, is_between, has_edge}
use Rattle.cuts.specs.Choices.{In}
use Rattle.cuts.specs.Pairs.{crossing_edges}
use Rattle.cuts.proofs.Smallest.{Sub, in_left, in_right, in_either, kept_in, kept_out}
use Rattle.cuts.proofs.Standing.{Distinct, sub_in, distinct_kept, distinct_append, in_upto, upto_below, distinct_upto}

in_map : (f : ℕ → Edge) (q : ℕ) (xs : List ℕ) → In q xs → In (f q) (map f xs)
in_map f q [] i = absurd i
in_map f q (x ∷ xs) i = ⊎_elim (λ e. inl (ap f e)) (λ j. inr (in_map f q xs j)) i

map_out : (f : ℕ → Edge) (e : Edge) (xs : List ℕ) → In e (map f xs) → (q : ℕ) × (e ≡ f q) × In q xs
map_out f e [] i = absurd i
map_out f e (x ∷ xs) i = ⊎_elim (λ s. (x, s, inl refl)) (λ j. let r = map_out f e xs j in (r.0, r.1, inr r.2)) i

distinct_map : (p : ℕ) (xs : List ℕ) → Distinct xs → Distinct (map (edge p) xs)
distinct_map p [] d = tt
distinct_map p (x ∷ xs) d =
    (λ i. let r = map_out (edge p) (edge p x) xs i in d.0 (subst (λ (y : ℕ). In y xs) (sym (ap (λ (e : Edge). e.high) r.1)) r.2), distinct_map p xs d.1)

module _ (g : Graph) where
  -- The edges from p up.
  up_in : (p q : ℕ) → p < q → q < g.order → g.joined p q ≡ true → In (edge p q) (edges_up g p)
  up_in p q l h j = in_map (edge p) q _ (kept_in (λ v. ltb p v && g.joined p v) q (upto g.order) (in_upto g.order q h) (ap₂ (λ (x y : Bool). x && y) (lt-ltb p q l) j))

  up_out : (p : ℕ) (e : Edge) → In e (edges_up g p) → (e.low ≡ p) × (p < e.high) × (e.high < g.order) × (g.joined p e.high ≡ true)
  up_out p e i =
      let r = map_out (edge p) e _ i in
      let k = kept_out (λ v. ltb p v && g.joined p v) r.0 (upto g.order) r.2 in
      let t = and_parts (ltb p r.0) (g.joined p r.0) k.1 in
      let high : e.high ≡ r.0 = ap (λ (x : Edge). x.high) r.1 in (
        ap (λ (x : Edge). x.low) r.1,
        subst (λ (x : ℕ). p < x) (sym high) (ltb-true p r.0 t.0),
        subst (λ (x : ℕ). x < g.order) (sym high) (upto_below g.order r.0 k.0),
        ap (g.joined p) high ∙ t.1,
      )

  of_in : (us : List ℕ) (p : ℕ) (e : Edge) → In p us → In e (edges_up g p) → In e (edges_of g us)
  unfolding edges_of
  of_in [] p e i j = absurd i
  of_in (u ∷ us) p e i j =
      ⊎_elim
      (λ s. in_left e (edges_up g u) (edges_of g us) (subst (λ (x : ℕ). In e (edges_up g x)) s j))
      (λ k. in_right e (edges_up g u) (edges_of g us) (of_in us p e k j))
      i

  of_out : (us : List ℕ) (e : Edge) → In e (edges_of g us) → In e.low us × In e (edges_up g e.low)
  unfolding edges_of
  of_out [] e i = absurd i
  of_out (u ∷ us) e i =
      ⊎_elim
      (λ j. let low = (up_out u e j).0 in (inl low, subst (λ (x : ℕ). In e (edges_up g x)) (sym low) j))
      (λ j. let r = of_out us e j in (inr r.0, r.1))
      (in_either e (edges_up g u) (edges_of g us) i)

  distinct_of : (us : List ℕ) → Distinct us → Distinct (edges_of g us)
  unfolding edges_of
  distinct_of [] d = tt
  distinct_of (u ∷ us) d =
      distinct_append (edges_up g u) (edges_of g us) (distinct_map u _ (distinct_kept _ (upto g.order) (distinct_upto g.order))) (distinct_of us d.1)
      (λ e i j. d.0 (subst (λ (x : ℕ). In x us) (up_out u e i).0 (of_out us e j).0))

  -- No edge stands twice.
  pub distinct_edges : Distinct (edge_list g)
  distinct_edges = distinct_of (upto g.order) (distinct_upto g.order)

  -- An edge from its lower to its higher end stands in the list, and nothing else does.
  pub edge_in : (p q : ℕ) → p < q → q < g.order → g.joined p q ≡ true → In (edge p q) (edge_list g)
  edge_in p q l h j = of_in (upto g.order) p (edge p q) (in_upto g.order p (omega arith)) (up_in p q l h j)

  pub edge_out : (e : Edge) → In e (edge_list g) → (e.low < e.high) × (e.high < g.order) × (g.joined e.low e.high ≡ true)
  edge_out e i = let r = up_out e.low e (of_out (upto g.order) e i).1 in (r.1, r.2, r.3)

any_out : (p : Edge → Bool) (xs : List Edge) → any p xs ≡ true → (x : Edge) × In x xs × (p x ≡ true)
unfolding any
any_out p [] h = let z : ⊥ = true≢false (sym h) in absurd z
any_out p (x ∷ xs) h =
    ⊎_elim (λ on. (x, inl refl, on)) (λ r. let o = any_out p xs r in (o.0, inr o.1, o.2)) (or_cases (p x) (any p xs) h)

-- A list of edges of the graph that has the two ends of an edge has the edge.
pub has_in : (g : Graph) (d : List Edge) (e : Edge) → Sub d (edge_list g) → In e (edge_list g) → has_edge d e.low e.high ≡ true → In e d
has_in g d e s i h =
    let o = any_out (is_between e.low e.high) d h in
    let x = o.0 in
    let xo = edge_out g x (sub_in s x o.1) in
    let eo = edge_out g e i in
    let same : x ≡ e =
    ⊎_elim
    (λ (p : (x.low ≡ e.low) × (x.high ≡ e.high)). ap₂ edge p.0 p.1)
    (λ (p : (x.low ≡ e.high) × (x.high ≡ e.low)). let a = p.0 in let b = p.1 in let l = xo.0 in let m = eo.0 in let z : ⊥ = omega arith in absurd z)
    (same_edge_ends x.low x.high e.low e.high o.2) in
    subst (λ (y : Edge). In y d) same o.1

kept_map : (t : Edge → Bool) (f : ℕ → Edge) (xs : List ℕ) → length (filter t (map f xs)) ≡ length (filter (λ q. t (f q)) xs)
kept_map t f [] = refl
kept_map t f (x ∷ xs) =
    elim (t (f x)) as (λ b. length (cond b (f x ∷ filter t (map f xs)) (filter t (map f xs))) ≡ length (cond b (x ∷ filter (λ q. t (f q)) xs) (filter (λ q. t (f q)) xs)))
    [ true ↦ ap suc (kept_map t f xs) | false ↦ kept_map t f xs ]

kept_kept : (t s : ℕ → Bool) (xs : List ℕ) → length (filter t (filter s xs)) ≡ length (filter (λ q. s q && t q) xs)
kept_kept t s [] = refl
kept_kept t s (x ∷ xs) =
    let k = filter s xs in
    let m = filter (λ q. s q && t q) xs in
    elim (s x) as (λ a. length (filter t (cond a (x ∷ k) k)) ≡ length (cond (a && t x) (x ∷ m) m)) [
      | true ↦ elim (t x) as (λ b. length (cond b (x ∷ filter t k) (filter t k)) ≡ length (cond b (x ∷ m) m)) [ true ↦ ap suc (kept_kept t s xs) | false ↦ kept_kept t s xs ]
      | false ↦ kept_kept t s xs
    ]

-- As many are kept below n as pass.
pub kept_count : (s : ℕ → Bool) (n : ℕ) → length (filter s (upto n)) ≡ count s n
unfolding upto count
kept_count s zero = refl
kept_count s (suc n) =
    ap length (filter-append s (upto n) (n ∷ [])) ∙ length-append (filter s (upto n)) (filter s (n ∷ []))
    ∙ ap₂ (λ (a b : ℕ). a + b) (kept_count s n) (one (s n))
  where
    one : (b : Bool) → length (cond b (n ∷ []) []) ≡ cond b 1 0
    one true = refl
    one false = refl

of_append : (g : Graph) (us vs : List ℕ) → edges_of g (us ++ vs) ≡ edges_of g us ++ edges_of g vs
unfolding edges_of
of_append g [] vs = refl
of_append g (u ∷ us) vs = ap (λ (es : List Edge). edges_up g u ++ es) (of_append g us vs) ∙ sym (append_assoc (edges_up g u) (edges_of g us) (edges_of g vs))

of_one : (g : Graph) (u : ℕ) → edges_of g (u ∷ []) ≡ edges_up g u
unfolding edges_of
of_one g u = append-nil (edges_up g u)

kept_total : (g : Graph) (t : Edge → Bool) (k : ℕ) → length (filter t (edges_of g (upto k))) ≡ total (λ p. length (filter t (edges_up g p))) k
unfolding upto total edges_of
kept_total g t zero = refl
kept_total g t (suc k) =
    let e : filter t (edges_of g (upto k ++ (k ∷ []))) ≡ filter t (edges_of g (upto k)) ++ filter t (edges_up g k) =
    ap (filter t) (of_append g (upto k) (k ∷ []) ∙ ap (λ (es : List Edge). edges_of g (upto k) ++ es) (of_one g k)) ∙ filter-append t (edges_of g (upto k)) (edges_up g k) in
    let l = ap length e ∙ length-append (filter t (edges_of g (upto k))) (filter t (edges_up g k)) in
    let ih = kept_total g t k in
    l ∙ omega (arith, ih)

up_count : (g : Graph) (t : Edge → Bool) (p : ℕ) → length (filter t (edges_up g p)) ≡ count (λ q. (ltb p q && g.joined p q) && t (edge p q)) g.order
up_count g t p =
    kept_map t (edge p) (filter (λ v. ltb p v && g.joined p v) (upto g.order))
    ∙ kept_kept (λ q. t (edge p q)) (λ v. ltb p v && g.joined p v) (upto g.order)
    ∙ kept_count (λ q. (ltb p q && g.joined p q) && t (edge p q)) g.order

-- The pairs that leave a set, told at the lower end, and told at the higher end.
module _ (g : Graph) (simple : Simple g) (u : ℕ → Bool) where
  leaves : ℕ → ℕ → Bool
  leaves p q = u p && (not (u q) && g.joined p q)

  crosses : Edge → Bool
  crosses e = (u e.low && not (u e.high)) || (u e.high && not (u e.low))

  low_first : ℕ → ℕ → ℕ
  low_first p q = bit (ltb p q && (u p && (not (u q) && g.joined p q)))

  high_first : ℕ → ℕ → ℕ
  high_first p q = bit (ltb q p && (u p && (not (u q) && g.joined p q)))

  either_way : (p q : ℕ) → bit (u p && (not (u q) && g.joined p q)) ≡ low_first p q + high_first p q
  unfolding low_first high_first
  either_way p q =
      ⊎_elim
      (λ e. let no_loop : g.joined p q ≡ false = ap (g.joined p) (sym e) ∙ simple.irreflexive p in
      rw no_loop (table (u p) (u q) (ltb p q) (ltb q p)))
      (λ ne. ⊎_elim
      (λ l. let le : p ≤ q = omega arith in rw (lt-ltb p q l, le-ltb q p le) (plain (u p && (not (u q) && g.joined p q))))
      (λ l. let lt : q < p = omega (arith, ne) in rw (le-ltb p q l, lt-ltb q p lt) (other (u p && (not (u q) && g.joined p q))))
      (cases_lt p q))
      (cases_eq p q)
    where
      table : (a b x y : Bool) → bit (a && (not b && false)) ≡ bit (x && (a && (not b && false))) + bit (y && (a && (not b && false)))
      table true true true true = refl
      table true true true false = refl
      table true true false true = refl
      table true true false false = refl
      table true false true true = refl
      table true false true false = refl
      table true false false true = refl
      table true false false false = refl
      table false b true true = refl
      table false b true false = refl
      table false b false true = refl
      table false b false false = refl

      plain : (a : Bool) → bit a ≡ bit (true && a) + bit (false && a)
      plain true = refl
      plain false = refl

      other : (a : Bool) → bit a ≡ bit (false && a) + bit (true && a)
      other true = refl
      other false = refl

  folded : (p q : ℕ) → low_first p q + high_first q p ≡ bit ((ltb p q && g.joined p q) && ((u p && not (u q)) || (u q && not (u p))))
  unfolding low_first high_first
  folded p q = rw (simple.symmetric q p) (table (ltb p q) (g.joined p q) (u p) (u q))
    where
      table : (l j a b : Bool) → bit (l && (a && (not b && j))) + bit (l && (b && (not a && j))) ≡ bit ((l && j) && ((a && not b) || (b && not a)))
      table true true true true = refl
      table true true true false = refl
      table true true false true = refl
      table true true false false = refl
      table true false true true = refl
      table true false true false = refl
      table true false false true = refl
      table true false false false = refl
      table false j a b = refl

  -- As many edges cross a set as arcs leave it.
  pub crossing_count : length (crossing_edges g u) ≡ leaving g.order g.joined u
  unfolding low_first high_first
  crossing_count =
      let n = g.order in
      kept_total g (λ e. (u e.low && not (u e.high)) || (u e.high && not (u e.low))) n
      ∙ total_same _ _ n (λ p h. up_count g (λ e. (u e.low && not (u e.high)) || (u e.high && not (u e.low))) p)
      ∙ pairs_total (λ p q. (ltb p q && g.joined p q) && ((u p && not (u q)) || (u q && not (u p)))) n
      ∙ sym (total₂_same (λ p q. low_first p q + high_first q p) (λ p q. bit ((ltb p q && g.joined p q) && ((u p && not (u q)) || (u q && not (u p))))) n (λ p q hp hq. folded p q))
      ∙ total₂_add low_first (λ p q. high_first q p) n
      ∙ ap (λ (x : ℕ). total (λ p. total (low_first p) n) n + x) (sym (total_swap high_first n n))
      ∙ sym (total₂_add low_first high_first n)
      ∙ sym (total₂_same (λ p q. bit (u p && (not (u q) && g.joined p q))) (λ p q. low_first p q + high_first p q) n (λ p q hp hq. either_way p q))
      ∙ sym (pairs_total (λ p q. u p && (not (u q) && g.joined p q)) n)

-- Whether a list has an edge does not depend on the order of its ends.
pub has_swap : (c : List Edge) (p q : ℕ) → has_edge c p q ≡ has_edge c q p
unfolding any
has_swap [] p q = refl
has_swap (d ∷ c) p q = ap₂ (λ (x y : Bool). x || y) (same_edge_swap d.low d.high p q) (has_swap c p q)
