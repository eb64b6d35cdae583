-- The items of a cut, gathered from what is written for each vertex and for each pair.
--
--   vertices_at, vertices_gathered   the vertices at which arcs leave a set
--   row_at, row_gathered             the edges from a vertex up that cross a set
--   across                           whether an edge leads from p to q on the other side
--   row_room, row_more, row_all      such a row written from one neighbour across to the next
--   edges_gathered                   all the edges that cross it
use Rattle.std.proofs.Common.{◌≡◌, ℕ, zero, suc, ◌+◌, ◌<◌, ◌≤◌, Bool, true, false, cond, not, ◌&&◌, ◌||◌, eqb, ltb, List, [], ◌∷◌, ◌++◌, map, length, Some, None, filter, Option, sym, refl, ap, ◌∙◌, arith}
use Rattle.std.proofs.lemmas.List.{append-nil, append_assoc, map-append}
use Rattle.std.proofs.lemmas.List.Elements.{filter-append}
use Rattle.std.proofs.lemmas.Bool.{cond-true, cond-false, lt-ltb, le-ltb, and_from, and_left, and_right}
use Rattle.graph.specs.Graph.{Graph}
use Rattle.graph.proofs.Firsts.{Found, first_some, first_all}
use Rattle.flows.specs.Lists.{upto}
use Rattle.cuts.specs.declared.edge.Edge.{Edge}
use Rattle.cuts.specs.Edges.{edge, edges_up, edges_of}
use Rattle.cuts.specs.Pairs.{crossing_edges, crossing_vertices}
use Rattle.std.specs.Bool.{then_some}
use Rattle.std.specs.Option.{option_to_list}
use Rattle.plan.specs.Writing.{placed, vertex_at, apart, next_across, crossing_row}
use Rattle.plan.proofs.Placing.{gathered, gathered_same, gathered_none, gathered_leap, Written, written_as, written_room, written_more}

-- A list made from the numbers below n, part by part.
by_parts : {X : Type 0} (h : List ℕ → List X) → h [] ≡ [] → ((xs ys : List ℕ) → h (xs ++ ys) ≡ h xs ++ h ys)
    → (n : ℕ) → h (upto n) ≡ gathered (λ i. h (i ∷ [])) n
unfolding upto gathered
by_parts h none both zero = none
by_parts {X} h none both (suc n) = both (upto n) (n ∷ []) ∙ ap (λ (zs : List X). zs ++ h (n ∷ [])) (by_parts h none both n)

-- An item that passes, as a list.
listed_when : {X : Type 0} (b : Bool) (x : X) → cond b (x ∷ []) [] ≡ option_to_list (then_some b x)
listed_when true x = refl
listed_when false x = refl

-- What is written for the vertex v.
abbrev pub vertices_at : Graph → ℕ → (ℕ → Bool) → ℕ → List ℕ
vertices_at g a u v = option_to_list (vertex_at g a u v)

-- The vertices of a cut, one after another.
pub vertices_gathered : (g : Graph) (a : ℕ) (u : ℕ → Bool) → crossing_vertices g a u ≡ gathered (vertices_at g a u) g.order
vertices_gathered g a u =
    let test : ℕ → Bool = λ v. (u v && not (u (g.order + v)) && not (eqb v a)) || (not (u v) && g.joined a v) in
    by_parts (filter test) refl (filter-append test) g.order ∙ gathered_same _ _ g.order (λ v _. listed_when (test v) v)

-- A vertex told by the map as it is now, which is as it was at first.
pub vertex_listed : (g h : Graph) (a : ℕ) (u : ℕ → Bool) (v : ℕ) (o : Option ℕ) → h ≡ g → o ≡ vertex_at h a u v → option_to_list o ≡ vertices_at g a u v
vertex_listed g h a u v o same e = ap (λ (x : Option ℕ). option_to_list x) (e ∙ ap (λ (k : Graph). vertex_at k a u v) same)

-- Room for the cut is room for what is written.
pub vertices_fit : (g h : Graph) (a : ℕ) (u : ℕ → Bool) (k room : ℕ) → g ≡ h → k + length (crossing_vertices h a u) ≤ room
    → k + length (gathered (vertices_at g a u) g.order) ≤ room
vertices_fit g h a u k room same l =
    omega (arith, ap length (vertices_gathered g a u), ap (λ (m : Graph). length (crossing_vertices m a u)) same)

-- What is written for all vertices is the cut.
pub vertices_all : (g h : Graph) (a : ℕ) (u : ℕ → Bool) (n : ℕ) → g ≡ h → n ≡ h.order → gathered (vertices_at g a u) n ≡ crossing_vertices h a u
vertices_all g h a u n same e =
    ap (gathered (vertices_at g a u)) (e ∙ ap (λ (k : Graph). k.order) (sym same))
    ∙ sym (vertices_gathered g a u)
    ∙ ap (λ (k : Graph). crossing_vertices k a u) same

-- Whether an edge leads from p to q, on the other side of a set.
abbrev pub across : Graph → (ℕ → Bool) → ℕ → ℕ → Bool
across g u p q = g.joined p q && apart u p q

-- What is written for q in the row of p.
abbrev pub row_at : Graph → (ℕ → Bool) → ℕ → ℕ → List Edge
row_at g u p q = cond (ltb p q && across g u p q) (edge p q ∷ []) []

-- A set has exactly one of p and q where it has p and not q, or q and not p.
by_side : (a b : Bool) → cond a (not b) b ≡ ((a && not b) || (b && not a))
by_side true true = refl
by_side true false = refl
by_side false true = refl
by_side false false = refl

-- In the row of p there is no pair up to p itself.
pub row_start : (g : Graph) (u : ℕ → Bool) (p : ℕ) → gathered (row_at g u p) (p + 1) ≡ []
row_start g u p = gathered_none (row_at g u p) (p + 1) (λ q l. cond-false _ _ _ (and_left (ltb p q) (across g u p q) (le-ltb p q (omega arith))))

-- Where no number from w to v is a neighbour across, nothing is written for these numbers.
row_leap : (g : Graph) (u : ℕ → Bool) (p w v : ℕ) → w ≤ v → ((q : ℕ) → w ≤ q → q < v → across g u p q ≡ false)
    → gathered (row_at g u p) w ≡ gathered (row_at g u p) v
row_leap g u p w v l e = gathered_leap (row_at g u p) w v l (λ q a b. cond-false _ _ _ (and_right (ltb p q) (across g u p q) (e q a b)))

-- One pair of a row.
one_of_row : (t : Edge → Bool) (f : ℕ → Edge) (q : ℕ) (low join : Bool)
    → filter t (map f (cond (low && join) (q ∷ []) [])) ≡ cond (low && (join && t (f q))) (f q ∷ []) []
one_of_row t f q false join = refl
one_of_row t f q true true = refl
one_of_row t f q true false = refl

-- The row of p, pair by pair.
pub row_gathered : (g : Graph) (u : ℕ → Bool) (p : ℕ) → crossing_row g u p ≡ gathered (row_at g u p) g.order
row_gathered g u p =
    let t : Edge → Bool = λ e. (u e.low && not (u e.high)) || (u e.high && not (u e.low)) in
    let s : ℕ → Bool = λ q. ltb p q && g.joined p q in
    let h : List ℕ → List Edge = λ xs. filter t (map (edge p) (filter s xs)) in
    by_parts h refl
    (λ xs ys. ap (λ (zs : List ℕ). filter t (map (edge p) zs)) (filter-append s xs ys)
    ∙ ap (filter t) (map-append (edge p) (filter s xs) (filter s ys))
    ∙ filter-append t (map (edge p) (filter s xs)) (map (edge p) (filter s ys)))
    g.order
    ∙ gathered_same _ _ g.order (λ q _. one_of_row t (edge p) q (ltb p q) (g.joined p q)
    ∙ ap (λ (b : Bool). cond (ltb p q && (g.joined p q && b)) (edge p q ∷ []) []) (sym (by_side (u p) (u q))))

-- What the lowest neighbour across is, by the map as it is now, which is as it was at first.
across_found : (g h : Graph) (u : ℕ → Bool) (p w : ℕ) {q : ℕ} → h ≡ g → Some q ≡ next_across h u p w → Found (across g u p) w g.order q
across_found g h u p w {q} same e = first_some (across g u p) w g.order q (sym (e ∙ ap (λ (k : Graph). next_across k u p w) same))

-- The row of p is written up to w, and q is the lowest neighbour from w up that is across.
module _ (g h : Graph) (u : ℕ → Bool) (p w q : ℕ) (start buffer : List Edge) (k j : ℕ) (up : p < w) (same : h ≡ g)
    (room : k + length (crossing_row g u p) ≤ length start) (so_far : Written start buffer k j (gathered (row_at g u p) w))
    (found : Some q ≡ next_across h u p w) where
  -- It is a vertex above p.
  pub above : (w ≤ q) × (q < g.order)
  above = let f = across_found g h u p w same found in (f.from, f.below)

  -- What is written up to w is all up to q.
  up_to : Written start buffer k j (gathered (row_at g u p) q)
  up_to = let f = across_found g h u p w same found in written_as (row_leap g u p w q f.from f.none) so_far

  -- The edge to q is written for q.
  for_q : edge p q ∷ [] ≡ row_at g u p q
  for_q =
      let f = across_found g h u p w same found in
      sym (cond-true (ltb p q && across g u p q) _ _ (and_from (ltb p q) (across g u p q) (lt-ltb p q (omega (arith, f.from))) f.here))

  -- The row fits.
  fits : k + length (gathered (row_at g u p) g.order) ≤ length start
  fits = omega (arith, ap length (row_gathered g u p))

  -- Room for the row is room for the edge to q.
  pub row_room : j < length buffer
  row_room =
      let r = written_room start buffer k j (row_at g u p) g.order q above.1 fits up_to (edge p q ∷ []) for_q in
      omega (arith, r)

  -- With that edge, the row is written up to q and q itself.
  pub row_more : (after : List Edge) (m : ℕ) → m ≡ j + 1 → after ≡ placed j (edge p q ∷ []) buffer
      → Written start after k m (gathered (row_at g u p) (q + 1))
  row_more after m next items =
      written_more start buffer k j (row_at g u p) g.order q above.1 fits up_to (edge p q ∷ []) for_q after m (omega (arith, next)) items

-- Where no neighbour is left across, the row is written.
pub row_all : (g h : Graph) (u : ℕ → Bool) (p w : ℕ) → h ≡ g → w ≤ g.order → None ≡ next_across h u p w → gathered (row_at g u p) w ≡ crossing_row g u p
row_all g h u p w same l none =
    row_leap g u p w g.order l (first_all (across g u p) w g.order (sym (none ∙ ap (λ (k : Graph). next_across k u p w) same)))
    ∙ sym (row_gathered g u p)

-- The edges of some vertices and of others.
of_append : (g : Graph) (us vs : List ℕ) → edges_of g (us ++ vs) ≡ edges_of g us ++ edges_of g vs
unfolding edges_of
of_append g [] vs = refl
of_append g (w ∷ us) vs = ap (λ (es : List Edge). edges_up g w ++ es) (of_append g us vs) ∙ sym (append_assoc (edges_up g w) (edges_of g us) (edges_of g vs))

-- All edges, row by row.
pub edges_gathered : (g : Graph) (u : ℕ → Bool) → crossing_edges g u ≡ gathered (crossing_row g u) g.order
unfolding edges_of
edges_gathered g u =
    let t : Edge → Bool = λ e. (u e.low && not (u e.high)) || (u e.high && not (u e.low)) in
    by_parts (λ us. filter t (edges_of g us)) refl
    (λ us vs. ap (filter t) (of_append g us vs) ∙ filter-append t (edges_of g us) (edges_of g vs))
    g.order
    ∙ gathered_same _ _ g.order (λ p _. ap (filter t) (append-nil (edges_up g p)))

-- Room for the cut is room for all rows.
pub edges_fit : (g h : Graph) (u : ℕ → Bool) (k room : ℕ) → g ≡ h → k + length (crossing_edges h u) ≤ room
    → k + length (gathered (crossing_row g u) g.order) ≤ room
edges_fit g h u k room same l =
    omega (arith, ap length (edges_gathered g u), ap (λ (m : Graph). length (crossing_edges m u)) same)

-- All rows are the cut.
pub edges_all : (g h : Graph) (u : ℕ → Bool) (n : ℕ) → g ≡ h → n ≡ h.order → gathered (crossing_row g u) n ≡ crossing_edges h u
edges_all g h u n same e =
    ap (gathered (crossing_row g u)) (e ∙ ap (λ (k : Graph). k.order) (sym same))
    ∙ sym (edges_gathered g u)
    ∙ ap (λ (k : Graph). crossing_edges k u) same
