-- A map as a list of cells: each edge is one number in a cell, and the cells in use ascend.
--
--   code, free                       the number of an edge; what a cell holds that was just freed
--   holds, Rising                    whether one of the first k cells holds c; those cells ascend
--   listing, listing_simple          the graph that the first k cells mean; it is simple
--   few_vertices                     what a make accepts is small enough for a graph
--   place                            where c belongs among the first k cells
--   inserted_cells, removed_cells    the cells after a number is put in, and after one is taken out
use Rattle.std.specs.Prelude.{◌≡◌, ℕ, zero, suc, ◌+◌, ◌-◌, ◌*◌, ◌<◌, ◌≤◌, min, max, Bool, true, false, not, ◌&&◌, ◌||◌, ltb, List, ◌∷◌, ◌++◌, take, drop, ◌==◌, nat_lt, slice_index, slice_range, refl}
use Rattle.std.proofs.Common.{sym, ap, ap₂, lit≤}
use Rattle.std.proofs.Math.Nat.{min_comm, max_comm, le_trans}
use Rattle.std.proofs.lemmas.Bool.{and_parts, and_left, and_right, not_from_true, eq-eqb, ltb-true}
use Rattle.std.proofs.lemmas.Bool.Decides.{same_from_decides, Decides-eqb, Decides-like}
use Rattle.graph.specs.Graph.{Graph, Simple, order_limit, count}
use Rattle.model.specs.Model.{make_limit}

-- The lower end times 256 and the higher end.
abbrev pub code : ℕ → ℕ → ℕ
code u v = min u v * 256 + max u v

-- No edge has this number, since 255 is no vertex.
abbrev pub free : ℕ
free = 65535

-- Whether one of the first k cells holds c.
unfoldable pub holds : ℕ → List ℕ → ℕ → Bool
holds zero xs c = false
holds (suc k) xs c = slice_index xs k == c || holds k xs c

-- The first k cells ascend.
abbrev pub Rising : ℕ → List ℕ → Type 0
Rising k xs = (i j : ℕ) → i < j → j < k → slice_index xs i < slice_index xs j

-- The graph of n vertices that the first k cells mean: u and v are joined if they are two
-- different vertices and one of those cells holds their number.
abbrev pub listing : ℕ → ℕ → List ℕ → Graph
listing n k xs = record { order = n; joined = λ u v. ((nat_lt u n && nat_lt v n) && not (u == v)) && holds k xs (code u v) }

-- Where c belongs among the first k cells: as many of them are below c.
abbrev pub place : ℕ → List ℕ → ℕ → ℕ
place k xs c = count (λ i. ltb (slice_index xs i) c) k

-- The cells after c went in at a place among the k in use: those from there on moved up by
-- one, and what lies behind them stayed.
abbrev pub inserted_cells : List ℕ → ℕ → ℕ → ℕ → List ℕ
inserted_cells xs k at c = take at xs ++ (c ∷ (slice_range xs at k ++ drop (k + 1) xs))

-- The cells after what stood at a place among the k in use was taken out: those behind it
-- moved down by one, the last of them is free now, and what lies behind that stayed.
abbrev pub removed_cells : List ℕ → ℕ → ℕ → List ℕ
removed_cells xs k at = take at xs ++ (take (k - (at + 1)) (drop (at + 1) xs) ++ (free ∷ drop k xs))

-- Two tests in either order.
and_swap : (a b : Bool) → (a && b) ≡ (b && a)
and_swap true true = refl
and_swap true false = refl
and_swap false true = refl
and_swap false false = refl

-- Two numbers compared in either order.
eqb_swap : (a b : ℕ) → (a == b) ≡ (b == a)
eqb_swap a b = same_from_decides (a == b) (b == a) (Decides-eqb a b) (Decides-like (b == a) sym sym (Decides-eqb b a))

-- An edge has one number from either end.
code_swap : (u v : ℕ) → code u v ≡ code v u
code_swap u v = ap₂ (λ (x y : ℕ). x * 256 + y) (min_comm u v) (max_comm u v)

-- Whatever the cells hold, they mean a simple graph.
pub listing_simple : (n k : ℕ) (xs : List ℕ) → 1 ≤ n → n ≤ order_limit → Simple (listing n k xs)
listing_simple n k xs some small = record {
  some = some;
  small = small;
  symmetric = λ u v.
      ap₂ (λ (x y : Bool). x && y)
      (ap₂ (λ (x y : Bool). x && not y) (and_swap (nat_lt u n) (nat_lt v n)) (eqb_swap u v))
      (ap (holds k xs) (code_swap u v));
  irreflexive = λ u. and_left _ _ (and_right (nat_lt u n && nat_lt u n) _ (not_from_true _ (eq-eqb u u refl)));
  bounded = λ u v h.
      let inside = and_parts _ _ (and_parts _ _ (and_parts _ _ h).0).0 in
      (ltb-true u n inside.0, ltb-true v n inside.1);
}

-- What a make accepts is small enough for a graph.
pub few_vertices : (n : ℕ) → n ≤ make_limit → n ≤ order_limit
few_vertices n few = le_trans few (lit≤ tt)
