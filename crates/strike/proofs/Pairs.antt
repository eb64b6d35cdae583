-- Lists of pairs of vertices: how many edges they list, and what they list without one of the pairs.
use Rattle.std.proofs.Common.{◌≡◌, ℕ, ◌+◌, ◌<◌, ◌≤◌, Bool, true, false, not, ◌&&◌, ◌||◌, eqb, ltb, List, [], ◌∷◌, ◌++◌, length, sym, refl, ap, ◌∙◌, ap₂, ⊎_elim, arith, IsPermutation, IsSome, Some, get_or}
use mathlib.Core.Path.{fun_ext}
use Rattle.std.specs.List.{position, position_or_len, swap_remove}
use Rattle.std.proofs.Math.Bool.{or-false, or_comm}
use Rattle.std.proofs.lemmas.Bool.Decides.{nat_tests}
use Rattle.std.proofs.lemmas.Bool.{cases_Bool, cases_lt, true≢false, lt-ltb}
use Rattle.std.proofs.lemmas.List.Folds.{list_any-append, list_any_none}
use Rattle.std.proofs.lemmas.List.Sorted.{list_any-IsPermutation, IsPermutation-swap_remove}
use Rattle.std.proofs.lemmas.List.Quantifiers.{position-Some}
use Rattle.std.proofs.lemmas.List.Sums.{fails_before_first}
use Rattle.graph.specs.Graph.{order_limit, same_edge, edges_below, added, removed}
use Rattle.graph.proofs.Edges.{same_edge_ends, edges_none, edges_ext, edges_added}
use Rattle.strike.specs.Struck.{listed, listed_swap}

-- A pair at the end lists its edge besides.
pub listed_push : (ps : List (ℕ × ℕ)) (u v : ℕ) → listed (ps ++ ((u, v) ∷ [])) ≡ added (listed ps) u v
listed_push ps u v =
    fun_ext (λ a. fun_ext (λ b. simp (list_any-append, or-false)))

-- What holds of an edge holds of its ends in either order.
either_way : (j : ℕ → ℕ → Bool) → ((a b : ℕ) → j a b ≡ j b a) → (u v a b : ℕ) (x : Bool) → j u v ≡ x → same_edge u v a b ≡ true → j a b ≡ x
either_way j even u v a b x h s =
    ⊎_elim
    (λ (p : (u ≡ a) × (v ≡ b)). ap₂ j (sym p.0) (sym p.1) ∙ h)
    (λ (p : (u ≡ b) × (v ≡ a)). even a b ∙ ap₂ j (sym p.0) (sym p.1) ∙ h)
    (same_edge_ends u v a b s)

-- A test that holds only where the other does adds nothing to it.
or_idle : (p s : Bool) → (s ≡ true → p ≡ true) → (p || s) ≡ p
or_idle p s h = grind (arith, cases_Bool)

-- A test that never holds where the other does can be added to it and taken off again.
or_undone : (p s : Bool) → (s ≡ true → p ≡ false) → ((p || s) && not s) ≡ p
or_undone p s h = grind (arith, cases_Bool)

-- Whether x and y are two different numbers below n.
abbrev apart_below : ℕ → ℕ → ℕ → Bool
apart_below n x y = ltb x n && (ltb y n && not (eqb x y))

-- One pair more is at most one edge more.
one_more : (n x y : ℕ) (j : ℕ → ℕ → Bool) → ((a b : ℕ) → j a b ≡ j b a) → edges_below n (added j x y) ≤ edges_below n j + 1
one_more n x y j even =
    ⊎_elim
    (λ on. idle (λ a b la lb s. either_way j even x y a b true on s))
    (λ off. ⊎_elim
    (λ ok. omega (arith, edges_added n j x y (grind (arith, nat_tests)) (grind (arith, nat_tests)) (λ e. grind (arith, nat_tests)) off (even y x ∙ off)))
    (λ out. idle (λ a b la lb s. grind (arith, nat_tests)))
    (cases_Bool (apart_below n x y)))
    (cases_Bool (j x y))
  where
    idle : ((a b : ℕ) → a < n → b < a → same_edge x y a b ≡ true → j a b ≡ true) → edges_below n (added j x y) ≤ edges_below n j + 1
    idle h = omega (arith, edges_ext n (added j x y) j (λ a b la lb. or_idle (j a b) (same_edge x y a b) (h a b la lb)))

-- A list has at most as many edges as pairs.
edges_listed : (n : ℕ) (ps : List (ℕ × ℕ)) → edges_below n (listed ps) ≤ length ps
edges_listed n [] = omega (arith, edges_none n (listed []) (λ _ _. refl))
edges_listed n (p ∷ ps) =
    let turned : edges_below n (listed (p ∷ ps)) ≡ edges_below n (added (listed ps) p.0 p.1) =
    edges_ext n (listed (p ∷ ps)) (added (listed ps) p.0 p.1) (λ a b la lb. or_comm (same_edge p.0 p.1 a b) (listed ps a b)) in
    omega (arith, turned, one_more n p.0 p.1 (listed ps) (listed_swap ps), edges_listed n ps)

-- Pairs that list as many edges as they are, one of them the edge between u and v, and the others in
-- any order.
module _ (old new : List (ℕ × ℕ)) (p : ℕ × ℕ) (u v : ℕ) (same : IsPermutation old (p ∷ new)) (here : same_edge p.0 p.1 u v ≡ true)
    (size : length old ≡ length new + 1) (counted : edges_below order_limit (listed old) ≡ length old) where
  -- The pair lists that edge, and no other.
  at_is : (x y a b : ℕ) → same_edge x y u v ≡ true → same_edge x y a b ≡ same_edge u v a b
  at_is x y a b h = grind (arith, nat_tests)

  -- The pairs list that edge besides what the others list.
  old_is : (a b : ℕ) → listed old a b ≡ added (listed new) u v a b
  old_is a b =
      list_any-IsPermutation (λ (q : ℕ × ℕ). same_edge q.0 q.1 a b) old (p ∷ new) same
      ∙ or_comm (same_edge p.0 p.1 a b) (listed new a b)
      ∙ ap (λ (x : Bool). listed new a b || x) (at_is p.0 p.1 a b here)

  -- It is not among the others: they would list one edge too many.
  gone : listed new u v ≡ false
  gone =
      ⊎_elim
      (λ on. let even : edges_below order_limit (listed old) ≡ edges_below order_limit (listed new) =
      edges_ext order_limit (listed old) (listed new)
      (λ a b la lb. old_is a b ∙ or_idle (listed new a b) (same_edge u v a b) (either_way (listed new) (listed_swap new) u v a b true on)) in
      let z : ⊥ = omega (arith, even, counted, edges_listed order_limit new, size) in absurd z)
      (λ off. off)
      (cases_Bool (listed new u v))

  -- The others list what all did but for that edge.
  pub one_cleared : listed new ≡ removed (listed old) u v
  one_cleared =
      fun_ext (λ a. fun_ext (λ b. sym (
      ap (λ (x : Bool). x && not (same_edge u v a b)) (old_is a b)
      ∙ or_undone (listed new a b) (same_edge u v a b) (either_way (listed new) (listed_swap new) u v a b false gone))))

-- Whether a pair is the edge between u and v.
abbrev pub is_edge : ℕ → ℕ → (ℕ × ℕ) → Bool
is_edge u v p = same_edge p.0 p.1 u v

-- A listed edge is found: if every pair failed, none would list it.
pub listed_found : (ps : List (ℕ × ℕ)) (u v : ℕ) → listed ps u v ≡ true → IsSome (position (is_edge u v) ps)
listed_found ps u v h =
    let edge = is_edge u v in
    ⊎_elim
    (λ l. rw (lt-ltb (position_or_len edge ps) (length ps) l) refl)
    (λ l. absurd (true≢false (sym h ∙ list_any_none edge ps (λ k d m. fails_before_first edge ps k d (omega arith)))))
    (cases_lt (position_or_len edge ps) (length ps))

-- The found pair is cleared by the last one in its place: the pairs then list every edge but that one.
pub cleared : (pairs new : List (ℕ × ℕ)) (x : ℕ × ℕ) (at u v : ℕ) → position (is_edge u v) pairs ≡ Some at → x ≡ get_or pairs at x
    → new ≡ swap_remove pairs at x → length new + 1 ≡ length pairs → edges_below order_limit (listed pairs) ≡ length pairs
    → listed new ≡ removed (listed pairs) u v
cleared pairs new x at u v found here after size counted =
    let first = position-Some (is_edge u v) pairs at x found in
    let kept : IsPermutation pairs (x ∷ swap_remove pairs at x) = IsPermutation-swap_remove pairs at x first.0 here in
    one_cleared pairs new x u v (rw (sym after) at kept) (ap (is_edge u v) here ∙ first.1) (sym size) counted
