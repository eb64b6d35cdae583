-- The graph that cells mean, as an edge goes in and out.
use Rattle.std.proofs.Common.{◌≡◌, ℕ, ◌+◌, ◌-◌, ◌<◌, ◌≤◌, Bool, false, not, ◌&&◌, ◌||◌, eqb, ltb, List, get_or, refl, ap, ◌∙◌, ⊎_elim, arith}
use Rattle.std.proofs.lemmas.Bool.Decides.{nat_tests}
use Rattle.std.proofs.lemmas.Bool.{cases_lt, lt-ltb, ne_eqb, and_right}
use Rattle.graph.specs.Graph.{order_limit, edges, same_edge, empty, with_edge, without_edge}
use Rattle.graph.proofs.Edges.{same_graph, edges_none}
use Rattle.list.specs.Cells.{code, holds, Rising, listing}
use Rattle.list.proofs.Shifts.{Inserted, Removed}
use Rattle.list.proofs.Held.{held_inserted, held_removed}

-- Two different vertices are joined where their number is held.
pub listing_inside : (n k : ℕ) (xs : List ℕ) (u v : ℕ) → u < n → v < n → (u ≡ v → ⊥) → holds k xs (code u v) ≡ (listing n k xs).joined u v
listing_inside n k xs u v hu hv ne = rw (lt-ltb u n hu, lt-ltb v n hv, ne_eqb u v ne)

-- With no cell in use there is no edge.
pub listing_none : (n : ℕ) (xs : List ℕ) → listing n 0 xs ≡ empty n
unfolding holds
listing_none n xs = same_graph (listing n 0 xs) (empty n) refl (λ u v. and_right ((ltb u n && ltb v n) && not (eqb u v)) false refl)

-- So the number of edges is 0.
pub listing_edgeless : (n : ℕ) (xs : List ℕ) → edges (listing n 0 xs) ≡ 0
listing_edgeless n xs = ap edges (listing_none n xs) ∙ edges_none n (λ u v. false) (λ u v. refl)

-- Two edges have one number only if they are the same.
same_code : (a b u v : ℕ) → a < 256 → b < 256 → u < 256 → v < 256 → eqb (code a b) (code u v) ≡ same_edge a b u v
same_code a b u v ha hb hu hv = grind (arith, nat_tests)

-- Two vertices stay two different vertices as an edge between them is added.
put_here : (n u v a b : ℕ) (x : Bool) → u < n → v < n → (u ≡ v → ⊥)
    → (((ltb a n && ltb b n) && not (eqb a b)) && (x || same_edge u v a b)) ≡ ((((ltb a n && ltb b n) && not (eqb a b)) && x) || same_edge u v a b)
put_here n u v a b x hu hv ne = grind (arith, nat_tests)

-- And as one is taken away.
take_here : (n u v a b : ℕ) (x : Bool)
    → (((ltb a n && ltb b n) && not (eqb a b)) && (x && not (same_edge u v a b))) ≡ ((((ltb a n && ltb b n) && not (eqb a b)) && x) && not (same_edge u v a b))
take_here n u v a b x = grind (arith, nat_tests)

-- Outside, what the cells hold does not matter.
off : (n a b : ℕ) (x y : Bool) → ((a < n) × (b < n) → ⊥) → (((ltb a n && ltb b n) && not (eqb a b)) && x) ≡ (((ltb a n && ltb b n) && not (eqb a b)) && y)
off n a b x y h = grind (arith, nat_tests)

-- Tests of numbers that agree at the codes of vertices mean the same there.
guarded : (n u v a b : ℕ) (p q : ℕ → Bool) (f : Bool → Bool → Bool) → n ≤ order_limit → u < n → v < n → ((d : ℕ) → p d ≡ f (q d) (eqb (code u v) d))
    → (((ltb a n && ltb b n) && not (eqb a b)) && p (code a b)) ≡ (((ltb a n && ltb b n) && not (eqb a b)) && f (q (code a b)) (same_edge u v a b))
guarded n u v a b p q f small hu hv e =
    ⊎_elim
    (λ ha. ⊎_elim
    (λ hb. ap (λ (x : Bool). ((ltb a n && ltb b n) && not (eqb a b)) && x)
    (e (code a b) ∙ ap (f (q (code a b))) (same_code u v a b (omega arith) (omega arith) (omega arith) (omega arith))))
    (λ hb. off n a b (p (code a b)) (f (q (code a b)) (same_edge u v a b)) (λ h. omega (arith, h.1)))
    (cases_lt b n))
    (λ ha. off n a b (p (code a b)) (f (q (code a b)) (same_edge u v a b)) (λ h. omega (arith, h.0)))
    (cases_lt a n)

-- The number of an edge put in is that edge laid.
pub listing_inserted : (n k : ℕ) (xs ys : List ℕ) (at u v : ℕ) → n ≤ order_limit → u < n → v < n → (u ≡ v → ⊥) → at ≤ k
    → Inserted xs ys k at (code u v) → listing n (k + 1) ys ≡ with_edge (listing n k xs) u v
listing_inserted n k xs ys at u v small hu hv ne le e =
    same_graph (listing n (k + 1) ys) (with_edge (listing n k xs) u v) refl
    (λ a b. guarded n u v a b (holds (k + 1) ys) (holds k xs) (λ x y. x || y) small hu hv (λ d. held_inserted k xs ys at (code u v) d le e)
    ∙ put_here n u v a b (holds k xs (code a b)) hu hv ne)

-- The number of an edge taken out is that edge taken up.
pub listing_removed : (n k : ℕ) (xs ys : List ℕ) (at u v : ℕ) → n ≤ order_limit → u < n → v < n → Rising k xs → at < k → get_or xs at 0 ≡ code u v
    → Removed xs ys k at → listing n (k - 1) ys ≡ without_edge (listing n k xs) u v
listing_removed n k xs ys at u v small hu hv up l stood e =
    same_graph (listing n (k - 1) ys) (without_edge (listing n k xs) u v) refl
    (λ a b. guarded n u v a b (holds (k - 1) ys) (holds k xs) (λ x y. x && not y) small hu hv (λ d. held_removed k xs ys at (code u v) d up l stood e)
    ∙ take_here n u v a b (holds k xs (code a b)))
