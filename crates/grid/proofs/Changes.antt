-- What the two bits of an edge, set or cleared, do to the graph that the words mean.
use Rattle.std.proofs.Common.{◌≡◌, ℕ, ◌*◌, ◌<◌, ◌≤◌, Bool, true, false, cond, not, ◌&&◌, ◌||◌, ltb, List, refl, sym, ap, subst, ◌∙◌, ⊎_elim, arith}
use Rattle.std.proofs.lemmas.Bool.Decides.{nat_tests}
use Rattle.std.proofs.lemmas.Bool.{cases_lt}
use Rattle.graph.specs.Graph.{Simple, order_limit, same_edge, with_edge, without_edge}
use Rattle.graph.proofs.Edges.{same_graph, with_edge_simple, without_edge_simple}
use Rattle.bits.specs.Bits.{has}
use Rattle.grid.specs.Rows.{grid}

-- In the row's 256 bits: the test of the edge may stand inside or outside.
put_here : (n u v a b : ℕ) (x : Bool) → n ≤ 256 → u < n → v < n
    → ((ltb a n && ltb b 256) && cond (same_edge u v a b) true x) ≡ (((ltb a n && ltb b 256) && x) || same_edge u v a b)
put_here n u v a b x s hu hv = grind (arith, nat_tests)

-- Past them nothing is joined, and the edge is not there.
put_far : (n u v a b : ℕ) (x y : Bool) → n ≤ 256 → u < n → v < n → 256 ≤ b
    → ((ltb a n && ltb b 256) && x) ≡ (((ltb a n && ltb b 256) && y) || same_edge u v a b)
put_far n u v a b x y s hu hv hb = grind (arith, nat_tests)

-- Both bits set: the graph with that edge.
pub grid_put : (n u v : ℕ) (xs ys : List ℕ) → n ≤ order_limit → u < n → v < n
    → ((a b : ℕ) → b < 256 → has ys (4 * a) b ≡ cond (same_edge u v a b) true (has xs (4 * a) b))
    → grid n ys ≡ with_edge (grid n xs) u v
grid_put n u v xs ys s hu hv e =
    same_graph (grid n ys) (with_edge (grid n xs) u v) refl
    (λ a b. ⊎_elim
    (λ h. ap (λ (x : Bool). (ltb a n && ltb b 256) && x) (e a b h) ∙ put_here n u v a b (has xs (4 * a) b) (omega arith) hu hv)
    (λ h. put_far n u v a b (has ys (4 * a) b) (has xs (4 * a) b) (omega arith) hu hv h)
    (cases_lt b 256))

-- With both bits cleared the test of the edge may stand inside or outside too.
cut_here : (n u v a b : ℕ) (x : Bool) → ((ltb a n && ltb b 256) && cond (same_edge u v a b) false x) ≡ (((ltb a n && ltb b 256) && x) && not (same_edge u v a b))
cut_here n u v a b x = grind (arith, nat_tests)

cut_far : (n u v a b : ℕ) (x y : Bool) → 256 ≤ b → ((ltb a n && ltb b 256) && x) ≡ (((ltb a n && ltb b 256) && y) && not (same_edge u v a b))
cut_far n u v a b x y hb = grind (arith, nat_tests)

-- Both bits cleared: the graph without that edge.
pub grid_cut : (n u v : ℕ) (xs ys : List ℕ)
    → ((a b : ℕ) → b < 256 → has ys (4 * a) b ≡ cond (same_edge u v a b) false (has xs (4 * a) b))
    → grid n ys ≡ without_edge (grid n xs) u v
grid_cut n u v xs ys e =
    same_graph (grid n ys) (without_edge (grid n xs) u v) refl
    (λ a b. ⊎_elim
    (λ h. ap (λ (x : Bool). (ltb a n && ltb b 256) && x) (e a b h) ∙ cut_here n u v a b (has xs (4 * a) b))
    (λ h. cut_far n u v a b (has ys (4 * a) b) (has xs (4 * a) b) h)
    (cases_lt b 256))

-- Either way the graph stays simple.
pub put_simple : (n u v : ℕ) (xs ys : List ℕ) → Simple (grid n xs) → u < n → v < n → (u ≡ v → ⊥)
    → ((a b : ℕ) → b < 256 → has ys (4 * a) b ≡ cond (same_edge u v a b) true (has xs (4 * a) b))
    → Simple (grid n ys)
put_simple n u v xs ys s hu hv ne e =
    subst Simple (sym (grid_put n u v xs ys s.small hu hv e)) (with_edge_simple (grid n xs) u v s hu hv ne)

pub cut_simple : (n u v : ℕ) (xs ys : List ℕ) → Simple (grid n xs)
    → ((a b : ℕ) → b < 256 → has ys (4 * a) b ≡ cond (same_edge u v a b) false (has xs (4 * a) b))
    → Simple (grid n ys)
cut_simple n u v xs ys s e = subst Simple (sym (grid_cut n u v xs ys e)) (without_edge_simple (grid n xs) u v s)
