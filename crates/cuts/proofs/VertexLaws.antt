-- What is left without some vertices, and the laws of the vertex value that need no flow: it is
-- the same both ways, and at most the degree of either end.
use Rattle.std.proofs.Common.{◌≡◌, ℕ, ◌<◌, ◌≤◌, Bool, true, false, not, ◌&&◌, ◌||◌, eqb, ltb, List, filter, sym, refl, ap, ◌∙◌, ap₂, arith}
use mathlib.Core.Path.{fun_ext}
use Rattle.std.proofs.lemmas.Bool.{both_ways, and_from, and_parts, or_from, or_parts, not-true, not_from_false, eqb-true, eq-eqb, ne_eqb, lt-ltb, ltb-true}
use Rattle.graph.specs.Graph.{Graph, Simple, degree}
use Rattle.flows.specs.Lists.{upto, among}
use Rattle.flows.specs.Reach.{reaches}
use Rattle.flows.proofs.Lists.{same_test, never_true}
use Rattle.flows.proofs.Reached.{reached_least, reached_turn}
use Rattle.cuts.specs.Edges.{without_vertices}
use Rattle.cuts.specs.Choices.{smallest, size}
use Rattle.cuts.specs.Cuts.{vertices_part, others, vertex_cuts, vertex_value}
use Rattle.cuts.specs.Pairs.{VertexValueLaws}
use Rattle.cuts.proofs.Smallest.{Sub, size_least}
use Rattle.cuts.proofs.EdgeLists.{kept_count}
use Rattle.cuts.proofs.VertexLists.{kept_same, kept_within, among_filter, sub_among}

-- Either of two, in either order.
or_swap : (a b : Bool) → (a || b) ≡ (b || a)
or_swap a b = grind arith

-- A step in what is left is an edge between two vertices that are left.
pub step_parts : (g : Graph) (c : List ℕ) (u v : ℕ) → (without_vertices g c).joined u v ≡ true → (g.joined u v ≡ true) × (among c u ≡ false) × (among c v ≡ false)
step_parts g c u v e =
    let k = and_parts (g.joined u v) _ e in
    let l = or_parts (among c u) (among c v) (not-true _ k.1) in
    (k.0, l.0, l.1)

-- And such an edge is a step.
pub step_from : (g : Graph) (c : List ℕ) (u v : ℕ) → g.joined u v ≡ true → among c u ≡ false → among c v ≡ false → (without_vertices g c).joined u v ≡ true
step_from g c u v j x y = and_from _ _ j (not_from_false _ (or_from _ _ x y))

-- The vertices other than the ends.
pub others_are : (g : Graph) (a b v : ℕ) → among (others g a b) v ≡ true → (v < g.order) × (v ≡ a → ⊥) × (v ≡ b → ⊥)
others_are g a b v m =
    let k = and_parts (ltb v g.order) _ (sym (among_filter (λ v. not (eqb v a || eqb v b)) g.order v) ∙ m) in
    let l = or_parts (eqb v a) (eqb v b) (not-true _ k.1) in
    (ltb-true v g.order k.0, (λ e. both_ways (eqb v a) l.0 (eq-eqb v a e)), (λ e. both_ways (eqb v b) l.1 (eq-eqb v b e)))

-- A sublist of them has neither end.
pub no_end : (g : Graph) (a b : ℕ) (c : List ℕ) → Sub c (others g a b) → (among c a ≡ false) × (among c b ≡ false)
no_end g a b c s = (
  never_true _ (λ m. (others_are g a b a (sub_among s a m)).1 refl),
  never_true _ (λ m. (others_are g a b b (sub_among s b m)).2 refl),
)

-- A filter that no end passes keeps a sublist of them.
pub kept_others : (g : Graph) (a b : ℕ) (t : ℕ → Bool) → t a ≡ false → t b ≡ false → Sub (filter t (upto g.order)) (others g a b)
kept_others g a b t fa fb =
    kept_within t (λ v. not (eqb v a || eqb v b)) (upto g.order)
    (λ v h. not_from_false _ (or_from _ _ (ne_eqb v a (λ e. both_ways (t a) fa (ap t (sym e) ∙ h))) (ne_eqb v b (λ e. both_ways (t b) fb (ap t (sym e) ∙ h)))))

module _ (g : Graph) (s : Simple g) (a b : ℕ) (ha : a < g.order) (hb : b < g.order) where
  -- Parting has no direction.
  pub part_turn : (c : List ℕ) → vertices_part g a b c ≡ vertices_part g b a c
  part_turn c =
      ap not (same_test _ _ (reached_turn g.order (without_vertices g c).joined even a b ha) (reached_turn g.order (without_vertices g c).joined even b a hb))
    where
      even : (u v : ℕ) → (without_vertices g c).joined u v ≡ (without_vertices g c).joined v u
      even u v = ap₂ (λ (x y : Bool). x && not y) (s.symmetric u v) (or_swap (among c u) (among c v))

  -- So the smallest cuts are the same both ways.
  cuts_turn : vertex_cuts g a b ≡ vertex_cuts g b a
  cuts_turn = ap₂ (λ (p : List ℕ → Bool) (xs : List ℕ). smallest p xs) (fun_ext part_turn) (kept_same _ _ (upto g.order) (λ v _. ap not (or_swap (eqb v a) (eqb v b))))

  -- And the vertex value is.
  pub value_turn : vertex_value g a b ≡ vertex_value g b a
  unfolding vertex_value
  value_turn = ap (λ (cs : List (List ℕ)). size cs) cuts_turn

  -- The neighbours of a part it from everything.
  module _ (apart : a ≡ b → ⊥) (loose : g.joined a b ≡ false) where
    -- The neighbours of a.
    around : List ℕ
    around = filter (g.joined a) (upto g.order)

    -- Without them a reaches itself alone.
    alone : (q : ℕ) → reaches g.order (without_vertices g around).joined a q ≡ true → eqb a q ≡ true
    unfolding around
    alone =
        reached_least g.order (without_vertices g around).joined a ha (eqb a) (eq-eqb a a refl)
        (λ p q hp hq e h.
        let k = step_parts g around p q h in
        absurd (both_ways _ k.2 (among_filter (g.joined a) g.order q ∙ and_from _ _ (lt-ltb q g.order hq) (ap (λ (x : ℕ). g.joined x q) (eqb-true a p e) ∙ k.0))))

    -- So they part a and b.
    around_parts : vertices_part g a b around ≡ true
    around_parts = not_from_false _ (never_true _ (λ r. apart (eqb-true a b (alone b r))))

    -- And the vertex value is at most how many they are.
    pub value_degree : vertex_value g a b ≤ degree g a
    unfolding vertex_value around
    value_degree =
        omega (
          arith,
          kept_count (g.joined a) g.order,
          size_least (vertices_part g a b) (others g a b) around (kept_others g a b (g.joined a) (s.irreflexive a) loose) around_parts,
        )

-- The value the other way gives the bound at the other end.
pub vertex_value_laws_lem : VertexValueLaws
vertex_value_laws_lem g a b s ha hb ab loose =
    let turn = value_turn g s a b ha hb in (
      turn,
      value_degree g s a b ha hb ab loose,
      omega (arith, turn, value_degree g s b a hb ha (λ e. ab (sym e)) (s.symmetric b a ∙ loose)),
    )
