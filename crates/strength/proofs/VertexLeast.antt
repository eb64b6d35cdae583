-- The connectivity and the values as the least sizes of separations.
use Rattle.std.proofs.Common.{◌≡◌, ℕ, ◌<◌, ◌≤◌, Bool, true, false, not, ◌||◌, eqb, filter, sym, refl, ap, ◌∙◌, inl, inr, arith}
use Rattle.std.proofs.lemmas.Bool.{both_ways, and_parts, and_from, or_cases, or_parts, or_from, not-true, not_from_false, eq-eqb, ne_eqb, eqb-true, lt-ltb, ltb-true}
use Rattle.graph.specs.Graph.{Graph, Simple, count}
use Rattle.flows.specs.Lists.{upto, all, among}
use Rattle.flows.proofs.Lists.{never_true, among_upto, among_kept, all_upto_at, all_off}
use Rattle.cuts.specs.Choices.{smallest, size}
use Rattle.cuts.specs.Cuts.{vertices_part, others, vertex_value, is_vertex_cut, complete}
use Rattle.cuts.proofs.Smallest.{kept_sub, size_least, size_met}
use Rattle.strength.proofs.VertexCounts.{count_among}
use Rattle.strength.proofs.VertexSets.{Separation, around, sides_unjoined}
use Rattle.cuts.proofs.EdgeLists.{kept_count}
use Rattle.cuts.proofs.VertexLists.{sub_among}
use Rattle.strength.proofs.VertexValue.{kept_fewer, list_separates, separation_parts, cut_separates, separation_cuts}

-- The size of a smallest vertex cut.
abbrev pub cut_size : Graph → ℕ
cut_size g = size (smallest (is_vertex_cut g) (upto g.order))

-- No separation is smaller.
pub cut_least : (g : Graph) (S L : ℕ → Bool) → Separation g S L → cut_size g ≤ count S g.order
cut_least g S L k =
    omega (arith, size_least (is_vertex_cut g) (upto g.order) (filter S (upto g.order)) (kept_sub S (upto g.order)) (separation_cuts g S L k), kept_count S g.order)

-- A separation of that size.
pub record Smallest (g : Graph) : Type 0 where
  pub cut : ℕ → Bool
  pub side : ℕ → Bool
  pub separation : Separation g cut side
  pub many : count cut g.order ≡ cut_size g

-- As soon as there is any separation, one has that size.
pub cut_met : (g : Graph) → Simple g → (S L : ℕ → Bool) → Separation g S L → Smallest g
cut_met g s S L k =
    let d = size_met (is_vertex_cut g) (upto g.order) (filter S (upto g.order)) (kept_sub S (upto g.order)) (separation_cuts g S L k) in
    let m = cut_separates g s d.0 d.2 in
    record {
      cut = among d.0;
      side = m.0;
      separation = m.1;
      many = omega (arith, count_among d.0 g.order, cut_least g (among d.0) m.0 m.1, d.3);
    }

-- The vertices other than a and b.
others_parts : (g : Graph) (a b v : ℕ) → among (others g a b) v ≡ true → (v < g.order) × (v ≡ a → ⊥) × (v ≡ b → ⊥)
others_parts g a b v h =
    let k = and_parts (among (upto g.order) v) _ (sym (among_kept (λ v. not (eqb v a || eqb v b)) (upto g.order) v) ∙ h) in
    let o = or_parts (eqb v a) (eqb v b) (not-true _ k.1) in
    (ltb-true v g.order (sym (among_upto g.order v) ∙ k.0), (λ e. both_ways _ o.0 (eq-eqb v a e)), (λ e. both_ways _ o.1 (eq-eqb v b e)))

-- A vertex that is neither a nor b is one of the others.
others_from : (g : Graph) (a b v : ℕ) → v < g.order → (v ≡ a → ⊥) → (v ≡ b → ⊥) → among (others g a b) v ≡ true
others_from g a b v l da db =
    among_kept (λ v. not (eqb v a || eqb v b)) (upto g.order) v
    ∙ and_from _ _ (among_upto g.order v ∙ lt-ltb v g.order l) (not_from_false _ (or_from _ _ (ne_eqb v a da) (ne_eqb v b db)))

-- The vertices of a separation part any two that lie on its two sides.
part_by : (g : Graph) (S L : ℕ → Bool) → Separation g S L → (a b : ℕ) → a < g.order → L a ≡ true → L b ≡ false → S b ≡ false
    → vertices_part g a b (filter S (others g a b)) ≡ true
part_by g S L k a b la ia ob fb =
    not_from_false _ (separation_parts g S L k (filter S (others g a b)) a b la ia ob
    (λ v l o. never_true _ (λ h. both_ways _ o (among_kept S (others g a b) v ∙ and_from _ _ (others_from g a b v l (differs a (k.disjoint a ia) v h) (differs b fb v h)) h))))
  where
    -- What is in S differs from what is not.
    differs : (x : ℕ) → S x ≡ false → (v : ℕ) → S v ≡ true → v ≡ x → ⊥
    differs x o v h e = both_ways _ o (ap S (sym e) ∙ h)

-- So the value of the two is at most its size.
pub value_least : (g : Graph) (S L : ℕ → Bool) → Separation g S L → (a b : ℕ) → a < g.order → L a ≡ true → L b ≡ false → S b ≡ false
    → vertex_value g a b ≤ count S g.order
unfolding vertex_value
value_least g S L k a b la ia ob fb =
    omega (
      arith,
      size_least (vertices_part g a b) (others g a b) (filter S (others g a b)) (kept_sub S (others g a b)) (part_by g S L k a b la ia ob fb),
      kept_fewer S (λ v. not (eqb v a || eqb v b)) (upto g.order),
      kept_count S g.order,
    )

-- And the value of two unjoined vertices is the size of some separation, so no less than that of a smallest one.
pub value_most : (g : Graph) → Simple g → (a b : ℕ) → a < g.order → b < g.order → (a ≡ b → ⊥) → g.joined a b ≡ false → cut_size g ≤ vertex_value g a b
unfolding vertex_value
value_most g s a b la lb ne off =
    let k = around g s a b la lb ne off in
    let d = size_met (vertices_part g a b) (others g a b) (filter (g.joined a) (others g a b)) (kept_sub (g.joined a) (others g a b))
    (part_by g (g.joined a) (λ v. eqb v a) k a b la (eq-eqb a a refl) (ne_eqb b a (λ e. ne (sym e))) off) in
    let ma : among d.0 a ≡ false = never_true _ (λ h. (others_parts g a b a (sub_among d.1 a h)).1 refl) in
    let mb : among d.0 b ≡ false = never_true _ (λ h. (others_parts g a b b (sub_among d.1 b h)).2 refl) in
    let m = list_separates g s d.0 a b la lb ma mb (not-true _ d.2) in
    omega (arith, cut_least g (among d.0) _ m, count_among d.0 g.order, d.3)

-- A graph that is not complete has a separation.
pub incomplete_cut : (g : Graph) → Simple g → complete g ≡ false → (S : ℕ → Bool) × (L : ℕ → Bool) × Separation g S L
incomplete_cut g s h =
    let u = all_off (λ u. all (λ v. eqb u v || g.joined u v) (upto g.order)) (upto g.order) h in
    let v = all_off (λ v. eqb u.0 v || g.joined u.0 v) (upto g.order) u.2 in
    let o = or_parts (eqb u.0 v.0) (g.joined u.0 v.0) v.2 in (
      g.joined u.0,
      (λ w. eqb w u.0),
      around g s u.0 v.0 (below u.0 u.1) (below v.0 v.1) (λ e. both_ways _ o.0 (eq-eqb u.0 v.0 e)) o.1,
    )
  where
    -- What stands in `upto` is a vertex.
    below : (w : ℕ) → among (upto g.order) w ≡ true → w < g.order
    below w m = ltb-true w g.order (sym (among_upto g.order w) ∙ m)

-- A complete graph has none.
pub complete_uncut : (g : Graph) → Simple g → complete g ≡ true → (S L : ℕ → Bool) → Separation g S L → ⊥
complete_uncut g s h S L k =
    elim (or_cases (eqb k.here k.there) _ joined_all) [
      | inl e ↦ both_ways _ k.there_out (ap L (sym (eqb-true k.here k.there e)) ∙ k.here_in)
      | inr e ↦ both_ways _ (sides_unjoined g S L k k.here k.there k.here_in k.there_out k.there_off) e
    ]
  where
    -- All pairs are equal or joined.
    joined_all : (eqb k.here k.there || g.joined k.here k.there) ≡ true
    joined_all =
        all_upto_at (λ v. eqb k.here v || g.joined k.here v) g.order
        (all_upto_at (λ u. all (λ v. eqb u v || g.joined u v) (upto g.order)) g.order h k.here k.here_below) k.there k.there_below
