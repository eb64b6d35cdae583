-- The core of the vertex computation. Where every smallest separation has r, a vertex of least
-- degree, two early neighbours of r lie on its two sides.
use Rattle.std.proofs.Common.{◌≡◌, ℕ, ◌<◌, ◌≤◌, Bool, true, false, not, ◌&&◌, eqb, sym, ap, ◌∙◌, inl, inr, arith}
use Rattle.std.proofs.lemmas.Bool.{cases_eq, cases_Bool, both_ways, and_parts, and_from, or_parts, or_from, not-true, eq-eqb, ne_eqb}
use Rattle.graph.specs.Graph.{Graph, Simple, count, degree}
use Rattle.strength.proofs.EdgeSets.{count_weaker}
use Rattle.strength.proofs.VertexCounts.{seek}
use Rattle.strength.proofs.VertexSets.{Separation, around, less, less_keeps, less_off, less_here, less_from, count_less, swapped, count_swapped, some_unjoined}

-- The separation S is a smallest one, and every smallest one has r, a vertex of least degree.
pub record Pinned (g : Graph) (S : ℕ → Bool) (r : ℕ) : Type 0 where
  pub below : r < g.order
  pub inside : S r ≡ true
  pub lowest : (v : ℕ) → v < g.order → degree g r ≤ degree g v
  pub least : (T M : ℕ → Bool) → Separation g T M → count S g.order ≤ count T g.order
  pub every : (T M : ℕ → Bool) → Separation g T M → count T g.order ≡ count S g.order → T r ≡ true

-- Two neighbours of r on one side.
pub record Two (g : Graph) (r : ℕ) (L : ℕ → Bool) : Type 0 where
  pub one : ℕ
  pub other : ℕ
  pub differ : one ≡ other → ⊥
  pub one_joined : g.joined r one ≡ true
  pub other_joined : g.joined r other ≡ true
  pub one_in : L one ≡ true
  pub other_in : L other ≡ true

module _ (g : Graph) (s : Simple g) (S L : ℕ → Bool) (r : ℕ) (pin : Pinned g S r) (k : Separation g S L) where
  -- The neighbours of r are no smallest separation, since r is not one of them.
  below_degree : count S g.order < degree g r
  below_degree =
      let w = some_unjoined g s S L k r pin.below pin.lowest in
      let a = around g s r w.0 pin.below w.1 w.2 w.3 in
      elim (cases_eq (degree g r) (count S g.order)) [
        | inl e ↦ absurd (both_ways _ (s.irreflexive r) (pin.every (g.joined r) (λ v. eqb v r) a e))
        | inr d ↦ omega (arith, pin.least (g.joined r) (λ v. eqb v r) a)
      ]

  -- Without a neighbour of r on the side, S would do without r.
  dropped : ((v : ℕ) → v < g.order → (g.joined r v && L v) ≡ false) → Separation g (less S r) L
  dropped none = record {
    here = k.here;
    there = k.there;
    here_below = k.here_below;
    there_below = k.there_below;
    here_in = k.here_in;
    there_off = less_off S r k.there k.there_off;
    there_out = k.there_out;
    disjoint = λ v h. less_off S r v (k.disjoint v h);
    closed = λ u v h j off.
        k.closed u v h j (less_from S r v off
        (λ e. both_ways _ (none u (s.bounded u v j).0) (and_from _ _ (s.symmetric r u ∙ ap (g.joined u) (sym e) ∙ j) h)));
  }

  -- So the side has a neighbour of r.
  one_neighbour : (x : ℕ) × (x < g.order) × ((g.joined r x && L x) ≡ true)
  one_neighbour =
      elim (seek (λ v. g.joined r v && L v) g.order) [
        | inl w ↦ w
        | inr none ↦ absurd (omega (arith, pin.least (less S r) L (dropped none), count_less S r g.order pin.below pin.inside))
      ]

  module _ (x : ℕ) (jx : g.joined r x ≡ true) (lx : L x ≡ true) (alone : (v : ℕ) → v < g.order → ((g.joined r v && L v) && not (eqb v x)) ≡ false) where
    -- With one neighbour of r and another vertex on the side, that neighbour would do in place of r.
    changed : (z : ℕ) → z < g.order → L z ≡ true → (z ≡ x → ⊥) → Separation g (swapped S r x) (less L x)
    changed z lz iz d = record {
      here = z;
      there = k.there;
      here_below = lz;
      there_below = k.there_below;
      here_in = less_keeps L x z iz d;
      there_off = or_from _ _ (less_off S r k.there k.there_off) (ne_eqb k.there x (λ e. both_ways _ k.there_out (ap L e ∙ lx)));
      there_out = less_off L x k.there k.there_out;
      disjoint = λ v h.
          let q = and_parts (L v) _ h in
          or_from _ _ (less_off S r v (k.disjoint v q.0)) (not-true _ q.1);
      closed = λ u v h j off.
          let q = and_parts (L u) _ h in
          let o = or_parts (less S r v) (eqb v x) off in
          less_keeps L x v
          (k.closed u v q.0 j (less_from S r v o.0
          (λ e. both_ways _ (alone u (s.bounded u v j).0) (and_from _ _ (and_from _ _ (s.symmetric r u ∙ ap (g.joined u) (sym e) ∙ j) q.0) q.1))))
          (λ e. both_ways _ o.1 (eq-eqb v x e));
    }

    -- So it can't be the only one.
    not_alone : ⊥
    not_alone =
        let bx = (s.bounded r x jx).1 in
        let same = count_swapped S r x g.order pin.below bx pin.inside (k.disjoint x lx) in
        elim (seek (λ z. less L x z) g.order) [
          | inl w ↦
              (let q = and_parts (L w.0) _ w.2 in
              let c = changed w.0 w.1 q.0 (λ e. both_ways _ (not-true _ q.1) (eq-eqb w.0 x e)) in
              both_ways _ (or_from _ _ (less_here S r) (ne_eqb r x (λ e. both_ways _ (k.disjoint x lx) (ap S (sym e) ∙ pin.inside)))) (pin.every (swapped S r x) (less L x) c same))
          | inr none ↦
              (let few = count_weaker (g.joined x) S g.order (λ v lv j. kept none v lv j) in
              omega (arith, few, below_degree, pin.lowest x bx))
        ]
      where
        -- With x alone on the side, its neighbours are all in S.
        kept : ((z : ℕ) → z < g.order → less L x z ≡ false) → (v : ℕ) → v < g.order → g.joined x v ≡ true → S v ≡ true
        kept none v lv j =
            elim (cases_Bool (S v)) [
              | inl e ↦ e
              | inr e ↦
                  (let differ : v ≡ x → ⊥ = λ q. both_ways _ (s.irreflexive x) (ap (g.joined x) (sym q) ∙ j) in
                  absurd (both_ways _ (none v lv) (less_keeps L x v (k.closed x v lx j e) differ)))
            ]

  -- Each side has two neighbours of r.
  pub two_neighbours : Two g r L
  two_neighbours =
      let w = one_neighbour in
      let q = and_parts (g.joined r w.0) _ w.2 in
      elim (seek (λ v. (g.joined r v && L v) && not (eqb v w.0)) g.order) [
        | inl z ↦
            (let a = and_parts (g.joined r z.0 && L z.0) _ z.2 in
            let b = and_parts (g.joined r z.0) _ a.0 in
            record {
              one = w.0;
              other = z.0;
              differ = λ e. both_ways _ (not-true _ a.1) (eq-eqb z.0 w.0 (sym e));
              one_joined = q.0;
              other_joined = b.0;
              one_in = q.1;
              other_in = b.1;
            })
        | inr alone ↦ absurd (not_alone w.0 q.0 q.1 alone)
      ]
