-- Separations: a set of vertices with a side that nothing leads out of but through it. The two
-- sides of a smallest one that has r each have two neighbours of r, where r has least degree
-- and every smallest one has r.
use Rattle.std.proofs.Common.{◌≡◌, ℕ, ◌+◌, ◌<◌, ◌≤◌, Bool, true, false, not, ◌&&◌, ◌||◌, eqb, sym, refl, ap, ◌∙◌, inl, inr, arith}
use Rattle.std.proofs.lemmas.Bool.{cases_Bool, both_ways, and_parts, and_from, and_right, or_cases, or_parts, or_left, or_right, or_from, not-true, not-false, not_from_true, not_from_false, eq-eqb, ne_eqb, eqb-true}
use Rattle.graph.specs.Graph.{Graph, Simple, count, degree}
use Rattle.graph.proofs.Counts.{count_most, count_one}
use Rattle.flows.proofs.Lists.{never_true}
use Rattle.strength.proofs.VertexCounts.{seek, count_every}

-- The vertices S part the side L from the rest, and neither side is empty.
pub record Separation (g : Graph) (S L : ℕ → Bool) : Type 0 where
  pub here : ℕ
  pub there : ℕ
  pub here_below : here < g.order
  pub there_below : there < g.order
  pub here_in : L here ≡ true
  pub there_off : S there ≡ false
  pub there_out : L there ≡ false
  pub disjoint : (v : ℕ) → L v ≡ true → S v ≡ false
  pub closed : (u v : ℕ) → L u ≡ true → g.joined u v ≡ true → S v ≡ false → L v ≡ true

-- The other side of a separation.
abbrev pub rest : (ℕ → Bool) → (ℕ → Bool) → ℕ → Bool
rest S L v = not (L v) && not (S v)

-- What is neither on the side nor in S is on the other side.
pub rest_from : (S L : ℕ → Bool) (v : ℕ) → L v ≡ false → S v ≡ false → rest S L v ≡ true
rest_from S L v a b = and_from _ _ (not_from_false _ a) (not_from_false _ b)

-- What is on the other side is neither.
pub rest_parts : (S L : ℕ → Bool) (v : ℕ) → rest S L v ≡ true → (L v ≡ false) × (S v ≡ false)
rest_parts S L v h = let k = and_parts (not (L v)) (not (S v)) h in (not-true _ k.0, not-true _ k.1)

-- A separation seen from its other side.
pub turned : (g : Graph) → Simple g → (S L : ℕ → Bool) → Separation g S L → Separation g S (rest S L)
turned g s S L k = record {
  here = k.there;
  there = k.here;
  here_below = k.there_below;
  there_below = k.here_below;
  here_in = rest_from S L k.there k.there_out k.there_off;
  there_off = k.disjoint k.here k.here_in;
  there_out = never_true _ (λ h. both_ways _ (rest_parts S L k.here h).0 k.here_in);
  disjoint = λ v h. (rest_parts S L v h).1;
  closed = λ u v h j off.
      let q = rest_parts S L u h in
      rest_from S L v (never_true _ (λ e. both_ways _ q.0 (k.closed v u e (s.symmetric v u ∙ j) q.1))) off;
}

-- The two sides of a separation are not joined.
pub sides_unjoined : (g : Graph) (S L : ℕ → Bool) → Separation g S L → (u v : ℕ) → L u ≡ true → L v ≡ false → S v ≡ false → g.joined u v ≡ false
sides_unjoined g S L k u v a b c = never_true _ (λ j. both_ways _ b (k.closed u v a j c))

-- The neighbours of a vertex part it from any other that it is not joined to.
pub around : (g : Graph) → Simple g → (a b : ℕ) → a < g.order → b < g.order → (a ≡ b → ⊥) → g.joined a b ≡ false → Separation g (g.joined a) (λ v. eqb v a)
around g s a b la lb ne off = record {
  here = a;
  there = b;
  here_below = la;
  there_below = lb;
  here_in = eq-eqb a a refl;
  there_off = off;
  there_out = ne_eqb b a (λ e. ne (sym e));
  disjoint = λ v h. ap (g.joined a) (eqb-true v a h) ∙ s.irreflexive a;
  closed = λ u v h j o. absurd (both_ways _ o (ap (λ x. g.joined x v) (sym (eqb-true u a h)) ∙ j));
}

-- Taking one vertex out of a set.
abbrev pub less : (ℕ → Bool) → ℕ → ℕ → Bool
less S r v = S v && not (eqb v r)

-- Any other member stays.
pub less_keeps : (S : ℕ → Bool) (r v : ℕ) → S v ≡ true → (v ≡ r → ⊥) → less S r v ≡ true
less_keeps S r v h d = and_from _ _ h (not_from_false _ (ne_eqb v r d))

-- What was no member is none.
pub less_off : (S : ℕ → Bool) (r v : ℕ) → S v ≡ false → less S r v ≡ false
less_off S r v h = ap (λ (b : Bool). b && not (eqb v r)) h

-- The vertex taken out is no member.
pub less_here : (S : ℕ → Bool) (r : ℕ) → less S r r ≡ false
less_here S r = and_right _ _ (not_from_true _ (eq-eqb r r refl))

-- What is not in the smaller set is not in the larger one, but for r.
pub less_from : (S : ℕ → Bool) (r v : ℕ) → less S r v ≡ false → (v ≡ r → ⊥) → S v ≡ false
less_from S r v h d = never_true _ (λ e. both_ways _ h (less_keeps S r v e d))

-- It has one member fewer.
pub count_less : (S : ℕ → Bool) (r n : ℕ) → r < n → S r ≡ true → count S n ≡ count (less S r) n + 1
count_less S r n l h =
    count_one (less S r) S r n l (less_here S r) h
    (λ k _ d. elim (cases_Bool (S k)) [ inl e ↦ e ∙ sym (less_keeps S r k e d) | inr e ↦ e ∙ sym (less_off S r k e) ])

-- One vertex out of a set, and another in.
abbrev pub swapped : (ℕ → Bool) → ℕ → ℕ → ℕ → Bool
swapped S r x v = less S r v || eqb v x

-- It has as many members.
pub count_swapped : (S : ℕ → Bool) (r x n : ℕ) → r < n → x < n → S r ≡ true → S x ≡ false → count (swapped S r x) n ≡ count S n
count_swapped S r x n lr lx h off =
    let one : count (swapped S r x) n ≡ count (less S r) n + 1 =
    count_one (less S r) (swapped S r x) x n lx (less_off S r x off) (or_right (less S r x) _ (eq-eqb x x refl))
    (λ k _ d. elim (cases_Bool (less S r k)) [ inl e ↦ or_left _ _ e ∙ sym e | inr e ↦ or_from _ _ e (ne_eqb k x d) ∙ sym e ]) in
    one ∙ sym (count_less S r n lr h)

-- A set that misses two vertices has two members fewer than there are.
miss_two : (p : ℕ → Bool) (a b n : ℕ) → a < n → b < n → (a ≡ b → ⊥) → p a ≡ false → p b ≡ false → count p n + 2 ≤ n
miss_two p a b n la lb ne ha hb =
    let with_a : count (λ k. p k || eqb k a) n ≡ count p n + 1 =
    count_one p (λ k. p k || eqb k a) a n la ha (or_right (p a) _ (eq-eqb a a refl)) (λ k _ d. side p a k d) in
    let both : count (λ k. (p k || eqb k a) || eqb k b) n ≡ count (λ k. p k || eqb k a) n + 1 =
    count_one (λ k. p k || eqb k a) (λ k. (p k || eqb k a) || eqb k b) b n lb
    (or_from _ _ hb (ne_eqb b a (λ e. ne (sym e)))) (or_right (p b || eqb b a) _ (eq-eqb b b refl)) (λ k _ d. side (λ k. p k || eqb k a) b k d) in
    omega (arith, with_a, both, count_most (λ k. (p k || eqb k a) || eqb k b) n)
  where
    -- Adding x changes nothing elsewhere.
    side : (q : ℕ → Bool) (x k : ℕ) → (k ≡ x → ⊥) → (q k || eqb k x) ≡ q k
    side q x k d = elim (cases_Bool (q k)) [ inl e ↦ or_left _ _ e ∙ sym e | inr e ↦ or_from _ _ e (ne_eqb k x d) ∙ sym e ]

-- A set that misses one vertex alone has one member fewer than there are.
miss_one : (p : ℕ → Bool) (a n : ℕ) → a < n → p a ≡ false → ((k : ℕ) → k < n → (k ≡ a → ⊥) → p k ≡ true) → count p n + 1 ≡ n
miss_one p a n la off on =
    let e : count (λ k. true) n ≡ count p n + 1 = count_one p (λ k. true) a n la off refl (λ k l d. sym (on k l d)) in
    sym e ∙ count_every n

-- In a graph that some separation cuts, a vertex of least degree is not joined to some other.
pub some_unjoined : (g : Graph) → Simple g → (S L : ℕ → Bool) → Separation g S L → (r : ℕ) → r < g.order → ((v : ℕ) → v < g.order → degree g r ≤ degree g v)
    → (v : ℕ) × (v < g.order) × (r ≡ v → ⊥) × (g.joined r v ≡ false)
some_unjoined g s S L k r lr low =
    elim (seek (λ v. not (eqb r v || g.joined r v)) g.order) [
      | inl w ↦ (let q = or_parts (eqb r w.0) _ (not-true _ w.2) in (w.0, w.1, (λ e. both_ways _ q.0 (eq-eqb r w.0 e)), q.1))
      | inr none ↦
          (let all : count (g.joined r) g.order + 1 ≡ g.order =
          miss_one (g.joined r) r g.order lr (s.irreflexive r) (λ v l d. on v (λ e. d (sym e)) (not-false _ (none v l))) in
          let few = miss_two (g.joined k.here) k.here k.there g.order k.here_below k.there_below
          (λ e. both_ways _ k.there_out (ap L (sym e) ∙ k.here_in)) (s.irreflexive k.here) (sides_unjoined g S L k k.here k.there k.here_in k.there_out k.there_off) in
          absurd (omega (arith, all, few, low k.here k.here_below)))
    ]
  where
    -- A vertex other than r that passes is joined to r.
    on : (v : ℕ) → (r ≡ v → ⊥) → (eqb r v || g.joined r v) ≡ true → g.joined r v ≡ true
    on v d h = elim (or_cases (eqb r v) _ h) [ inl e ↦ absurd (d (eqb-true r v e)) | inr e ↦ e ]
