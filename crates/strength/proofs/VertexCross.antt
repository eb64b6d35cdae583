-- Where every smallest separation has r, one of its early neighbours lies on one side, and a
-- later one, but not the last, on the other. The number of neighbours of r below a vertex is
-- its place among them.
use Rattle.std.proofs.Common.{◌≡◌, ℕ, ◌+◌, ◌<◌, ◌≤◌, Bool, true, false, not, ◌&&◌, sym, ap, ◌∙◌, inl, inr, arith}
use Rattle.std.proofs.lemmas.Bool.{cases_eq, cases_lt, cases_Bool, both_ways, and_parts, and_from, not-true, not_from_false}
use Rattle.graph.specs.Graph.{Graph, Simple, count, degree}
use Rattle.graph.proofs.Counts.{count_ext}
use Rattle.strength.proofs.EdgeSets.{count_weaker}
use Rattle.strength.proofs.VertexCounts.{seek_first, count_up, count_past}
use Rattle.strength.proofs.VertexSets.{Separation, rest, rest_from, rest_parts, turned, less, less_keeps, less_off, count_less}
use Rattle.strength.proofs.VertexCore.{Pinned, Two, two_neighbours}

-- The neighbours x and y of r lie on the two sides of S, in places that the computation tries.
pub record Crossing (g : Graph) (S : ℕ → Bool) (r : ℕ) : Type 0 where
  pub side : ℕ → Bool
  pub separation : Separation g S side
  pub x : ℕ
  pub y : ℕ
  pub ascend : x < y
  pub x_joined : g.joined r x ≡ true
  pub y_joined : g.joined r y ≡ true
  pub x_in : side x ≡ true
  pub y_out : side y ≡ false
  pub y_off : S y ≡ false
  pub early : count (g.joined r) x + 4 ≤ degree g r
  pub soon : count (g.joined r) x + 1 ≤ count S g.order
  pub inner : count (g.joined r) y + 2 ≤ degree g r

-- Taking a later number out of a set does not change the count below.
less_later : (p : ℕ → Bool) (y x : ℕ) → x < y → count (less p y) x ≡ count p x
less_later p y x l = count_ext (less p y) p x (λ k h. elim (cases_Bool (p k)) [ inl e ↦ less_keeps p y k e (λ q. omega arith) ∙ sym e | inr e ↦ less_off p y k e ∙ sym e ])

-- Four members from x up, x the lowest of them.
four : (p : ℕ → Bool) (x a b c n : ℕ) → x < a → x < b → x < c → a < n → b < n → c < n → (a ≡ b → ⊥) → (a ≡ c → ⊥) → (b ≡ c → ⊥)
    → p x ≡ true → p a ≡ true → p b ≡ true → p c ≡ true → count p x + 4 ≤ count p n
four p x a b c n xa xb xc la lb lc ab ac bc hx ha hb hc =
    let qb : less p a b ≡ true = less_keeps p a b hb (λ e. ab (sym e)) in
    let qc : less p a c ≡ true = less_keeps p a c hc (λ e. ac (sym e)) in
    let qx : less p a x ≡ true = less_keeps p a x hx (λ e. omega arith) in
    let tc : less (less p a) b c ≡ true = less_keeps (less p a) b c qc (λ e. bc (sym e)) in
    let tx : less (less p a) b x ≡ true = less_keeps (less p a) b x qx (λ e. omega arith) in
    let wx : less (less (less p a) b) c x ≡ true = less_keeps (less (less p a) b) c x tx (λ e. omega arith) in
    omega (
      arith,
      count_less p a n la ha,
      count_less (less p a) b n lb qb,
      count_less (less (less p a) b) c n lc tc,
      less_later p a x xa,
      less_later (less p a) b x xb,
      less_later (less (less p a) b) c x xc,
      count_past (less (less (less p a) b) c) x x n (omega arith) (omega arith) wx,
    )

module _ (g : Graph) (s : Simple g) (S : ℕ → Bool) (r : ℕ) (pin : Pinned g S r) where
  -- From a lowest neighbour x outside S, on the side M.
  module _ (M : ℕ → Bool) (k : Separation g S M) (x : ℕ) (jx : g.joined r x ≡ true) (mx : M x ≡ true) (first : (v : ℕ) → v < x → (g.joined r v && not (S v)) ≡ false) where
    -- Any other neighbour outside S is later.
    later : (v : ℕ) → g.joined r v ≡ true → S v ≡ false → (v ≡ x → ⊥) → x < v
    later v j off d =
        elim (cases_lt v x) [
          | inl l ↦ absurd (both_ways _ (first v l) (and_from _ _ j (not_from_false _ off)))
          | inr l ↦ omega (arith, d)
        ]

    -- Those before x are in S, and none is r.
    soon_enough : count (g.joined r) x + 1 ≤ count S g.order
    soon_enough =
        let within = count_weaker (g.joined r) (less S r) x
        (λ v l j. less_keeps S r v (kept v l j) (λ e. both_ways _ (s.irreflexive r) (ap (g.joined r) (sym e) ∙ j))) in
        let bx = (s.bounded r x jx).1 in
        omega (arith, within, count_up (less S r) x g.order (omega arith), count_less S r g.order pin.below pin.inside)
      where
        -- Before x the neighbours are in S.
        kept : (v : ℕ) → v < x → g.joined r v ≡ true → S v ≡ true
        kept v l j = elim (cases_Bool (S v)) [ inl e ↦ e | inr e ↦ absurd (both_ways _ (first v l) (and_from _ _ j (not_from_false _ e))) ]

    -- The two on the other side, in order, and another one on this side.
    ordered : (z y w : ℕ) → g.joined r z ≡ true → M z ≡ true → (z ≡ x → ⊥) → y < w → g.joined r y ≡ true → g.joined r w ≡ true → rest S M y ≡ true → rest S M w ≡ true → Crossing g S r
    ordered z y w jz mz dz yw jy jw ry rw' =
        let py = rest_parts S M y ry in
        let pw = rest_parts S M w rw' in
        let dy : y ≡ x → ⊥ = λ e. both_ways _ py.0 (ap M e ∙ mx) in
        let dw : w ≡ x → ⊥ = λ e. both_ways _ pw.0 (ap M e ∙ mx) in
        let zy : z ≡ y → ⊥ = λ e. both_ways _ py.0 (ap M (sym e) ∙ mz) in
        let zw : z ≡ w → ⊥ = λ e. both_ways _ pw.0 (ap M (sym e) ∙ mz) in
        let lz = later z jz (k.disjoint z mz) dz in
        let ly = later y jy py.1 dy in
        let lw = later w jw pw.1 dw in
        let bz = (s.bounded r z jz).1 in
        let by = (s.bounded r y jy).1 in
        let bw = (s.bounded r w jw).1 in
        record {
          side = M;
          separation = k;
          x = x;
          y = y;
          ascend = ly;
          x_joined = jx;
          y_joined = jy;
          x_in = mx;
          y_out = py.0;
          y_off = py.1;
          early = four (g.joined r) x z y w g.order lz ly lw bz by bw zy zw (λ e. omega arith) jx jz jy jw;
          soon = soon_enough;
          inner = omega (arith, count_past (g.joined r) y y w (omega arith) yw jy, count_past (g.joined r) w w g.order (omega arith) bw jw);
        }

    -- So a lowest neighbour outside S gives such a pair.
    from_first : Crossing g S r
    from_first =
        let near = two_neighbours g s S M r pin k in
        let far = two_neighbours g s S (rest S M) r pin (turned g s S M k) in
        elim (cases_eq near.one x) [
          | inl e ↦ turn far near.other near.other_joined near.other_in (λ q. near.differ (e ∙ sym q))
          | inr d ↦ turn far near.one near.one_joined near.one_in d
        ]
      where
        -- Of the two on the other side the lower one is taken.
        turn : Two g r (rest S M) → (z : ℕ) → g.joined r z ≡ true → M z ≡ true → (z ≡ x → ⊥) → Crossing g S r
        turn t z jz mz dz =
            elim (cases_lt t.one t.other) [
              | inl l ↦ ordered z t.one t.other jz mz dz l t.one_joined t.other_joined t.one_in t.other_in
              | inr l ↦ ordered z t.other t.one jz mz dz (omega (arith, t.differ)) t.other_joined t.one_joined t.other_in t.one_in
            ]

  -- The lowest neighbour outside S lies on one side or the other.
  pub crossing : (L : ℕ → Bool) → Separation g S L → Crossing g S r
  crossing L k =
      elim (seek_first (λ v. g.joined r v && not (S v)) g.order) [
        | inl w ↦
            (let q = and_parts (g.joined r w.0) _ w.2 in
            elim (cases_Bool (L w.0)) [
              | inl e ↦ from_first L k w.0 q.0 e w.3
              | inr e ↦ from_first (rest S L) (turned g s S L k) w.0 q.0 (rest_from S L w.0 e (not-true _ q.1)) w.3
            ])
        | inr none ↦
            (let t = two_neighbours g s S L r pin k in
            absurd (both_ways _ (none t.one (s.bounded r t.one t.one_joined).1) (and_from _ _ t.one_joined (not_from_false _ (k.disjoint t.one t.one_in)))))
      ]
