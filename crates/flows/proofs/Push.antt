-- Pushing along a residual route adds one: a flow that is balanced but for one unit is carried
-- from s to t, one step at a time.
use Rattle.std.proofs.Common.{◌≡◌, ℕ, ◌+◌, ◌*◌, ◌<◌, Bool, true, false, not, ◌&&◌, ◌||◌, eqb, ◌⊎◌, List, [], ◌∷◌, sym, refl, ap, ◌∙◌, ap₂, inl, inr, arith}
use Rattle.std.proofs.lemmas.Bool.{cases_eq, cases_Bool, both_ways, eq-eqb, ne_eqb, or_cases, and_parts, not-true, cond-true, cond-false}
use Rattle.flows.specs.Routes.{Walk, Apart}
use Rattle.flows.specs.Flow.{Digraph, Sound, Flow, out, into, residual, stepped, pushed, PushAddsOne}
use Rattle.flows.proofs.Lists.{among_off, never_true}
use Rattle.flows.proofs.Routes.{walk_off}
use Rattle.flows.proofs.Sums.{bit}
use Rattle.flows.proofs.Arcs.{More, out_more, into_more, lacking, having, lacking_more, having_more, more_cases, more_keeps}
use Rattle.flows.proofs.Largest.{residual_ranged}

-- As a flow of value v from s to t, but that one unit more than goes out of y has come to y.
record Carried (d : Digraph) (s t : ℕ) (f : ℕ → ℕ → Bool) (v y : ℕ) : Type 0 where
  along : (p q : ℕ) → f p q ≡ true → d.arc p q ≡ true
  oneway : (p q : ℕ) → f p q ≡ true → f q p ≡ false
  level : (p : ℕ) → p < d.nodes → (p ≡ t → ⊥) → out d.nodes f p + bit (eqb p y) ≡ into d.nodes f p + bit (eqb p s) * v

module _ (d : Digraph) (s t : ℕ) (f : ℕ → ℕ → Bool) (v x y : ℕ) (k : Carried d s t f v x) (hx : x < d.nodes) (hy : y < d.nodes) (xy : x ≡ y → ⊥) where
  -- Back along an arc of f.
  carry_back : f y x ≡ true → Carried d s t (lacking f y x) v y
  carry_back e =
      let h = lacking f y x in
      let m = lacking_more f y x e in
      let sub = more_keeps h f y x m in
      record {
        along = λ p q i. k.along p q (sub p q i);
        oneway = λ p q i. never_true _ (λ j. both_ways (f q p) (k.oneway p q (sub p q i)) (sub q p j));
        level = λ p i c. omega (arith, k.level p i c, out_more d.nodes h f y x m hx p, into_more d.nodes h f y x m hy p);
      }

  -- Along an arc that is free.
  carry_on : d.arc x y ≡ true → f x y ≡ false → f y x ≡ false → Carried d s t (having f x y) v y
  carry_on e n b =
      record {
        along = along;
        oneway = oneway;
        level = λ p i c. omega (arith, k.level p i c, out_more d.nodes f (having f x y) x y m hy p, into_more d.nodes f (having f x y) x y m hx p);
      }
    where
      m : More f (having f x y) x y
      m = having_more f x y n

      along : (p q : ℕ) → having f x y p q ≡ true → d.arc p q ≡ true
      along p q i = elim (more_cases f (having f x y) x y m p q i) [ inl j ↦ ap₂ d.arc j.0 j.1 ∙ e | inr j ↦ k.along p q j ]

      oneway : (p q : ℕ) → having f x y p q ≡ true → having f x y q p ≡ false
      oneway p q i =
          elim (more_cases f (having f x y) x y m p q i) [
            | inl j ↦ m.rest q p (λ a _. xy (sym a ∙ j.1)) ∙ ap₂ f j.1 j.0 ∙ b
            | inr j ↦ m.rest q p (λ a c. both_ways (f p q) (ap₂ f c a ∙ b) j) ∙ k.oneway p q j
          ]

  -- A residual step is one or the other.
  carry : residual d f x y ≡ true → Carried d s t (stepped f x y) v y
  carry e =
      elim (cases_Bool (f y x)) [
        | inl h ↦ rw (cond-true (f y x) (lacking f y x) (having f x y) h) (carry_back h)
        | inr h ↦
            (elim (or_cases (f y x) (d.arc x y && not (f x y)) e) [
              | inl a ↦ absurd (both_ways (f y x) h a)
              | inr a ↦
                  (let c = and_parts (d.arc x y) (not (f x y)) a in
                  rw (cond-false (f y x) (lacking f y x) (having f x y) h) (carry_on c.0 (not-true (f x y) c.1) h))
            ])
      ]

-- A step from x to y changes no arc that keeps off x.
stepped_off : (f : ℕ → ℕ → Bool) (x y p q : ℕ) → f x y ≡ false ⊎ (f y x ≡ true) → (x ≡ p → ⊥) → (x ≡ q → ⊥) → stepped f x y p q ≡ f p q
stepped_off f x y p q c i j =
    elim (cases_Bool (f y x)) [
      | inl h ↦ ap (λ (g : ℕ → ℕ → Bool). g p q) (cond-true (f y x) (lacking f y x) (having f x y) h) ∙ sym ((lacking_more f y x h).rest p q (λ _ e. j (sym e)))
      | inr h ↦
          ap (λ (g : ℕ → ℕ → Bool). g p q) (cond-false (f y x) (lacking f y x) (having f x y) h)
          ∙ elim c [ inl e ↦ (having_more f x y e).rest p q (λ e _. i (sym e)) | inr e ↦ absurd (both_ways (f y x) h e) ]
    ]

-- A residual step goes where the flow may be changed.
residual_free : (d : Digraph) (f : ℕ → ℕ → Bool) (x y : ℕ) → residual d f x y ≡ true → f x y ≡ false ⊎ (f y x ≡ true)
residual_free d f x y e =
    elim (or_cases (f y x) (d.arc x y && not (f x y)) e) [ inl h ↦ inr h | inr h ↦ inl (not-true (f x y) (and_parts (d.arc x y) _ h).1) ]

-- Where two flows agree both ways, so do their residual steps.
residual_same : (d : Digraph) (f h : ℕ → ℕ → Bool) (p q : ℕ) → h p q ≡ f p q → h q p ≡ f q p → residual d h p q ≡ residual d f p q
residual_same d f h p q e i = ap₂ (λ (a b : Bool). a || (d.arc p q && not b)) i e

-- A list of one node pushes nothing, a longer one its first step first.
pub pushed_one : (f : ℕ → ℕ → Bool) (x : ℕ) → pushed f (x ∷ []) ≡ f
unfolding pushed
pushed_one f x = refl

pub pushed_more : (f : ℕ → ℕ → Bool) (x y : ℕ) (xs : List ℕ) → pushed f (x ∷ (y ∷ xs)) ≡ pushed (stepped f x y) (y ∷ xs)
unfolding pushed
pushed_more f x y xs = refl

-- The unit is carried all the way.
carry_all : (d : Digraph) (s t v : ℕ) → Sound d → (x : ℕ) (xs : List ℕ) (f : ℕ → ℕ → Bool) → Carried d s t f v x → Walk (residual d f) x t xs → Apart xs
    → Carried d s t (pushed f xs) v t
carry_all d s t v sound x [] f k w a = absurd w
carry_all d s t v sound x (y ∷ []) f k w a = rw pushed_one (rw (sym w.0 ∙ w.1) at k)
carry_all d s t v sound x (y ∷ (z ∷ zs)) f k w a =
    let k' : Carried d s t f v y = rw (sym w.0) at k in
    let r = residual_ranged d f sound k.along y z w.1 in
    let off = among_off z zs y a.0 in
    let free = residual_free d f y z w.1 in
    rw pushed_more
    (carry_all d s t v sound z (z ∷ zs) (stepped f y z) (carry d s t f v y z k' r.0 r.1 off.0 w.1)
    (walk_off (residual d f) (residual d (stepped f y z)) z t y (z ∷ zs)
    (λ p q i j. residual_same d f (stepped f y z) p q (stepped_off f y z p q free i j) (stepped_off f y z q p free j i)) a.0 w.2)
    a.1)

module _ (d : Digraph) (s t : ℕ) (f : ℕ → ℕ → Bool) (v : ℕ) (hs : s < d.nodes) (st : s ≡ t → ⊥) where
  -- A unit that is at s is one of the value.
  begins : Flow d s t f v → Carried d s t f (v + 1) s
  begins fl =
      record {
        along = fl.along;
        oneway = fl.oneway;
        level = λ p i c.
            elim (cases_eq p s) [
              | inl e ↦ rw (e, eq-eqb s s refl) (omega (arith, fl.value))
              | inr o ↦ rw (ne_eqb p s o) (omega (arith, fl.kept p i o c))
            ];
      }

  -- A unit that is at t has come through.
  ends : Carried d s t f v t → Flow d s t f v
  ends k =
      record {
        along = k.along;
        oneway = k.oneway;
        kept = λ p i o c. (let e = rw (ne_eqb p s o, ne_eqb p t c) at (k.level p i c) in omega arith);
        value = (let e = rw (eq-eqb s s refl, ne_eqb s t st) at (k.level s hs st) in omega arith);
      }

pub push_adds_one_lem : PushAddsOne
push_adds_one_lem d s t f v path sound fl hs st w =
    ends d s t (pushed f path) (v + 1) hs st (carry_all d s t (v + 1) sound s path f (begins d s t f v hs st fl) w.walk w.apart)
