-- One arc more or less in a set of arcs, and what that does to the counts at each node.
use Rattle.std.proofs.Common.{◌≡◌, ℕ, ◌+◌, ◌<◌, Bool, true, false, not, ◌&&◌, ◌||◌, eqb, ◌⊎◌, sym, refl, ◌∙◌, ap₂, inl, inr, arith}
use Rattle.std.proofs.lemmas.Bool.{cases_eq, both_ways, eq-eqb, ne_eqb}
use Rattle.std.proofs.lemmas.Bool.Decides.{nat_tests}
use Rattle.graph.proofs.Counts.{count_ext, count_one}
use Rattle.flows.specs.Flow.{out, into}
use Rattle.flows.proofs.Sums.{bit}

-- h is f and the arc from x to y, which f has not.
pub record More (f h : ℕ → ℕ → Bool) (x y : ℕ) : Type 0 where
  pub was : f x y ≡ false
  pub is : h x y ≡ true
  pub rest : (p q : ℕ) → (p ≡ x → q ≡ y → ⊥) → h p q ≡ f p q

-- One more goes out of x.
pub out_more : (n : ℕ) (f h : ℕ → ℕ → Bool) (x y : ℕ) → More f h x y → y < n → (p : ℕ) → out n h p ≡ out n f p + bit (eqb p x)
out_more n f h x y m k p =
    elim (cases_eq p x) [
      | inl e ↦ rw (e, eq-eqb x x refl) (count_one (f x) (h x) y n k m.was m.is (λ q _ d. m.rest x q (λ _ e. d e)))
      | inr d ↦ rw (ne_eqb p x d) (omega (arith, count_ext (h p) (f p) n (λ q _. m.rest p q (λ i _. d i))))
    ]

-- One more goes into y.
pub into_more : (n : ℕ) (f h : ℕ → ℕ → Bool) (x y : ℕ) → More f h x y → x < n → (p : ℕ) → into n h p ≡ into n f p + bit (eqb p y)
into_more n f h x y m k p =
    out_more n (λ a b. f b a) (λ a b. h b a) y x (record { was = m.was; is = m.is; rest = λ a b d. m.rest b a (λ i j. d j i) }) k p

-- f without the arc from x to y, and with it.
abbrev pub lacking : (ℕ → ℕ → Bool) → ℕ → ℕ → (ℕ → ℕ → Bool)
lacking f x y = λ a b. f a b && not (eqb a x && eqb b y)

abbrev pub having : (ℕ → ℕ → Bool) → ℕ → ℕ → (ℕ → ℕ → Bool)
having f x y = λ a b. f a b || (eqb a x && eqb b y)

at_arc : (x y : ℕ) → (eqb x x && eqb y y) ≡ true
at_arc x y = grind (arith, nat_tests)

off_arc : (x y a b : ℕ) → (a ≡ x → b ≡ y → ⊥) → (eqb a x && eqb b y) ≡ false
off_arc x y a b d =
    elim (cases_eq a x) [
      | inl i ↦ elim (cases_eq b y) [ inl j ↦ absurd (d i j) | inr j ↦ grind (arith, nat_tests) ]
      | inr i ↦ grind (arith, nat_tests)
    ]

and_not : (a b : Bool) → b ≡ true → (a && not b) ≡ false
and_not a b e = grind arith

and_not_off : (a b : Bool) → b ≡ false → (a && not b) ≡ a
and_not_off a b e = grind arith

or_off : (a b : Bool) → b ≡ false → (a || b) ≡ a
or_off a b e = grind arith

or_on : (a b : Bool) → b ≡ true → (a || b) ≡ true
or_on a b e = grind arith

pub lacking_more : (f : ℕ → ℕ → Bool) (x y : ℕ) → f x y ≡ true → More (lacking f x y) f x y
lacking_more f x y e =
    record {
      was = and_not (f x y) _ (at_arc x y);
      is = e;
      rest = λ a b d. sym (and_not_off (f a b) _ (off_arc x y a b d));
    }

pub having_more : (f : ℕ → ℕ → Bool) (x y : ℕ) → f x y ≡ false → More f (having f x y) x y
having_more f x y e =
    record {
      was = e;
      is = or_on (f x y) _ (at_arc x y);
      rest = λ a b d. or_off (f a b) _ (off_arc x y a b d);
    }

-- What the larger set has is the arc or is in the smaller set; what the smaller has is in the larger.
pub more_cases : (f h : ℕ → ℕ → Bool) (x y : ℕ) → More f h x y → (a b : ℕ) → h a b ≡ true → ((a ≡ x) × (b ≡ y)) ⊎ (f a b ≡ true)
more_cases f h x y m a b e =
    elim (cases_eq a x) [
      | inl i ↦ elim (cases_eq b y) [ inl j ↦ inl (i, j) | inr j ↦ inr (sym (m.rest a b (λ _ k. j k)) ∙ e) ]
      | inr i ↦ inr (sym (m.rest a b (λ k _. i k)) ∙ e)
    ]

pub more_keeps : (f h : ℕ → ℕ → Bool) (x y : ℕ) → More f h x y → (a b : ℕ) → f a b ≡ true → h a b ≡ true
more_keeps f h x y m a b e = m.rest a b (λ i j. both_ways (f x y) m.was (sym (ap₂ f i j) ∙ e)) ∙ e
