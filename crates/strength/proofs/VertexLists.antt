-- The front of a list, the least of some numbers, and the numbers from w up: as the runs of the
-- vertex computation need them.
use Rattle.std.proofs.Common.{◌≡◌, ℕ, zero, suc, ◌+◌, ◌<◌, ◌≤◌, Bool, true, false, cond, ◌⊎◌, List, [], ◌∷◌, ◌++◌, map, take, filter, sym, refl, ap, ◌∙◌, subst, inl, inr, add-zero, arith}
use Rattle.std.proofs.lemmas.Bool.{cases_eq, cases_lt, cases_Bool, both_ways, cond-true, cond-false}
use Rattle.graph.specs.Graph.{count}
use Rattle.flows.specs.Lists.{upto}
use Rattle.cuts.specs.Choices.{In, least}
use Rattle.strength.proofs.EdgeLists.{least_default}
use Rattle.strength.proofs.VertexCounts.{count_up}

-- The front of a list stands in it.
pub in_taken : {X : Type 0} (c : X) (t : ℕ) (xs : List X) → In c (take t xs) → In c xs
in_taken c zero xs i = absurd i
in_taken c (suc t) [] i = absurd i
in_taken c (suc t) (x ∷ xs) i = elim i [ inl e ↦ inl e | inr j ↦ inr (in_taken c t xs j) ]

-- The least of some numbers is no more than any of them, and than the default.
pub least_below : {X : Type 0} (f : X → ℕ) (d : ℕ) (xs : List X) (x : X) → In x xs → least d (map f xs) ≤ f x
unfolding least
least_below f d [] x i = absurd i
least_below f d (y ∷ xs) x i = elim i [ inl e ↦ omega (arith, ap f e) | inr j ↦ omega (arith, least_below f d xs x j) ]

-- It is the default or one of them.
pub least_met : {X : Type 0} (f : X → ℕ) (d : ℕ) (xs : List X) → (least d (map f xs) ≡ d) ⊎ ((x : X) × In x xs × (f x ≡ least d (map f xs)))
unfolding least
least_met f d [] = inl refl
least_met f d (y ∷ xs) =
    elim (cases_lt (f y) (least d (map f xs))) [
      | inl l ↦ inr (y, inl refl, omega arith)
      | inr l ↦ elim (least_met f d xs) [ inl e ↦ inl (omega arith) | inr w ↦ inr (w.0, inr w.1, omega (arith, w.2)) ]
    ]

-- More numbers have no larger least.
pub least_more : {X : Type 0} (f : X → ℕ) (d : ℕ) (xs ys : List X) → least d (map f (xs ++ ys)) ≤ least d (map f xs)
unfolding least
least_more f d [] ys = least_default d (map f ys)
least_more f d (x ∷ xs) ys = omega (arith, least_more f d xs ys)

-- The numbers from w up, m of them.
abbrev pub up : ℕ → ℕ → List ℕ
up w zero = []
up w (suc m) = w ∷ up (suc w) m

-- One number more at the end.
up_push : (w m : ℕ) → up w (suc m) ≡ up w m ++ ((w + m) ∷ [])
up_push w zero = ap (λ (k : ℕ). k ∷ []) (sym (add-zero w))
up_push w (suc m) = ap (λ (l : List ℕ). w ∷ l) (up_push (suc w) m ∙ ap (λ (k : ℕ). up (suc w) m ++ (k ∷ [])) (let e : suc w + m ≡ w + suc m = omega arith in e))

-- The numbers below n are those from 0 up.
pub upto_up : (n : ℕ) → upto n ≡ up 0 n
unfolding upto
upto_up zero = refl
upto_up (suc n) = ap (λ (l : List ℕ). l ++ (n ∷ [])) (upto_up n) ∙ ap (λ (k : ℕ). up 0 n ++ (k ∷ [])) (let e : n ≡ 0 + n = omega arith in e) ∙ sym (up_push 0 n)

-- What stands there lies between.
pub in_up : (w m v : ℕ) → In v (up w m) → (w ≤ v) × (v < w + m)
in_up w zero v i = absurd i
in_up w (suc m) v i =
    elim i [
      | inl e ↦ (omega arith, omega arith)
      | inr j ↦ (let r = in_up (suc w) m v j in (omega (arith, r.0), omega (arith, r.1)))
    ]

-- How counting goes on past w.
pub count_on : (p : ℕ → Bool) (w : ℕ) → p w ≡ true → count p (suc w) ≡ count p w + 1
unfolding count
count_on p w e = ap (λ (b : Bool). count p w + cond b 1 0) e

-- Where w does not pass, the count stays.
pub count_off : (p : ℕ → Bool) (w : ℕ) → p w ≡ false → count p (suc w) ≡ count p w
unfolding count
count_off p w e = ap (λ (b : Bool). count p w + cond b 1 0) e ∙ add-zero (count p w)

-- What is kept of a list begins with an item that passes.
pub kept_on : (p : ℕ → Bool) (w : ℕ) (xs : List ℕ) → p w ≡ true → filter p (w ∷ xs) ≡ w ∷ filter p xs
kept_on p w xs e = cond-true (p w) (w ∷ filter p xs) (filter p xs) e

-- An item that does not pass is left out.
pub kept_off : (p : ℕ → Bool) (w : ℕ) (xs : List ℕ) → p w ≡ false → filter p (w ∷ xs) ≡ filter p xs
kept_off p w xs e = cond-false (p w) (w ∷ filter p xs) (filter p xs) e

-- A number that passes stands in the front of what is kept, if few that pass come before it.
pub in_kept_front : (p : ℕ → Bool) (m w t y : ℕ) → p y ≡ true → w ≤ y → y < w + m → count p y < count p w + t → In y (take t (filter p (up w m)))
in_kept_front p zero w t y h a b c = absurd (omega arith)
in_kept_front p (suc m) w zero y h a b c = absurd (omega (arith, count_up p w y a))
in_kept_front p (suc m) w (suc t) y h a b c =
    elim (cases_Bool (p w)) [
      | inl e ↦
          subst (λ l. In y (take (suc t) l)) (sym (kept_on p w (up (suc w) m) e))
          (elim (cases_eq y w) [
            | inl q ↦ inl q
            | inr d ↦ inr (in_kept_front p m (suc w) t y h (omega arith) (omega arith) (omega (arith, count_on p w e)))
          ])
      | inr e ↦
          (let d : y ≡ w → ⊥ = λ q. both_ways _ e (ap p (sym q) ∙ h) in
          subst (λ l. In y (take (suc t) l)) (sym (kept_off p w (up (suc w) m) e))
          (in_kept_front p m (suc w) (suc t) y h (omega arith) (omega arith) (omega (arith, count_off p w e))))
    ]
