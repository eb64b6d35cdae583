-- What a reply by the table says.
use native.Mathlib.Numerals.{unary_clauses}
use Rattle.std.proofs.Common.{◌≡◌, ℕ, zero, suc, ◌<◌, ◌≤◌, Bool, true, false, cond, not, ◌&&◌, ltb, leb, ◌⊎◌, List, [], ◌∷◌, map, Ok, Err, sym, refl, ap, ◌∙◌, subst, inl, inr, ⊎_elim, arith}
use Rattle.std.specs.List.Sorted.{IsStrictlyIncreasing}
use Rattle.std.proofs.lemmas.List.Elements.{All-nil, All-cons}
use Rattle.std.proofs.lemmas.Bool.{cases_Bool, and_parts, leb-true, ltb-true, leb-false, eqb-false, lt-ltb, ne_eqb, lt-leb, not-false}
use Rattle.graph.specs.Graph.{edges}
use Rattle.model.specs.declared.call.Call.TheVariants.{Make, Join, Part}
use Rattle.model.specs.declared.refusal.Refusal.{Refusal}
use Rattle.model.specs.declared.refusal.Refusal.TheVariants.{BadOrder, ShortMemory, NoVertex, SameVertex, IsStruck, IsJoined, NotJoined, NotStruck, NoRoom, OneVertex, Adjacent, BadDigits, BadFrame, OutOfTurn}
use Rattle.model.specs.Numbers.{refusal_number}
use Rattle.model.specs.Model.{Lent, bare, unmade, made, make_limit}
use Rattle.model.specs.Table.{Reply, nothing, fits, checking_order, first_fitting, reply, reply_on}
use Rattle.model.specs.Meaning.{FirstOf, FirstFits, OrderAscends, SmallestFirst, JoinAccepted, PartAccepted, ExactlyWhen}

-- A refusal stands in a list.
In : Refusal → List Refusal → Type 0
In q [] = ⊥
In q (r ∷ rs) = (q ≡ r) ⊎ In q rs

-- Each number of the list is above n, and the list ascends.
above : ℕ → List Refusal → Bool
above n [] = true
above n (r ∷ rs) = ltb n (refusal_number r) && above n rs

ascends : List Refusal → Bool
ascends [] = true
ascends (r ∷ rs) = above (refusal_number r) rs && ascends rs

-- What stands in a list above n has a larger number.
above_in : (n : ℕ) (rs : List Refusal) (q : Refusal) → above n rs ≡ true → In q rs → n < refusal_number q
unfolding above In
above_in n [] q h i = absurd i
above_in n (r ∷ rs) q h i =
    let p = and_parts (ltb n (refusal_number r)) (above n rs) h in
    ⊎_elim (λ e. subst (λ (x : Refusal). n < refusal_number x) (sym e) (ltb-true n (refusal_number r) p.0)) (λ j. above_in n rs q p.1 j) i

-- The first that fits, in a list that ascends.
fitting : (p : Refusal → Bool) (rs : List Refusal) (r : Refusal) → ascends rs ≡ true → first_fitting p rs ≡ Err r
    → (p r ≡ true) × ((q : Refusal) → In q rs → refusal_number q < refusal_number r → p q ≡ false)
unfolding ascends In
fitting p [] r up e = cc
fitting p (x ∷ xs) r up e =
    let u = and_parts (above (refusal_number x) xs) (ascends xs) up in
    ⊎_elim
    (λ on. let f = rw on at e in let s : x ≡ r = cc in (
      ap p (sym s) ∙ on,
      λ q i l. ⊎_elim
          (λ same. let z : ⊥ = omega (arith, ap refusal_number same, ap refusal_number s) in absurd z)
          (λ j. let z : ⊥ = omega (arith, above_in (refusal_number x) xs q u.0 j, ap refusal_number s) in absurd z)
          i,
    ))
    (λ off. let t = fitting p xs r u.1 (rw off at e) in
    (t.0, λ q i l. ⊎_elim (λ same. ap p same ∙ off) (λ j. t.1 q j l) i))
    (cases_Bool (p x))

-- The first that fits, where it stands.
first_of : (p : Refusal → Bool) (rs : List Refusal) (r : Refusal) → first_fitting p rs ≡ Err r → FirstOf p rs r
first_of p [] r e = cc
first_of p (x ∷ xs) r e =
    ⊎_elim
    (λ on.
    let f = rw on at e in
    let s : x ≡ r = cc in
    record { before = []; later = xs; stands = ap (λ (y : Refusal). y ∷ xs) s; passed = ap p (sym s) ∙ on; none = All-nil (λ q. p q ≡ false) })
    (λ off.
    let t = first_of p xs r (rw off at e) in
    record {
      before = x ∷ t.before;
      later = t.later;
      stands = ap (λ (ys : List Refusal). x ∷ ys) t.stands;
      passed = t.passed;
      none = All-cons (λ q. p q ≡ false) x t.before off t.none;
    })
    (cases_Bool (p x))

-- Acceptance says that none fits.
none_fitting : (p : Refusal → Bool) (rs : List Refusal) → first_fitting p rs ≡ Ok tt → (q : Refusal) → In q rs → p q ≡ false
unfolding In
none_fitting p [] e q i = absurd i
none_fitting p (x ∷ xs) e q i =
    ⊎_elim
    (λ on. let f = rw on at e in cc)
    (λ off. ⊎_elim (λ same. ap p same ∙ off) (λ j. none_fitting p xs (rw off at e) q j) i)
    (cases_Bool (p x))

-- The checking order ascends.
ordered : ascends checking_order ≡ true
unfolding ascends above
ordered = refl

-- Every refusal stands in it.
listed : (q : Refusal) → In q checking_order
unfolding In
listed BadOrder = inl refl
listed ShortMemory = inr (inl refl)
listed NoVertex = inr (inr (inl refl))
listed SameVertex = inr (inr (inr (inl refl)))
listed IsStruck = inr (inr (inr (inr (inl refl))))
listed IsJoined = inr (inr (inr (inr (inr (inl refl)))))
listed NotJoined = inr (inr (inr (inr (inr (inr (inl refl))))))
listed NotStruck = inr (inr (inr (inr (inr (inr (inr (inl refl)))))))
listed NoRoom = inr (inr (inr (inr (inr (inr (inr (inr (inl refl))))))))
listed OneVertex = inr (inr (inr (inr (inr (inr (inr (inr (inr (inl refl)))))))))
listed Adjacent = inr (inr (inr (inr (inr (inr (inr (inr (inr (inr (inl refl))))))))))
listed BadDigits = inr (inr (inr (inr (inr (inr (inr (inr (inr (inr (inr (inl refl)))))))))))
listed BadFrame = inr (inr (inr (inr (inr (inr (inr (inr (inr (inr (inr (inr (inl refl))))))))))))
listed OutOfTurn = inr (inr (inr (inr (inr (inr (inr (inr (inr (inr (inr (inr (inr (inl refl)))))))))))))

-- The table's reply is the first that fits in the checking order, or none does.
pub first_fits_lem : FirstFits
first_fits_lem lent s c = (
  λ r e. first_of (fits lent s c) checking_order r e,
  λ e q. none_fitting (fits lent s c) checking_order e q (listed q),
)

-- Each number of a list is below the next.
rising : List ℕ → Bool
rising [] = true
rising (x ∷ []) = true
rising (x ∷ (y ∷ ys)) = ltb x y && rising (y ∷ ys)

increasing : (xs : List ℕ) → rising xs ≡ true → IsStrictlyIncreasing xs
unfolding rising
increasing [] h k l = absurd (omega (arith, l))
increasing (x ∷ []) h k l = absurd (omega (arith, l))
increasing (x ∷ (y ∷ ys)) h zero l = ltb-true x y (and_parts (ltb x y) (rising (y ∷ ys)) h).0
increasing (x ∷ (y ∷ ys)) h (suc k) l = simp unary_clauses (simp unary_clauses at (increasing (y ∷ ys) (and_parts (ltb x y) (rising (y ∷ ys)) h).1 k (omega arith)))

-- The checking order ascends by number.
pub order_ascends_lem : OrderAscends
unfolding rising
order_ascends_lem = increasing (map refusal_number checking_order) refl

-- The table's reply is the smallest that fits, or none does.
pub smallest_first_lem : SmallestFirst
smallest_first_lem lent s c = (
  λ r e. let t = fitting (fits lent s c) checking_order r ordered e in (t.0, λ q l. t.1 q (listed q) l),
  λ e q. none_fitting (fits lent s c) checking_order e q (listed q),
)

-- A store accepts a join, and a part, exactly when the plain statement says.
pub exactly_when : ExactlyWhen
exactly_when g capacity u v = (join_only, join_if, part_only, part_if)
  where
    join_only : reply_on (bare g capacity) (Join u v) ≡ Ok tt → JoinAccepted g capacity u v
    join_only e =
        let none = (smallest_first_lem nothing (made (bare g capacity)) (Join u v)).1 e in
        let b = and_parts (ltb u g.order) (ltb v g.order) (not-false (ltb u g.order && ltb v g.order) (none NoVertex)) in
        (ltb-true u g.order b.0, ltb-true v g.order b.1, eqb-false u v (none SameVertex), none IsJoined, leb-false capacity (edges g) (none NoRoom))

    join_if : JoinAccepted g capacity u v → reply_on (bare g capacity) (Join u v) ≡ Ok tt
    join_if h = rw (lt-ltb u g.order h.0, lt-ltb v g.order h.1, ne_eqb u v h.2, h.3, lt-leb capacity (edges g) h.4)

    part_only : reply_on (bare g capacity) (Part u v) ≡ Ok tt → PartAccepted g u v
    part_only e =
        let none = (smallest_first_lem nothing (made (bare g capacity)) (Part u v)).1 e in
        let b = and_parts (ltb u g.order) (ltb v g.order) (not-false (ltb u g.order && ltb v g.order) (none NoVertex)) in
        (ltb-true u g.order b.0, ltb-true v g.order b.1, eqb-false u v (none SameVertex), not-false (g.joined u v) (none NotJoined))

    part_if : PartAccepted g u v → reply_on (bare g capacity) (Part u v) ≡ Ok tt
    part_if h = rw (lt-ltb u g.order h.0, lt-ltb v g.order h.1, ne_eqb u v h.2, h.3)

-- What an accepted make says.
pub make_accepted : (lent : Lent) (n : ℕ) → reply lent unmade (Make n) ≡ Ok tt → (1 ≤ n) × (n ≤ make_limit) × (lent.room.enough n ≡ true)
make_accepted lent n h =
    let p = passed (leb 1 n && leb n make_limit) (lent.room.enough n) h in
    let q = and_parts (leb 1 n) (leb n make_limit) p.0 in
    (leb-true 1 n q.0, leb-true n make_limit q.1, p.1)
  where
    -- Only two tests that pass lead to acceptance.
    passed : (a b : Bool) → cond {A = Reply} (not a) (Err BadOrder) (cond {A = Reply} (not b) (Err ShortMemory) (Ok tt)) ≡ Ok tt → (a ≡ true) × (b ≡ true)
    passed true true h = (refl, refl)
    passed true false h = cc
    passed false b h = cc
