-- What cells hold: where a number stands among ascending cells, and what an insertion and a removal change.
use Rattle.std.proofs.Common.{◌≡◌, ℕ, zero, suc, ◌+◌, ◌-◌, ◌/◌, ◌%◌, ◌<◌, ◌≤◌, Bool, true, false, cond, not, ◌&&◌, ◌||◌, eqb, ltb, ◌⊎◌, List, get_or, Decides, sym, refl, ap, ◌∙◌, subst, inl, inr, ⊎_elim, arith}
use Rattle.std.proofs.lemmas.Bool.Decides.{Decides-below_or, Decides-eqb, Decides-or, Decides-and, Decides-not, same_from_decides, Decides-like}
use Rattle.std.proofs.lemmas.Bool.{cases_Bool, cases_eq, cases_lt, lt-ltb, le-ltb, true≢false}
use Rattle.graph.specs.Graph.{count}
use Rattle.graph.proofs.Counts.{count_short}
use Rattle.list.specs.Cells.{code, holds, Rising, place}
use Rattle.list.proofs.Shifts.{Inserted, Removed}

-- One of the first k cells holds c.
abbrev Somewhere : ℕ → List ℕ → ℕ → Type 0
Somewhere k xs c = (i : ℕ) × (i < k) × (get_or xs i 0 ≡ c)

-- The test of what is held decides that one of the cells holds it.
held_decides : (k : ℕ) (xs : List ℕ) (c : ℕ) → Decides (holds k xs c) (Somewhere k xs c)
unfolding holds
held_decides k xs c =
    Decides-below_or (λ i. eqb (get_or xs i 0) c) (λ i. get_or xs i 0 ≡ c) (λ i. holds i xs c) (λ i. Decides-eqb (get_or xs i 0) c) refl (λ _. refl) k

-- What one of the cells holds is held, and what none holds is not.
pub held_where : (k : ℕ) (xs : List ℕ) (c i : ℕ) → i < k → get_or xs i 0 ≡ c → holds k xs c ≡ true
held_where k xs c i l e = (held_decides k xs c).1 (i, l, e)

pub held_nowhere : (k : ℕ) (xs : List ℕ) (c : ℕ) → ((i : ℕ) → i < k → get_or xs i 0 ≡ c → ⊥) → holds k xs c ≡ false
held_nowhere k xs c none =
    ⊎_elim
    (λ on. let h = (held_decides k xs c).0 on in absurd (none h.0 h.1 h.2))
    (λ off. off)
    (cases_Bool (holds k xs c))

-- What is held stands in one of the cells.
pub held_index : (k : ℕ) (xs : List ℕ) (c : ℕ) → holds k xs c ≡ true → (i : ℕ) × (i < k) × (get_or xs i 0 ≡ c)
held_index k xs c on = (held_decides k xs c).0 on

-- Where all pass, all are counted.
count_all : (p : ℕ → Bool) (n : ℕ) → ((i : ℕ) → i < n → p i ≡ true) → count p n ≡ n
unfolding count
count_all p zero h = refl
count_all p (suc n) h =
    let one : ◌≡◌ {A = ℕ} (cond (p n) 1 0) 1 = ap (λ (b : Bool). cond {A = ℕ} b 1 0) (h n (omega arith)) in
    omega (arith, one, count_all p n (λ i l. h i (omega arith)))

-- Where the cells below r are below c and no other is, r is the place of c.
pub place_is : (k : ℕ) (xs : List ℕ) (c r : ℕ) → r ≤ k → ((i : ℕ) → i < r → get_or xs i 0 < c) → ((i : ℕ) → r ≤ i → i < k → c ≤ get_or xs i 0) → r ≡ place k xs c
place_is k xs c r le below above =
    sym (count_short (λ i. ltb (get_or xs i 0) c) r k le (λ i l m. le-ltb (get_or xs i 0) c (above i l m))
    ∙ count_all (λ i. ltb (get_or xs i 0) c) r (λ i l. lt-ltb (get_or xs i 0) c (below i l)))

-- Whether c is held shows at its place.
pub held_at : (k : ℕ) (xs : List ℕ) (c r : ℕ) → Rising k xs → ((i : ℕ) → i < r → get_or xs i 0 < c) → ((i : ℕ) → r ≤ i → i < k → c ≤ get_or xs i 0)
    → (b : Bool) → Decides b ((r < k) × (get_or xs r 0 ≡ c)) → b ≡ holds k xs c
held_at k xs c r up below above b d =
    same_from_decides b (holds k xs c) (Decides-like b (λ p. (r, p.0, p.1)) there d) (held_decides k xs c)
  where
    there : Somewhere k xs c → (r < k) × (get_or xs r 0 ≡ c)
    there h =
        ⊎_elim
        (λ l. let z : ⊥ = omega (arith, below h.0 l, h.2) in absurd z)
        (λ l. let e : h.0 ≡ r =
        ⊎_elim (λ e. e)
        (λ ne. let z : ⊥ = omega (arith, up r h.0 (omega (arith, ne)) h.1, above r (omega arith) (omega (arith, h.1)), h.2) in absurd z)
        (cases_eq h.0 r) in
        (omega (arith, e, h.1), ap (λ (i : ℕ). get_or xs i 0) (sym e) ∙ h.2))
        (cases_lt h.0 r)

-- Where c is not held, the cells from its place on are above it.
pub above_place : (k : ℕ) (xs : List ℕ) (c r : ℕ) → ((i : ℕ) → r ≤ i → i < k → c ≤ get_or xs i 0) → holds k xs c ≡ false → (i : ℕ) → r ≤ i → i < k → c < get_or xs i 0
above_place k xs c r above off i l m =
    ⊎_elim
    (λ e. let on : holds k xs c ≡ true = (held_decides k xs c).1 (i, m, e) in
    let z : ⊥ = true≢false (sym on ∙ off) in absurd z)
    (λ ne. omega (arith, above i l m, ne))
    (cases_eq (get_or xs i 0) c)

-- What is held after an insertion.
pub held_inserted : (k : ℕ) (xs ys : List ℕ) (at c d : ℕ) → at ≤ k → Inserted xs ys k at c → holds (k + 1) ys d ≡ (holds k xs d || eqb c d)
held_inserted k xs ys at c d le e =
    same_from_decides (holds (k + 1) ys d) (holds k xs d || eqb c d) (held_decides (k + 1) ys d)
    (Decides-like (holds k xs d || eqb c d) there back (Decides-or (holds k xs d) (eqb c d) (held_decides k xs d) (Decides-eqb c d)))
  where
    there : Somewhere k xs d ⊎ (c ≡ d) → Somewhere (k + 1) ys d
    there s =
        ⊎_elim
        (λ h. ⊎_elim (λ l. (h.0, omega (arith, h.1), e.before h.0 l ∙ h.2)) (λ l. (h.0 + 1, omega (arith, h.1), e.after h.0 l h.1 ∙ h.2)) (cases_lt h.0 at))
        (λ q. (at, omega arith, e.here ∙ q))
        s

    back : Somewhere (k + 1) ys d → Somewhere k xs d ⊎ (c ≡ d)
    back h =
        ⊎_elim
        (λ l. inl (h.0, omega (arith, h.1), sym (e.before h.0 l) ∙ h.2))
        (λ l. ⊎_elim
        (λ q. inr (sym e.here ∙ ap (λ (i : ℕ). get_or ys i 0) (sym q) ∙ h.2))
        (λ ne. let j : h.0 - 1 + 1 ≡ h.0 = omega (arith, ne) in
        inl (h.0 - 1, omega (arith, h.1, ne), sym (e.after (h.0 - 1) (omega (arith, ne)) (omega (arith, h.1, ne))) ∙ ap (λ (i : ℕ). get_or ys i 0) j ∙ h.2))
        (cases_eq h.0 at))
        (cases_lt h.0 at)

-- What is held after a removal: all but the number taken out, which stood there alone.
pub held_removed : (k : ℕ) (xs ys : List ℕ) (at c d : ℕ) → Rising k xs → at < k → get_or xs at 0 ≡ c → Removed xs ys k at → holds (k - 1) ys d ≡ (holds k xs d && not (eqb c d))
held_removed k xs ys at c d up l stood e =
    same_from_decides (holds (k - 1) ys d) (holds k xs d && not (eqb c d)) (held_decides (k - 1) ys d)
    (Decides-like (holds k xs d && not (eqb c d)) there back (Decides-and (holds k xs d) (not (eqb c d)) (held_decides k xs d) (Decides-not (eqb c d) (Decides-eqb c d))))
  where
    there : Somewhere k xs d × (c ≡ d → ⊥) → Somewhere (k - 1) ys d
    there p =
        let h = p.0 in
        ⊎_elim
        (λ m. (h.0, omega (arith, m, h.1), e.before h.0 m ∙ h.2))
        (λ m. ⊎_elim
        (λ q. let z : ⊥ = p.1 (sym stood ∙ ap (λ (i : ℕ). get_or xs i 0) (sym q) ∙ h.2) in absurd z)
        (λ ne. let j : h.0 - 1 + 1 ≡ h.0 = omega (arith, ne) in
        (h.0 - 1, omega (arith, h.1, ne), e.after (h.0 - 1) (omega (arith, ne)) (omega (arith, h.1, ne)) ∙ ap (λ (i : ℕ). get_or xs i 0) j ∙ h.2))
        (cases_eq h.0 at))
        (cases_lt h.0 at)

    back : Somewhere (k - 1) ys d → Somewhere k xs d × (c ≡ d → ⊥)
    back h =
        ⊎_elim
        (λ m. let f : get_or xs h.0 0 ≡ d = sym (e.before h.0 m) ∙ h.2 in
        ((h.0, omega (arith, h.1), f), λ q. omega (arith, up h.0 at m l, f, stood, q)))
        (λ m. let f : get_or xs (h.0 + 1) 0 ≡ d = sym (e.after h.0 m (omega (arith, h.1))) ∙ h.2 in
        ((h.0 + 1, omega (arith, h.1), f), λ q. omega (arith, up at (h.0 + 1) (omega arith) (omega (arith, h.1)), f, stood, q)))
        (cases_lt h.0 at)

-- An insertion where it belongs keeps the order.
pub rising_inserted : (k : ℕ) (xs ys : List ℕ) (at c : ℕ) → Rising k xs → at ≤ k → ((i : ℕ) → i < at → get_or xs i 0 < c) → ((i : ℕ) → at ≤ i → i < k → c < get_or xs i 0)
    → Inserted xs ys k at c → Rising (k + 1) ys
rising_inserted k xs ys at c up le below above e i j ij jk =
    ⊎_elim
    (λ ia. ⊎_elim
    (λ ja. omega (arith, e.before i ia, e.before j ja, up i j ij (omega arith)))
    (λ ja. ⊎_elim
    (λ q. omega (arith, e.before i ia, e.here, ap (λ (z : ℕ). get_or ys z 0) q, below i ia))
    (λ ne. omega (arith, e.before i ia, moved j ja ne jk, up i (j - 1) (omega (arith, ne)) (omega (arith, ne))))
    (cases_eq j at))
    (cases_lt j at))
    (λ ia. ⊎_elim
    (λ q. let ne : j ≡ at → ⊥ = λ r. omega arith in omega (arith, e.here, ap (λ (z : ℕ). get_or ys z 0) q, moved j (omega arith) ne jk, above (j - 1) (omega arith) (omega arith)))
    (λ ne. let nj : j ≡ at → ⊥ = λ r. omega arith in omega (arith, moved i ia ne (omega arith), moved j (omega arith) nj jk, up (i - 1) (j - 1) (omega (arith, ne)) (omega (arith, ne))))
    (cases_eq i at))
    (cases_lt i at)
  where
    moved : (m : ℕ) → at ≤ m → (m ≡ at → ⊥) → m < k + 1 → get_or ys m 0 ≡ get_or xs (m - 1) 0
    moved m am nm mk = let q : m - 1 + 1 ≡ m = omega (arith, nm) in ap (λ (z : ℕ). get_or ys z 0) (sym q) ∙ e.after (m - 1) (omega (arith, nm)) (omega (arith, nm))

-- A removal keeps the order.
pub rising_removed : (k : ℕ) (xs ys : List ℕ) (at : ℕ) → Rising k xs → at < k → Removed xs ys k at → Rising (k - 1) ys
rising_removed k xs ys at up l e i j ij jk =
    ⊎_elim
    (λ ia. ⊎_elim
    (λ ja. omega (arith, e.before i ia, e.before j ja, up i j ij (omega arith)))
    (λ ja. omega (arith, e.before i ia, e.after j ja (omega arith), up i (j + 1) (omega arith) (omega arith)))
    (cases_lt j at))
    (λ ia. omega (arith, e.after i ia (omega arith), e.after j (omega arith) (omega arith), up (i + 1) (j + 1) (omega arith) (omega arith)))
    (cases_lt i at)

-- A number of two vertices: the lower one, times 256, and the higher one.
abbrev pub Pair : ℕ → ℕ → Type 0
Pair n c = (c / 256 < c % 256) × (c % 256 < n)

-- The first k cells hold such numbers.
abbrev pub Coded : ℕ → ℕ → List ℕ → Type 0
Coded n k xs = (i : ℕ) → i < k → Pair n (get_or xs i 0)

-- Two vertices have one.
code_pair : (n u v : ℕ) → n ≤ 256 → u < n → v < n → (u ≡ v → ⊥) → Pair n (code u v)
code_pair n u v small hu hv ne = (omega (arith, ne), omega (arith, ne))

-- The number of two vertices put in leaves numbers of two vertices.
pub coded_inserted : (n k : ℕ) (xs ys : List ℕ) (at u v : ℕ) → Coded n k xs → n ≤ 256 → u < n → v < n → (u ≡ v → ⊥) → at ≤ k
    → Inserted xs ys k at (code u v) → Coded n (k + 1) ys
coded_inserted n k xs ys at u v coded small hu hv ne le e i l =
    ⊎_elim
    (λ m. subst (Pair n) (sym (e.before i m)) (coded i (omega arith)))
    (λ m. ⊎_elim
    (λ q. subst (Pair n) (sym (ap (λ (j : ℕ). get_or ys j 0) q ∙ e.here)) (code_pair n u v small hu hv ne))
    (λ q. let j : i ≡ i - 1 + 1 = omega (arith, q) in
    subst (Pair n) (sym (ap (λ (j : ℕ). get_or ys j 0) j ∙ e.after (i - 1) (omega (arith, q)) (omega (arith, q)))) (coded (i - 1) (omega (arith, q))))
    (cases_eq i at))
    (cases_lt i at)

-- And so does a number taken out.
pub coded_removed : (n k : ℕ) (xs ys : List ℕ) (at : ℕ) → Coded n k xs → Removed xs ys k at → Coded n (k - 1) ys
coded_removed n k xs ys at coded e i l =
    ⊎_elim
    (λ m. subst (Pair n) (sym (e.before i m)) (coded i (omega arith)))
    (λ m. subst (Pair n) (sym (e.after i m (omega arith))) (coded (i + 1) (omega arith)))
    (cases_lt i at)
