-- Lists of vertices as sets: how many members, and sublists of a list without repeats.
use Rattle.std.proofs.Common.{◌≡◌, ℕ, zero, suc, ◌+◌, ◌<◌, ◌≤◌, Bool, true, false, cond, ◌&&◌, ◌||◌, eqb, ltb, List, [], ◌∷◌, ◌++◌, length, filter, sym, refl, ap, ◌∙◌, ap₂, ⊎_elim, arith}
use Rattle.std.proofs.lemmas.Bool.{false≢true, cases_eq, both_ways, cond-true, cond-false, or_left, eq-eqb, ne_eqb, ltb-true}
use Rattle.graph.specs.Graph.{count}
use Rattle.graph.proofs.Counts.{count_ext, count_none}
use Rattle.flows.specs.Lists.{upto, among}
use Rattle.flows.specs.Routes.{Apart}
use Rattle.flows.proofs.Sums.{bit}
use Rattle.flows.proofs.Lists.{never_true, any_nil, any_cons, among_push, among_head, among_tail, among_cases, among_off, among_upto, among_kept}
use Rattle.cuts.proofs.Smallest.{Sub, sub_none, sub_take, sub_skip}

-- Of two tests, as numbers.
or_bits : (a b : Bool) → bit (a || b) ≤ bit a + bit b
or_bits a b = grind arith

-- A test that another follows from, as numbers.
bit_le : (a b : Bool) → (a ≡ true → b ≡ true) → bit a ≤ bit b
bit_le a b h = grind arith

-- A set inside another has no more members.
pub count_le : (p q : ℕ → Bool) (n : ℕ) → ((k : ℕ) → k < n → p k ≡ true → q k ≡ true) → count p n ≤ count q n
unfolding count
count_le p q zero h = omega arith
count_le p q (suc n) h = omega (arith, count_le p q n (λ k l. h k (omega arith)), bit_le (p n) (q n) (h n (omega arith)))

-- Of two sets together there are no more members than of each.
pub count_or : (p q : ℕ → Bool) (n : ℕ) → count (λ k. p k || q k) n ≤ count p n + count q n
unfolding count
count_or p q zero = omega arith
count_or p q (suc n) = omega (arith, count_or p q n, or_bits (p n) (q n))

-- A number is one number.
pub count_spot : (x n : ℕ) → count (λ k. eqb k x) n ≤ 1
unfolding count
count_spot x zero = omega arith
count_spot x (suc n) =
    ⊎_elim
    (λ e. let z = count_none (λ k. eqb k x) n (λ k l. ne_eqb k x (λ i. omega arith)) in
    let o = ap (λ (b : Bool). cond {A = ℕ} b 1 0) (eq-eqb n x e) in omega arith)
    (λ d. let o = ap (λ (b : Bool). cond {A = ℕ} b 1 0) (ne_eqb n x d) in omega (arith, count_spot x n))
    (cases_eq n x)

-- A list is no shorter than the set of its members.
pub count_among : (c : List ℕ) (n : ℕ) → count (among c) n ≤ length c
count_among [] n = omega (arith, count_none (among []) n (λ k _. any_nil (eqb k)))
count_among (x ∷ c) n =
    omega (
      arith,
      count_ext (among (x ∷ c)) (λ k. eqb k x || among c k) n (λ k _. any_cons (eqb k) x c),
      count_or (λ k. eqb k x) (among c) n,
      count_spot x n,
      count_among c n,
    )

-- What a filter of the numbers below n keeps.
pub among_filter : (t : ℕ → Bool) (n v : ℕ) → among (filter t (upto n)) v ≡ (ltb v n && t v)
among_filter t n v = among_kept t (upto n) v ∙ ap (λ (b : Bool). b && t v) (among_upto n v)

-- Tests that agree on the members of a list keep the same.
pub kept_same : (p q : ℕ → Bool) (xs : List ℕ) → ((v : ℕ) → among xs v ≡ true → p v ≡ q v) → filter p xs ≡ filter q xs
kept_same p q [] h = refl
kept_same p q (x ∷ xs) h =
    ap₂ (λ (b : Bool) (r : List ℕ). cond b (x ∷ r) r) (h x (among_head x xs)) (kept_same p q xs (λ v m. h v (among_tail x xs v m)))

-- A test that no member passes keeps nothing.
kept_none : (p : ℕ → Bool) (xs : List ℕ) → ((v : ℕ) → p v ≡ false) → filter p xs ≡ []
kept_none p [] h = refl
kept_none p (x ∷ xs) h = cond-false (p x) _ _ (h x) ∙ kept_none p xs h

-- One item more of each of two lists, of a stronger and a weaker test.
within_step : (x : ℕ) (ys zs : List ℕ) → Sub ys zs → (b c : Bool) → (b ≡ true → c ≡ true) → Sub (cond b (x ∷ ys) ys) (cond c (x ∷ zs) zs)
within_step x ys zs s true true h = sub_take x ys zs s
within_step x ys zs s true false h = absurd (false≢true (h refl))
within_step x ys zs s false true h = sub_skip x ys zs s
within_step x ys zs s false false h = s

-- Of a stronger test there is kept a sublist.
pub kept_within : (p q : ℕ → Bool) (xs : List ℕ) → ((v : ℕ) → p v ≡ true → q v ≡ true) → Sub (filter p xs) (filter q xs)
kept_within p q [] h = sub_none []
kept_within p q (x ∷ xs) h = within_step x (filter p xs) (filter q xs) (kept_within p q xs h) (p x) (q x) (h x)

-- The members of a sublist are members.
pub sub_among : {c xs : List ℕ} → Sub c xs → (v : ℕ) → among c v ≡ true → among xs v ≡ true
sub_among (sub_none xs) v h = absurd (both_ways _ (any_nil (eqb v)) h)
sub_among (sub_take x ys xs s) v h =
    ⊎_elim (λ e. any_cons (eqb v) x xs ∙ or_left _ _ (eq-eqb v x e)) (λ m. among_tail x xs v (sub_among s v m)) (among_cases x ys v h)
sub_among (sub_skip x ys xs s) v h = among_tail x xs v (sub_among s v h)

-- What is no member of a list is none of a sublist.
sub_off : {c xs : List ℕ} → Sub c xs → (v : ℕ) → among xs v ≡ false → among c v ≡ false
sub_off s v h = never_true _ (λ m. both_ways _ h (sub_among s v m))

-- Of a list without repeats a sublist is what its members keep.
pub sub_kept : {c xs : List ℕ} → Sub c xs → Apart xs → c ≡ filter (among c) xs
sub_kept (sub_none xs) ap = sym (kept_none (among []) xs (λ v. any_nil (eqb v)))
sub_kept (sub_take x ys xs s) (off, rest) =
    ap (λ (r : List ℕ). x ∷ r)
    (sub_kept s rest
    ∙ kept_same (among ys) (among (x ∷ ys)) xs
    (λ v m. sym (any_cons (eqb v) x ys ∙ ap (λ (b : Bool). b || among ys v) (ne_eqb v x (λ e. both_ways (among xs x) off (ap (among xs) (sym e) ∙ m))))))
    ∙ sym (cond-true (among (x ∷ ys) x) _ _ (among_head x ys))
sub_kept (sub_skip x ys xs s) (off, rest) = sub_kept s rest ∙ sym (cond-false (among ys x) _ _ (sub_off s x off))

-- Two sublists with the same members are one.
pub sub_same : {c d xs : List ℕ} → Sub c xs → Sub d xs → Apart xs → ((v : ℕ) → among c v ≡ among d v) → c ≡ d
sub_same {c} {d} {xs} s t free e = sub_kept s free ∙ kept_same (among c) (among d) xs (λ v _. e v) ∙ sym (sub_kept t free)

-- A new number at the end of a list without repeats.
apart_push : (xs : List ℕ) (x : ℕ) → Apart xs → among xs x ≡ false → Apart (xs ++ (x ∷ []))
apart_push [] x free off = (any_nil (eqb x), tt)
apart_push (y ∷ xs) x (here, rest) off =
    let k = among_off y xs x off in
    (among_push xs x y ∙ ap₂ (λ (p q : Bool). p || q) here (ne_eqb y x (λ e. k.0 (sym e))), apart_push xs x rest k.1)

-- The numbers below n are without repeats, and so is what a filter keeps of them.
pub apart_upto : (n : ℕ) → Apart (upto n)
unfolding upto
apart_upto zero = tt
apart_upto (suc n) = apart_push (upto n) n (apart_upto n) (never_true _ (λ m. omega (arith, ltb-true n n (sym (among_upto n n) ∙ m))))

-- A filter brings no repeats.
pub apart_kept : (p : ℕ → Bool) (xs : List ℕ) → Apart xs → Apart (filter p xs)
apart_kept p [] free = tt
apart_kept p (x ∷ xs) (off, rest) =
    let r = apart_kept p xs rest in
    let here : among (filter p xs) x ≡ false = among_kept p xs x ∙ ap (λ (b : Bool). b && p x) off in
    elim (p x) as (λ b. Apart (cond b (x ∷ filter p xs) (filter p xs))) [ true ↦ (here, r) | false ↦ r ]
