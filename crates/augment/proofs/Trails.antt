-- A trail is read back from what it noted: the way back from its end, node by node.
--
--   all_reverse, apart_short   of lists: what holds of each item, and how many numbers there are
--   read_reversed   the nodes of a trail, turned round, are what is read
--   trail_is        so they are what is read, turned round
--   way_turned      so the way back from its end leads back
--   headed          a list that leads back from x begins with x
--   way_last        where x is s, the way back from x is x alone
--   way_next        elsewhere the node noted at x comes next, and the way back from it leads back
--   way_noted       once v is noted at x, the way back from x is x and what led back from v
use Rattle.std.proofs.Common.{◌≡◌, ℕ, zero, suc, ◌-◌, ◌<◌, ◌≤◌, Bool, true, false, cond, eqb, List, [], ◌∷◌, ◌++◌, reverse, length, get_or, set, All, sym, refl, ap, ◌∙◌, subst, arith}
use mathlib.Core.List.{reverse-cons}
use Rattle.std.proofs.lemmas.List.{reverse-reverse, length-reverse, get_or-reverse, get_or-set_same, get_or-set_other}
use Rattle.std.proofs.lemmas.List.Elements.{All-nil, All-cons, All-head, All-tail}
use Rattle.std.proofs.lemmas.Bool.{ne_eqb}
use Rattle.graph.specs.Graph.{count, node_limit}
use Rattle.graph.proofs.Counts.{count_most, count_one}
use Rattle.flows.specs.Lists.{among}
use Rattle.flows.specs.Routes.{Walk, Apart}
use Rattle.flows.proofs.Lists.{any_cons, among_head, among_off}
use Rattle.augment.specs.Trails.{Noted, Trail, walk_back, way, LeadsBack, ReadBack}
use Rattle.augment.proofs.Backs.{back_last, back_next}

-- A list that leads back is what is read.
read : (before : List ℕ) (s t n : ℕ) (xs : List ℕ) → LeadsBack before s t xs → length xs ≤ n → xs ≡ walk_back before s t n
read before s t n [] w h = absurd w
read before s t zero (x ∷ []) w h = absurd (omega arith)
read before s t (suc n) (x ∷ []) w h = let last = back_last before s x n w.1 in rw (← w.0, last)
read before s t zero (x ∷ (y ∷ xs)) w h = absurd (omega arith)
read before s t (suc n) (x ∷ (y ∷ xs)) w h =
    ap (λ (ys : List ℕ). x ∷ ys) (read before s (get_or before x 0) n (y ∷ xs) w.2 (omega arith))
    ∙ sym (back_next before s x n w.1)
    ∙ ap (λ (z : ℕ). walk_back before s z (suc n)) w.0

-- It goes on to a new node that is noted at its end.
leads_on : (before : List ℕ) (y x t : ℕ) (xs : List ℕ) → LeadsBack before y t xs → get_or before y 0 ≡ x → All (λ z. z ≡ x → ⊥) xs
    → LeadsBack before x t (xs ++ (x ∷ []))
leads_on before y x t [] w e o = absurd w
leads_on before y x t (z ∷ []) w e o = (w.0, All-head (λ k. k ≡ x → ⊥) z [] o, (sym e ∙ ap (λ (k : ℕ). get_or before k 0) (sym w.1), refl))
leads_on before y x t (z ∷ (v ∷ xs)) w e o = (
  w.0,
  All-head (λ k. k ≡ x → ⊥) z (v ∷ xs) o,
  leads_on before y x (get_or before z 0) (v ∷ xs) w.2 e (All-tail (λ k. k ≡ x → ⊥) z (v ∷ xs) o),
)

-- What holds of each item holds of each item of the list turned round.
pub all_reverse : {X : Type 0} (P : X → Type 0) (xs : List X) → All P xs → All P (reverse xs)
all_reverse P xs h k d l =
    let m : k < length xs = rw length-reverse at l in
    rw get_or-reverse (h (length xs - 1 - k) d (omega arith))

-- A number that does not stand in a list is none of its items.
none_same : (xs : List ℕ) (x : ℕ) → among xs x ≡ false → All (λ z. z ≡ x → ⊥) xs
none_same [] x h = All-nil (λ z. z ≡ x → ⊥)
none_same (y ∷ xs) x h = let o = among_off y xs x h in All-cons (λ z. z ≡ x → ⊥) y xs (λ e. o.0 (sym e)) (none_same xs x o.1)

-- A noted route turned round leads back.
turned : (r : ℕ → ℕ → Bool) (before : List ℕ) (s t : ℕ) (xs : List ℕ) → Walk r s t xs → Apart xs → Noted before xs → LeadsBack before s t (reverse xs)
turned r before s t [] w a b = absurd w
turned r before s t (x ∷ []) w a b = (w.1, w.0)
turned r before s t (x ∷ (y ∷ xs)) w a b =
    let more = turned r before y t (y ∷ xs) w.2 a.1 b.1 in
    let apart = all_reverse (λ z. z ≡ x → ⊥) (y ∷ xs) (none_same (y ∷ xs) x a.0) in
    rw (reverse-cons x (y ∷ xs)) (rw (sym w.0) (leads_on before y x t (reverse (y ∷ xs)) more b.0 apart))

-- A list of numbers below n with none twice counts its numbers.
counted : (n : ℕ) (xs : List ℕ) → Apart xs → All (λ x. x < n) xs → length xs ≤ count (among xs) n
counted n [] a h = omega arith
counted n (x ∷ xs) a h =
    let one = count_one (among xs) (among (x ∷ xs)) x n (All-head (λ y. y < n) x xs h) a.0 (among_head x xs)
    (λ k l d. any_cons (eqb k) x xs ∙ rw (ne_eqb k x d) refl) in
    omega (arith, one, counted n xs a.1 (All-tail (λ y. y < n) x xs h))

-- It has at most n items.
pub apart_short : (n : ℕ) (xs : List ℕ) → Apart xs → All (λ x. x < n) xs → length xs ≤ n
apart_short n xs a h = omega (arith, counted n xs a h, count_most (among xs) n)

-- The nodes of a trail, turned round, are those read back from its end.
pub read_reversed : (r : ℕ → ℕ → Bool) (s t : ℕ) (before : List ℕ) (n : ℕ) (trail : Trail r s t before) → All (λ x. x < n) trail.nodes
    → reverse trail.nodes ≡ walk_back before s t n
read_reversed r s t before n trail h =
    let xs = trail.nodes in
    let short = apart_short n xs trail.route.apart h in
    let back = turned r before s t xs trail.route.walk trail.route.apart trail.noted in
    read before s t n (reverse xs) back (rw (length-reverse xs) short)

-- The nodes of a trail are those read back, turned round.
pub trail_is : ReadBack
trail_is r s t before n trail h = sym (reverse-reverse trail.nodes) ∙ ap reverse (read_reversed r s t before n trail h)

-- The way back from the end of a trail leads back.
pub way_turned : (r : ℕ → ℕ → Bool) (s t : ℕ) (before : List ℕ) (trail : Trail r s t before) → All (λ x. x < node_limit) trail.nodes
    → LeadsBack before s t (way before s t)
way_turned r s t before trail h =
    subst (LeadsBack before s t) (read_reversed r s t before node_limit trail h) (turned r before s t trail.nodes trail.route.walk trail.route.apart trail.noted)

-- A list that leads back from x begins with x.
pub headed : (before : List ℕ) (s x : ℕ) (xs : List ℕ) → LeadsBack before s x xs → (ys : List ℕ) × (xs ≡ x ∷ ys)
headed before s x [] l = absurd l
headed before s x (y ∷ ys) l = (ys, ap (λ (k : ℕ). k ∷ ys) (first ys l))
  where
    first : (ys : List ℕ) → LeadsBack before s x (y ∷ ys) → y ≡ x
    first [] l = l.0
    first (z ∷ zs) l = l.0

-- At s the way ends.
pub way_last : (before : List ℕ) (s x : ℕ) → x ≡ s → way before s x ≡ x ∷ []
way_last before s x e = back_last before s x 401 e

-- A list that leads back from x, which is not s, has x, and leads on from the node noted at x.
next : (before : List ℕ) (s x : ℕ) (xs : List ℕ) → LeadsBack before s x xs → (x ≡ s → ⊥)
    → (ys : List ℕ) × (xs ≡ x ∷ ys) × LeadsBack before s (get_or before x 0) ys
next before s x [] l d = absurd l
next before s x (y ∷ []) l d = absurd (d (sym l.0 ∙ l.1))
next before s x (y ∷ (z ∷ zs)) l d = (z ∷ zs, ap (λ (k : ℕ). k ∷ (z ∷ zs)) l.0, rw (sym l.0) l.2)

-- No more than n nodes are read.
walk_long : (before : List ℕ) (s x n : ℕ) → length (walk_back before s x n) ≤ n
unfolding walk_back
walk_long before s x zero = omega arith
walk_long before s x (suc n) = omega (arith, cut (eqb x s) (walk_back before s (get_or before x 0) n) (walk_long before s (get_or before x 0) n))
  where
    cut : (b : Bool) (xs : List ℕ) → length xs ≤ n → length (cond b [] xs) ≤ n
    cut true xs h = omega arith
    cut false xs h = h

-- Elsewhere the node noted at x comes next, and the way back from it leads back.
pub way_next : (before : List ℕ) (s x : ℕ) → LeadsBack before s x (way before s x) → (x ≡ s → ⊥)
    → (way before s x ≡ x ∷ way before s (get_or before x 0)) × LeadsBack before s (get_or before x 0) (way before s (get_or before x 0))
way_next before s x l d =
    let k = next before s x (way before s x) l d in
    let m : length (way before s x) ≡ suc (length k.0) = ap length k.1 in
    let e = read before s (get_or before x 0) node_limit k.0 k.2 (omega (arith, m, walk_long before s x node_limit)) in
    (k.1 ∙ ap (λ (ys : List ℕ). x ∷ ys) e, subst (LeadsBack before s (get_or before x 0)) e k.2)

-- A note at a node off a list changes nothing along the list.
leads_off : (before : List ℕ) (s x v t : ℕ) (xs : List ℕ) → among xs x ≡ false → LeadsBack before s t xs → LeadsBack (set before x v) s t xs
leads_off before s x v t [] o l = l
leads_off before s x v t (y ∷ []) o l = l
leads_off before s x v t (y ∷ (z ∷ zs)) o l =
    let k = among_off y (z ∷ zs) x o in
    let same = get_or-set_other before x y v 0 (λ e. k.0 (sym e)) in
    (l.0, l.1, rw same (leads_off before s x v (get_or before y 0) (z ∷ zs) k.1 l.2))

-- Once v is noted at x, the way back from x is x and what led back from v.
pub way_noted : (before : List ℕ) (s x v : ℕ) (xs : List ℕ) → x < length before → (x ≡ s → ⊥) → among xs x ≡ false → LeadsBack before s v xs
    → suc (length xs) ≤ node_limit → LeadsBack (set before x v) s x (x ∷ xs) × (x ∷ xs ≡ way (set before x v) s x)
way_noted before s x v [] h d o l n = absurd l
way_noted before s x v (y ∷ ys) h d o l n =
    let here = get_or-set_same before x v 0 h in
    let leads : LeadsBack (set before x v) s x (x ∷ (y ∷ ys)) = (refl, d, rw here (leads_off before s x v v (y ∷ ys) o l)) in
    (leads, read (set before x v) s x node_limit (x ∷ (y ∷ ys)) leads n)
