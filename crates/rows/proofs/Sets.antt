-- What the words say, as sets: with every word 0, and with a bit set or cleared.
use Rattle.std.proofs.Common.{◌≡◌, ℕ, Option, Some, None, ◌+◌, ◌-◌, ◌*◌, ◌/◌, ◌%◌, ◌<◌, ◌≤◌, Bool, true, false, cond, not, ◌&&◌, ◌||◌, eqb, ltb, List, length, get_or, replicate, sym, refl, ap, ◌∙◌, ⊎_elim, arith}
use Rattle.std.specs.Prelude.{MatchOption}
use Rattle.std.specs.Bool.{then_some}
use mathlib.Core.Path.{fun_ext}
use lib.ListN.{length-replicate}
use Rattle.std.proofs.Math.Bool.{and_comm}
use Rattle.std.proofs.lemmas.Bool.{cases_lt, lt-ltb, le-ltb, eqb-true, and_left, and_right, true≢false}
use Rattle.std.proofs.lemmas.List.{get_or_past, get_or-replicate}
use Rattle.graph.specs.Graph.{first}
use Rattle.graph.proofs.Firsts.{first_ext, first_found, first_missing, first_some, first_all}
use Rattle.bits.specs.Bits.{bit, has}
use Rattle.bits.proofs.Bits.{zero_bit}
use Rattle.bits.proofs.Parts.{has_past}
use Rattle.bits.proofs.Scans.{looked_for, outside}
use Rattle.bits.proofs.Writes.{or_mask}
use Rattle.rows.specs.Layout.{set_words, set_limit}
use Rattle.rows.specs.Marks.{marked, fresh}
use Rattle.rows.specs.declared.marks.Marks.{Marks}

-- Any place of a list of zeros, or past it, has 0.
pub all_zeros : (n i : ℕ) → get_or {A = ℕ} (replicate n 0) i 0 ≡ 0
all_zeros n i =
    ⊎_elim (λ h. get_or-replicate n i 0 0 h) (λ h. get_or_past (replicate n 0) i 0 (rw (length-replicate {A = ℕ} n 0) h)) (cases_lt i n)

-- Of words that are all 0 no bit is set.
pub zeros_clear : (n base k : ℕ) → has (replicate n 0) base k ≡ false
zeros_clear n base k = ap (λ (x : ℕ). bit x (k % 64)) (all_zeros n (base + k / 64)) ∙ zero_bit (k % 64)

-- Where all the words are 0, no number is marked.
pub none_marked : (m : Marks) → m.words ≡ replicate set_words 0 → marked m ≡ (λ k. false)
unfolding marked
none_marked m e =
    fun_ext (λ k. and_right (ltb k set_limit) (has m.words 0 k) (ap (λ (xs : List ℕ). has xs 0 k) e ∙ zeros_clear set_words 0 k))

-- One item of a guarded set, put in or taken out where the guard lets it in.
pub guard_cond : (g f on h : Bool) → (f ≡ true → g ≡ true) → (g && cond f on h) ≡ cond f on (g && h)
guard_cond true f on h m = refl
guard_cond false true on h m = absurd (true≢false (sym (m refl)))
guard_cond false false on h m = refl

-- The set with p marked too.
pub marked_with : (m n : Marks) (p : ℕ) → p < set_limit → ((j : ℕ) → has n.words 0 j ≡ cond (eqb j p) true (has m.words 0 j))
    → marked n ≡ (λ k. marked m k || eqb k p)
unfolding marked
marked_with m n p l h =
    fun_ext (λ k.
    ap (λ (b : Bool). ltb k set_limit && b) (h k)
    ∙ guard_cond (ltb k set_limit) (eqb k p) true (has m.words 0 k) (λ e. let q = eqb-true k p e in lt-ltb k set_limit (omega arith))
    ∙ sym (or_mask (ltb k set_limit && has m.words 0 k) (eqb k p)))

-- The marks of two sets together.
pub marked_both : (m n : Marks) (ys : List ℕ) → length ys ≡ set_words → ((j : ℕ) → has n.words 0 j ≡ (has m.words 0 j || has ys 0 j))
    → (q : ℕ) → marked n q ≡ (marked m q || has ys 0 q)
unfolding marked
marked_both m n ys size both q =
    ⊎_elim
    (λ l. rw (lt-ltb q set_limit l) (both q))
    (λ l. rw (le-ltb q set_limit l) (sym (has_past ys 0 q (omega arith))))
    (cases_lt q set_limit)

-- The words have the marks and no more.
pub marked_has : (m : Marks) (k : ℕ) → length m.words ≡ set_words → has m.words 0 k ≡ marked m k
unfolding marked
marked_has m k size =
    ⊎_elim
    (λ h. rw (lt-ltb k set_limit h))
    (λ h. has_past m.words 0 k (omega arith) ∙ sym (and_left (ltb k set_limit) (has m.words 0 k) (le-ltb k set_limit h)))
    (cases_lt k set_limit)

-- Looking for what is in a set of words and not in those of the set finds what is not marked.
pub outside_found : (m : Marks) (words : List ℕ) (w e : ℕ) → length m.words ≡ set_words → first (outside words m.words) w e ≡ first (fresh (marked m) (has words 0)) w e
unfolding fresh
outside_found m words w e size =
    first_ext (outside words m.words) (λ k. not (marked m k) && has words 0 k) w e
    (λ k _ _. and_comm (has words 0 k) (not (has m.words 0 k)) ∙ ap (λ (b : Bool). not b && has words 0 k) (marked_has m k size))

-- Looking for a bit that is set, or clear, finds the numbers that are marked, or not.
pub nodes_found : (m : Marks) (on : Bool) (w : ℕ) → length m.words ≡ set_words
    → first (looked_for on m.words) w (64 * length m.words - w) ≡ first (λ q. cond on (marked m q) (not (marked m q))) w (set_limit - w)
nodes_found m on w size =
    ap (λ (n : ℕ). first (looked_for on m.words) w (64 * n - w)) size
    ∙ first_ext (looked_for on m.words) (λ q. cond on (marked m q) (not (marked m q))) w (set_limit - w)
    (λ k a b. ap (λ (b : Bool). cond on b (not b)) (marked_has m k size))

-- What was found below the limit, kept if it is below n: what is found, looking only below n.
pub kept_below : (found : Option ℕ) (result : Option ℕ) (n : ℕ) → n ≤ set_limit → MatchOption found (result ≡ None) (λ v. result ≡ then_some (ltb v n) v)
    → (p : ℕ → Bool) (w : ℕ) → found ≡ first p w (set_limit - w) → result ≡ first p w (n - w)
kept_below None result n l is p w e = is ∙ first_missing p w n (λ k a b. first_all p w set_limit (sym e) k a (omega arith))
kept_below (Some v) result n l is p w e =
    let f = first_some p w set_limit v (sym e) in
    ⊎_elim
    (λ h. is ∙ ap (λ (b : Bool). then_some b v) (lt-ltb v n h) ∙ first_found p w v n f.from h f.none f.here)
    (λ h. is ∙ ap (λ (b : Bool). then_some b v) (le-ltb v n h) ∙ first_missing p w n (λ k a b. f.none k a (omega arith)))
    (cases_lt v n)
