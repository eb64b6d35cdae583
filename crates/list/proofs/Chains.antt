-- Chains over a range of numbers: what they count and find.
use Rattle.std.proofs.Common.{◌≡◌, ℕ, zero, suc, ◌+◌, Bool, true, false, cond, ◌∷◌, length, Some, List, refl, sym, ap, ap₂, ◌∙◌, arith, add-one, add-zero}
use Rattle.std.specs.List.{filter, find, range_with_len}
use Rattle.graph.specs.Graph.{count, first}
use Rattle.graph.proofs.Counts.{count_zero, count_front, count_ext}

-- One number more in front, if it passes.
one_in_front : (b : Bool) (x : ℕ) (xs : List ℕ) → length (cond b (x ∷ xs) xs) ≡ cond b 1 0 + length xs
one_in_front true x xs = omega arith
one_in_front false x xs = omega arith

-- The numbers of a range that pass are as many as are counted.
pub length_filter_range : (p : ℕ → Bool) (a n : ℕ) → length (filter p (range_with_len a n)) ≡ count (λ k. p (a + k)) n
length_filter_range p a zero = sym (count_zero (λ k. p (a + k)))
length_filter_range p a (suc n) =
    let here : p (a + 0) ≡ p a = rw add-zero refl in
    let rest : count (λ k. p (a + 1 + k)) n ≡ count (λ k. p (a + suc k)) n = count_ext (λ k. p (a + 1 + k)) (λ k. p (a + suc k)) n (λ k _. ap p (omega arith)) in
    one_in_front (p a) a (filter p (range_with_len (a + 1) n))
    ∙ ap₂ (λ (b : Bool) (m : ℕ). cond b 1 0 + m) (sym here) (length_filter_range p (a + 1) n ∙ rest)
    ∙ sym (count_front (λ k. p (a + k)) n)

-- The first number of a range that passes is the lowest.
pub find_range : (p : ℕ → Bool) (w n : ℕ) → find p (range_with_len w n) ≡ first p w n
unfolding first
find_range p w zero = refl
find_range p w (suc n) = ap (λ r. cond (p w) (Some w) r) (rw add-one (find_range p (suc w) n))
