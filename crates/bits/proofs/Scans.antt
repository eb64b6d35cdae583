-- The lowest number that is in a set, or is not, looked for word by word.
use Rattle.std.proofs.Common.{◌≡◌, ℕ, ◌+◌, ◌-◌, ◌*◌, ◌/◌, ◌%◌, ◌<◌, ◌≤◌, Bool, false, cond, not, ◌&&◌, List, get_or, Some, None, sym, ap, ◌∙◌, ap₂, ⊎_elim, arith}
use Rattle.std.proofs.lemmas.Bool.{cases_lt}
use Rattle.graph.specs.Graph.{first}
use Rattle.graph.proofs.Firsts.{first_found, first_some, first_all}
use Rattle.bits.specs.Bits.{bit, has}

-- Number 64 i + j is bit j of word i.
pub word_at : (words : List ℕ) (i j : ℕ) → j < 64 → has words 0 (64 * i + j) ≡ bit (get_or words i 0) j
word_at words i j h =
    let a : 0 + (64 * i + j) / 64 ≡ i = omega arith in
    let b : (64 * i + j) % 64 ≡ j = omega arith in
    ap₂ (λ (x y : ℕ). bit (get_or words x 0) y) a b

-- Whether a number is in the set, or is not.
abbrev pub looked_for : Bool → List ℕ → ℕ → Bool
looked_for on words k = cond on (has words 0 k) (not (has words 0 k))

-- The bits that are looked for in word i are those of a word y.
pub says_looked : (on : Bool) (words : List ℕ) (i y : ℕ) → ((j : ℕ) → j < 64 → bit y j ≡ cond on (bit (get_or words i 0) j) (not (bit (get_or words i 0) j)))
    → (j : ℕ) → j < 64 → looked_for on words (64 * i + j) ≡ bit y j
says_looked on words i y bits j l = ap (λ (b : Bool). cond on b (not b)) (word_at words i j l) ∙ sym (bits j l)

-- Whether a number is in one set and not in another.
abbrev pub outside : List ℕ → List ℕ → ℕ → Bool
outside words others k = has words 0 k && not (has others 0 k)

-- The same of word i of two sets.
pub says_outside : (words others : List ℕ) (i y : ℕ) → ((j : ℕ) → j < 64 → bit y j ≡ (bit (get_or words i 0) j && not (bit (get_or others i 0) j)))
    → (j : ℕ) → j < 64 → outside words others (64 * i + j) ≡ bit y j
says_outside words others i y bits j l = ap₂ (λ (a b : Bool). a && not b) (word_at words i j l) (word_at others i j l) ∙ sym (bits j l)

-- Word i of n, looked through from where w stands in it, at s: y has the bits that are looked for, and
-- the words before have none from w up.
module _ (test : ℕ → Bool) (w i n y s : ℕ) (low : w / 64 ≤ i) (high : i < n) (says : (j : ℕ) → j < 64 → test (64 * i + j) ≡ bit y j) (start : s ≡ w - 64 * i)
    (before : (k : ℕ) → w ≤ k → k < 64 * i → test k ≡ false) where
  -- Nothing is found in the words before and in the first e bits of this one.
  seen : (e : ℕ) → e ≤ 64 → ((j : ℕ) → s ≤ j → j < e → bit y j ≡ false) → (k : ℕ) → w ≤ k → k < 64 * i + e → test k ≡ false
  seen e le none k a b =
      ⊎_elim (λ h. before k a h)
      (λ h. let q : 64 * i + (k - 64 * i) ≡ k = omega arith in
      ap test (sym q) ∙ says (k - 64 * i) (omega arith) ∙ none (k - 64 * i) (omega arith) (omega arith))
      (cases_lt k (64 * i))

  -- What the word has is the lowest of the set.
  pub in_word : (j : ℕ) → Some j ≡ first (bit y) s (64 - s) → (j < 64) × (Some (64 * i + j) ≡ first test w (64 * n - w))
  in_word j e =
      let f = first_some (bit y) s 64 j (sym e) in
      let a = f.from in
      let b = f.below in
      (b, first_found test w (64 * i + j) (64 * n) (omega arith) (omega arith) (seen j (omega arith) f.none) (says j b ∙ f.here))

  -- Where the word has none, the search goes on past it.
  pub past_word : None ≡ first (bit y) s (64 - s) → (k : ℕ) → w ≤ k → k < 64 * (i + 1) → test k ≡ false
  past_word e k a b = seen 64 (omega arith) (first_all (bit y) s 64 (sym e)) k a (omega arith)
