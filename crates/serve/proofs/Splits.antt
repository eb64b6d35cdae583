-- An input, line by line.
use Rattle.std.proofs.Common.{◌≡◌, ℕ, zero, suc, ◌+◌, ◌<◌, ◌≤◌, Bool, cond, eqb, ltb, not, true, false, List, [], ◌∷◌, length, get_or, take, drop, Some, None, sym, refl, ap, ◌∙◌, ⊎_elim, arith, add-one}
use Rattle.std.proofs.lemmas.Bool.{cases_eq, cases_Bool, eq-eqb, eqb-true, ltb-false, not-true}
use Rattle.std.proofs.lemmas.List.{drop_all}
use Rattle.std.specs.List.{position, position_or_len}
use Rattle.std.proofs.lemmas.List.Quantifiers.{position-Some}
use Rattle.std.proofs.lemmas.List.Sums.{prefix_len_passes}
use Rattle.serve.specs.Lines.{newline, onto, lines}

-- A character alone on the last line.
last_line : (c k : ℕ) (cs : List ℕ) → length cs ≡ 0 → onto c (lines cs) ≡ (c ∷ take k cs) ∷ lines (drop (suc k) cs)
unfolding lines
last_line c zero [] e = refl
last_line c (suc k) [] e = refl
last_line c k (x ∷ xs) e = let z : ⊥ = omega arith in absurd z

-- A first line that is ended at k, or that goes to the end.
first_line : (xs : List ℕ) (k : ℕ) → 0 < length xs → k ≤ length xs → ((i : ℕ) → i < k → eqb (get_or xs i 0) newline ≡ false)
    → (k < length xs → get_or xs k 0 ≡ newline) → lines xs ≡ take k xs ∷ lines (drop (suc k) xs)
unfolding lines
first_line [] k some h none here = let z : ⊥ = omega arith in absurd z
first_line (c ∷ cs) zero some h none here =
    ap (λ (b : Bool). cond b ([] ∷ lines cs) (onto c (lines cs))) (eq-eqb c newline (here (omega arith)))
first_line (c ∷ cs) (suc k) some h none here =
    ap (λ (b : Bool). cond b ([] ∷ lines cs) (onto c (lines cs))) (none 0 (omega arith))
    ∙ ⊎_elim
    (λ e. last_line c k cs e)
    (λ ne. ap (onto c) (first_line cs k (omega (arith, ne)) (omega arith) (λ i l. none (suc i) (omega arith)) (λ l. here (omega arith))))
    (cases_eq (length cs) 0)

-- No line is left at the end.
pub lines_none : (xs : List ℕ) → length xs ≡ 0 → lines xs ≡ []
unfolding lines
lines_none [] h = refl
lines_none (x ∷ xs) h = let z : ⊥ = omega arith in absurd z

-- A line end at k ends the first line.
pub ended : (xs : List ℕ) (k : ℕ) → position (λ c. eqb c newline) xs ≡ Some k → lines xs ≡ take k xs ∷ lines (drop (k + 1) xs)
ended xs k e =
    let f = position-Some (λ c. eqb c newline) xs k 0 e in
    rw (add-one k) (first_line xs k (omega (arith, f.0)) (omega (arith, f.0)) f.2 (λ _. eqb-true (get_or xs k 0) newline f.1))

-- With no line end, all of it is the last line.
pub unended : (xs : List ℕ) → 0 < length xs → position (λ c. eqb c newline) xs ≡ None → lines xs ≡ take (length xs) xs ∷ lines (drop (length xs) xs)
unended xs some e =
    let stop = position_or_len (λ c. eqb c newline) xs in
    ⊎_elim
    (λ on. let f = rw on at e in cc)
    (λ off.
    let past = ltb-false stop (length xs) off in
    first_line xs (length xs) some (omega arith)
    (λ i l. not-true (eqb (get_or xs i 0) newline) (prefix_len_passes (λ c. not (eqb c newline)) xs i 0 (omega (arith, past))))
    (λ l. let z : ⊥ = omega arith in absurd z)
    ∙ ap (λ (ys : List ℕ). take (length xs) xs ∷ lines ys) (drop_all (suc (length xs)) xs (omega arith) ∙ sym (drop_all (length xs) xs (omega arith))))
    (cases_Bool (ltb stop (length xs)))

-- Whatever is put in front, there is a first line.
some_first : (b : Bool) (c : ℕ) (ls : List (List ℕ)) → 1 ≤ length (cond b ([] ∷ ls) (onto c ls))
some_first true c ls = omega arith
some_first false c [] = omega arith
some_first false c (l ∷ ls) = omega arith

-- An input that is not empty has a line.
pub some_line : (xs : List ℕ) → 0 < length xs → 1 ≤ length (lines xs)
unfolding lines
some_line [] h = absurd (omega (arith, h))
some_line (c ∷ cs) h = some_first (eqb c newline) c (lines cs)
