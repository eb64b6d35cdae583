-- What a row of words that are lent for reading says, however many words there are.
use Rattle.std.proofs.Common.{◌≡◌, ℕ, ◌+◌, ◌-◌, ◌*◌, ◌/◌, ◌%◌, ◌<◌, ◌≤◌, false, ◌&&◌, ltb, List, [], ◌++◌, length, min, get_or, drop, replicate, sym, refl, ap, ◌∙◌, ⊎_elim, arith, length-take}
use Rattle.std.specs.List.{between}
use Rattle.std.proofs.lemmas.List.{get_or_append_left, get_or-append_right, get_or-drop, get_or_past}
use Rattle.std.proofs.lemmas.Bool.{cases_lt, lt-ltb, le-ltb, and_left, and_right}
use Rattle.graph.specs.Graph.{first}
use Rattle.graph.proofs.Firsts.{first_ext, first_short}
use Rattle.bits.specs.Bits.{bit, has}
use Rattle.bits.proofs.Parts.{has_past, part_has}
use Rattle.rows.specs.Layout.{set_words, set_limit, row_words, head_limit}
use Rattle.rows.specs.Flow.{arcs_in}
use Rattle.rows.proofs.Sets.{all_zeros}

-- No arc has a head past the limit: its row is empty.
pub row_past : (xs : List ℕ) (q p : ℕ) → head_limit ≤ p → has [] 0 q ≡ arcs_in xs q p
unfolding arcs_in
row_past xs q p h =
    let off = and_right (ltb q set_limit) (ltb p head_limit) (le-ltb p head_limit h) in
    has_past [] 0 q (omega arith) ∙ sym (and_left (ltb q set_limit && ltb p head_limit) (has xs (row_words * p) q) off)

-- No arc has a tail past the bits of a row.
tail_past : (xs : List ℕ) (q p : ℕ) → set_limit ≤ q → arcs_in xs q p ≡ false
unfolding arcs_in
tail_past xs q p h = rw (le-ltb q set_limit h)

-- No arc is past the words.
words_past : (xs : List ℕ) (q p : ℕ) → length xs ≤ row_words * p + q / 64 → arcs_in xs q p ≡ false
unfolding arcs_in
words_past xs q p h = and_right (ltb q set_limit && ltb p head_limit) (has xs (row_words * p) q) (has_past xs (row_words * p) q h)

-- Elsewhere a bit says whether an arc is there.
bit_there : (xs : List ℕ) (q p : ℕ) → q < set_limit → p < head_limit → has xs (row_words * p) q ≡ arcs_in xs q p
unfolding arcs_in
bit_there xs q p h k = rw (lt-ltb q set_limit h, lt-ltb p head_limit k)

-- The used words of a row, as far as there are words, have the row's arcs and no more.
pub row_there : (xs : List ℕ) (p a b : ℕ) → p < head_limit → a ≡ min (length xs) (row_words * p) → b ≡ min (length xs) (a + set_words)
    → (q : ℕ) → has (between a b xs) 0 q ≡ arcs_in xs q p
row_there xs p a b head start end q =
    let size : length (between a b xs) ≤ b - a = simp length-take (omega arith) in
    ⊎_elim
    (λ t. ⊎_elim
    (λ i. let at : a ≡ row_words * p = omega arith in
    part_has xs a b q (omega arith) ∙ ap (λ (z : ℕ). has xs z q) at ∙ bit_there xs q p t head)
    (λ i. has_past (between a b xs) 0 q (omega arith) ∙ sym (words_past xs q p i))
    (cases_lt (row_words * p + q / 64) (length xs)))
    (λ t. has_past (between a b xs) 0 q (omega arith) ∙ sym (tail_past xs q p t))
    (cases_lt q set_limit)

-- Looking through its words finds the tails of the row's arcs: there is none past them.
pub tails_there : (xs row : List ℕ) (p w : ℕ) → length row ≤ set_words → ((q : ℕ) → has row 0 q ≡ arcs_in xs q p)
    → first (has row 0) w (64 * length row - w) ≡ first (λ q. arcs_in xs q p) w (set_limit - w)
tails_there xs row p w size says =
    sym (first_short (has row 0) w (64 * length row) set_limit (omega arith) (λ k low high. has_past row 0 k (omega arith)))
    ∙ first_ext (has row 0) (λ q. arcs_in xs q p) w (set_limit - w) (λ k low high. says k)

-- Each word of some with zeros behind them, and past them, is as without the zeros.
word_filled : (xs : List ℕ) (n i : ℕ) → get_or (xs ++ drop (length xs) (replicate n 0)) i 0 ≡ get_or xs i 0
word_filled xs n i =
    let zeros : List ℕ = replicate n 0 in
    ⊎_elim
    (λ l. get_or_append_left xs (drop (length xs) zeros) 0 i l)
    (λ l. get_or-append_right xs (drop (length xs) zeros) (length xs) i 0 refl l
    ∙ get_or-drop (length xs) zeros (i - length xs) 0
    ∙ all_zeros n (length xs + (i - length xs))
    ∙ sym (get_or_past xs i 0 l))
    (cases_lt i (length xs))

-- So zeros behind the words of a set add no number.
pub zeros_behind : (xs : List ℕ) (n q : ℕ) → has (xs ++ drop (length xs) (replicate n 0)) 0 q ≡ has xs 0 q
zeros_behind xs n q = ap (λ (x : ℕ). bit x (q % 64)) (word_filled xs n (0 + q / 64))
