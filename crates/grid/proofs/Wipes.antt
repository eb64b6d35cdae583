-- Words that are wiped mean a map without edges, and the words past the rows stay.
use Rattle.std.proofs.Common.{◌≡◌, ℕ, ◌+◌, ◌*◌, ◌/◌, ◌%◌, ◌<◌, ◌≤◌, Bool, true, false, ◌&&◌, ltb, List, length, drop, replicate, get_or, sym, refl, ap, ◌∙◌, ⊎_elim, arith, length-append, length-drop}
use lib.ListN.{length-replicate}
use Rattle.std.proofs.lemmas.List.{places, drop-set-lt}
use Rattle.std.proofs.lemmas.Slice.{drop-append-drop}
use Rattle.std.proofs.lemmas.Bool.{cases_lt, le-ltb, true≢false}
use Rattle.graph.specs.Graph.{Simple, order_limit, empty}
use Rattle.graph.proofs.Edges.{same_graph}
use Rattle.bits.specs.Bits.{bit, has, with_bit, with_number}
use Rattle.grid.specs.Rows.{grid, wiped, RestStays}
use Rattle.bits.proofs.Bits.{zero_bit}

-- The words of the rows are 0.
wiped_word : (n i : ℕ) (xs : List ℕ) → i < 4 * n → get_or (wiped n xs) i 0 ≡ 0
wiped_word n i xs h = grind (arith, places)

-- No bit of the rows is set.
pub wiped_clear : (n : ℕ) (xs : List ℕ) (u v : ℕ) → (grid n (wiped n xs)).joined u v ≡ false
wiped_clear n xs u v =
    ⊎_elim
    (λ h. ⊎_elim
    (λ k. ap (λ (x : ℕ). (ltb u n && ltb v 256) && bit x (v % 64)) (wiped_word n (4 * u + v / 64) xs (omega arith))
    ∙ ap (λ (b : Bool). (ltb u n && ltb v 256) && b) (zero_bit (v % 64)) ∙ and_off (ltb u n && ltb v 256))
    (λ k. ap (λ (b : Bool). (ltb u n && b) && has (wiped n xs) (4 * u) v) (le-ltb v 256 k)
    ∙ ap (λ (b : Bool). b && has (wiped n xs) (4 * u) v) (and_off (ltb u n)))
    (cases_lt v 256))
    (λ h. ap (λ (b : Bool). (b && ltb v 256) && has (wiped n xs) (4 * u) v) (le-ltb u n h))
    (cases_lt u n)
  where
    and_off : (b : Bool) → (b && false) ≡ false
    and_off true = refl
    and_off false = refl

-- Wiped words mean the map of n vertices and no edge.
pub wiped_empty : (n : ℕ) (xs : List ℕ) → grid n (wiped n xs) ≡ empty n
wiped_empty n xs = same_graph (grid n (wiped n xs)) (empty n) refl (wiped_clear n xs)

-- A map without edges is simple.
pub empty_simple : (n : ℕ) → 1 ≤ n → n ≤ order_limit → Simple (empty n)
empty_simple n some small = record {
  some = some;
  small = small;
  symmetric = λ u v. refl;
  irreflexive = λ u. refl;
  bounded = λ u v e. let z : ⊥ = true≢false (sym e) in absurd z;
}

-- Wiped words are as many as before.
pub wiped_length : (n : ℕ) (xs : List ℕ) → 4 * n ≤ length xs → length (wiped n xs) ≡ length xs
wiped_length n xs h = simp (length-append, length-replicate, length-drop) (omega arith)

-- A number put in before a word changes nothing from that word on.
rest_put : (m base v : ℕ) (on : Bool) (xs : List ℕ) → base + v / 64 < m → drop m (with_number xs base v on) ≡ drop m xs
rest_put m base v on xs l = drop-set-lt m xs (base + v / 64) (with_bit (get_or xs (base + v / 64) 0) (v % 64) on) l

-- So the words past the rows stay.
pub rest_stays_lem : RestStays
rest_stays_lem n xs small fits = (
  drop-append-drop (4 * n) xs (replicate (4 * n) 0) (4 * n) (omega arith) (length-replicate (4 * n) 0),
  λ on u v hu hv.
      rest_put (4 * n) (4 * v) u on (with_number xs (4 * u) v on) (omega arith) ∙ rest_put (4 * n) (4 * u) v on xs (omega arith),
)
