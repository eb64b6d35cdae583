-- A front part of a text, put behind what was there.
use Rattle.std.proofs.Common.{◌≡◌, ℕ, zero, suc, ◌+◌, ◌*◌, List, [], ◌∷◌, ◌++◌, length, min, take, Ok, Err, OnErr, Result, sym, refl, ap, ap₂, ◌∙◌, append_assoc, arith}
use Rattle.std.proofs.lemmas.List.{append-nil, take-append-le, take_min}
use Rattle.std.proofs.Math.Seq.{take-append-add}
use Rattle.frames.specs.Text.{hex_byte, hex_text, FrontPut}

-- What holds in any case holds after an error.
pub on_err : {A E P : Type 0} (r : Result A E) → P → OnErr r P
on_err (Ok a) p = tt
on_err (Err e) p = p

-- None of the text.
pub front_none : (before text after : List ℕ) → after ≡ before → FrontPut before text after
front_none before text after e = record { upto = 0; is = e ∙ sym (append-nil before) }

-- The same, of what equals these.
pub front_is : (before before' text text' after : List ℕ) → before ≡ before' → text ≡ text' → FrontPut before text after → FrontPut before' text' after
front_is before before' text text' after e f h =
    record { upto = h.upto; is = h.is ∙ ap₂ (λ (b t : List ℕ). b ++ take h.upto t) e f }

-- A front part of a text is one of that text and more.
pub front_first : (before a b after : List ℕ) → FrontPut before a after → FrontPut before (a ++ b) after
front_first before a b after h = record {
  upto = min h.upto (length a);
  is = h.is ∙ ap (λ (t : List ℕ). before ++ t) (sym (take-append-le (min h.upto (length a)) a b (omega arith) ∙ take_min h.upto a));
}

-- A text and then a front part of another is a front part of both.
pub front_second : (before a b after : List ℕ) → FrontPut (before ++ a) b after → FrontPut before (a ++ b) after
front_second before a b after h = record {
  upto = length a + h.upto;
  is = h.is ∙ append_assoc before a (take h.upto b) ∙ ap (λ (t : List ℕ). before ++ t) (sym (take-append-add a b h.upto));
}

-- The text of the first bytes is a front part of the text of all.
hex_front : (i : ℕ) (bytes : List ℕ) → hex_text (take i bytes) ≡ take (2 * i) (hex_text bytes)
hex_front zero bytes = refl
hex_front (suc i) [] =
    let e : suc (suc (2 * i)) ≡ 2 * suc i = omega arith in
    ap (λ (k : ℕ). take k (hex_text [])) e
hex_front (suc i) (b ∷ bs) =
    let e : suc (suc (2 * i)) ≡ 2 * suc i = omega arith in
    ap (λ (t : List ℕ). hex_byte b ++ t) (hex_front i bs) ∙ ap (λ (k : ℕ). take k (hex_text (b ∷ bs))) e

-- The first bytes written are a front part of the text of all.
pub front_bytes : (before bytes : List ℕ) (i : ℕ) (after : List ℕ) → after ≡ before ++ hex_text (take i bytes) → FrontPut before (hex_text bytes) after
front_bytes before bytes i after e = record { upto = 2 * i; is = e ∙ ap (λ (t : List ℕ). before ++ t) (hex_front i bytes) }
