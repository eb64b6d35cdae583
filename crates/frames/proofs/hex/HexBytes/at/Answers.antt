use Rattle.std.proofs.Common.{ℕ, ◌+◌, ◌*◌, ◌/◌, List, length, get_or, refl, ap, ◌∙◌, ap₂, arith}
use Rattle.frames.proofs.Digits.{bytes_at, bytes_past}
use Rattle.frames.proofs.hex.HexBytes.at.Goals as goal

pub returns-in-Some : goal.returns-in-Some
returns-in-Some c =
    let text = c.args.self.now.text.now in
    let pair = c.in-Some.field-0.now in
    let found = c.in-Some.ensures.lookup in
    ap₂ (λ x y. 16 * x + y) c.digit_value.ensures.value c.digit_value-in-Some.ensures.value
    ∙ bytes_at text c.args.i (length text / 2) pair refl (omega (arith, found.3.0, c.as_chunks.ensures.front_len))
    (found.1 ∙ ap (λ (pairs : List (List ℕ)). get_or pairs c.args.i pair) c.as_chunks.ensures.front)

pub returns-in-None : goal.returns-in-None
returns-in-None c = bytes_past c.args.self.now.text.now c.args.i (omega (arith, c.in-None.ensures.lookup.3, c.as_chunks.ensures.front_len))
