-- The bytes of a route in a buffer: its vertices behind the place of their number, and then the number.
--
--   block_placed   the number set in front of the vertices
--   bytes_push     the bytes of one route more
use Rattle.std.proofs.Common.{◌≡◌, ℕ, suc, ◌+◌, ◌<◌, ◌≤◌, List, [], ◌∷◌, ◌++◌, length, take, drop, set, sym, ap, ap₂, ◌∙◌, arith}
use Rattle.std.proofs.Math.Seq.{take-set-lt}
use Rattle.std.proofs.lemmas.List.{set-append_left, drop-set-lt, length-take-le, append-nil}
use Rattle.std.proofs.lemmas.Grind.{flat_map-append}
use Rattle.cuts.specs.RouteBytes.{bytes_of}
use Rattle.plan.specs.Writing.{placed}
use Rattle.plan.proofs.Placing.{placed_long, placed_one, placed_more}
use Rattle.routes.specs.Routes.{route_block}

-- An item set at its place, and a list behind it.
placed_step : {X : Type 0} (k : ℕ) (x : X) (xs buffer : List X) → k < length buffer → placed (k + 1) xs (set buffer k x) ≡ placed k (x ∷ xs) buffer
placed_step {X} k x xs buffer l =
    ap (λ (b : List X). placed (k + 1) xs b) (placed_one k x buffer l) ∙ placed_more k (x ∷ []) buffer (omega (arith, l)) xs

-- An item set in front of a list that stands behind it.
placed_before : {X : Type 0} (k : ℕ) (x : X) (xs buffer : List X) → k + suc (length xs) ≤ length buffer
    → set (placed (k + 1) xs buffer) k x ≡ placed k (x ∷ xs) buffer
unfolding placed
placed_before {X} k x xs buffer h =
    let m = k + 1 + length xs in
    let here : k < length (take (k + 1) buffer) = omega (arith, length-take-le (k + 1) buffer (omega (arith, h))) in
    set-append_left (take (k + 1) buffer) (xs ++ drop m buffer) k x here
    ∙ ap₂ (λ (a b : List X). a ++ (xs ++ b)) (sym (take-set-lt (k + 1) buffer k x (omega arith))) (sym (drop-set-lt m buffer k x (omega arith)))
    ∙ placed_step k x xs buffer (omega (arith, h))

-- The vertices of a route behind the place of their number, and then the number.
pub block_placed : (at next count : ℕ) (ws start bytes after : List ℕ) → at + suc (length ws) ≤ length start → bytes ≡ placed (at + 1) ws start
    → next ≡ at + 1 + length ws → at + 1 + count ≡ next → after ≡ placed at (count ∷ []) bytes → after ≡ placed at (route_block ws) start
block_placed at next count ws start bytes after room e k m a =
    let many : count ≡ length ws = omega arith in
    let long = ap length e ∙ placed_long (at + 1) ws start (omega (arith, room)) in
    a
    ∙ sym (placed_one at count bytes (omega (arith, long, room)))
    ∙ ap₂ (λ (b : List ℕ) (x : ℕ). set b at x) e many
    ∙ placed_before at (length ws) ws start room

-- The bytes of one route more.
pub bytes_push : (rs : List (List ℕ)) (xs : List ℕ) → bytes_of (rs ++ (xs ∷ [])) ≡ bytes_of rs ++ route_block xs
bytes_push rs xs = flat_map-append route_block rs (xs ∷ []) ∙ ap (λ (ys : List ℕ). bytes_of rs ++ ys) (append-nil (route_block xs))
