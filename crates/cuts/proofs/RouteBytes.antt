-- Reading the bytes of routes gives the routes back.
use Rattle.std.proofs.Common.{◌≡◌, ℕ, suc, ◌+◌, Bool, true, cond, leb, List, [], ◌∷◌, ◌++◌, length, take, drop, refl, ap, ◌∙◌, ap₂, append_assoc, arith, length-append}
use Rattle.std.proofs.lemmas.Bool.{le-leb}
use Rattle.std.proofs.lemmas.List.{take_at, drop_at}
use Rattle.cuts.specs.RouteBytes.{bytes_of, route_bytes, routes_in, RoutesRead}

-- One route more is a byte for its length, and its vertices.
pub bytes_more : (xs : List ℕ) (rs : List (List ℕ)) → route_bytes (xs ∷ rs) ≡ 1 + length xs + route_bytes rs
unfolding route_bytes
bytes_more xs rs = omega (arith, length-append xs (bytes_of rs))

-- A list is no longer than it is with more behind it.
fits : (xs ys : List ℕ) → leb (length xs) (length (xs ++ ys)) ≡ true
fits xs ys = le-leb _ _ (omega (arith, length-append xs ys))

-- The first route is read, and the others after it.
read_first : (k : ℕ) (xs ys : List ℕ) → routes_in (suc k) (length xs ∷ (xs ++ ys)) ≡ xs ∷ routes_in k ys
read_first k xs ys =
    ap (λ (b : Bool). cond b (take (length xs) (xs ++ ys) ∷ routes_in k (drop (length xs) (xs ++ ys))) []) (fits xs ys)
    ∙ ap₂ (λ (first : List ℕ) (left : List ℕ). first ∷ routes_in k left) (take_at xs ys (length xs) refl) (drop_at xs ys (length xs) refl)

pub routes_read_lem : RoutesRead
routes_read_lem [] rest = refl
routes_read_lem (xs ∷ rs) rest =
    ap (λ (bytes : List ℕ). routes_in (suc (length rs)) (length xs ∷ bytes)) (append_assoc xs (bytes_of rs) rest)
    ∙ read_first (length rs) xs (bytes_of rs ++ rest)
    ∙ ap (λ (routes : List (List ℕ)). xs ∷ routes) (routes_read_lem rs rest)
