-- The bytes of routes: each route is a byte for its length in vertices, and then its vertices.
--
--   bytes_of      the bytes of some routes, one behind another
--   route_bytes   how many they are
--   routes_in     so many routes, read off bytes
--   RoutesRead    reading what was written gives the routes back
use Rattle.std.specs.Prelude.{◌≡◌, ℕ, zero, suc, cond, List, [], ◌∷◌, ◌++◌, length, take, drop, flat_map, nat_le}

abbrev pub bytes_of : List (List ℕ) → List ℕ
bytes_of routes = flat_map (λ xs. length xs ∷ xs) routes

unfoldable pub route_bytes : List (List ℕ) → ℕ
route_bytes routes = length (bytes_of routes)

-- A length that points past the end gives no route, and nothing is read after it.
abbrev pub routes_in : ℕ → List ℕ → List (List ℕ)
routes_in zero bytes = []
routes_in (suc k) [] = []
routes_in (suc k) (n ∷ bytes) = cond (nat_le n (length bytes)) (take n bytes ∷ routes_in k (drop n bytes)) []

-- Whatever follows them, the routes are read back.
abbrev pub RoutesRead : Type 0
RoutesRead = (routes : List (List ℕ)) (rest : List ℕ) → routes_in (length routes) (bytes_of routes ++ rest) ≡ routes
