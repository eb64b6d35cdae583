-- The vertices among the nodes of a list.
--
--   vertices_more               those of the first node, and those of the rest
--   vertex_yes, vertex_no       a vertex is kept, another node is not
--   vertices_among              a vertex stands among them where it stands in the list
--   vertices_apart, vertices_few   no vertex twice if no node is, and then no more than there are
use Rattle.std.proofs.Common.{◌≡◌, ℕ, ◌<◌, ◌≤◌, Bool, true, false, cond, ◌&&◌, ltb, List, [], ◌∷◌, ◌++◌, length, All, sym, refl, ap, subst, inl, inr, arith}
use Rattle.std.proofs.lemmas.Bool.{cases_lt, lt-ltb, le-ltb}
use Rattle.std.proofs.lemmas.List.Elements.{All-nil, All-cons}
use Rattle.flows.specs.Lists.{among}
use Rattle.flows.specs.Routes.{Apart}
use Rattle.flows.proofs.Lists.{among_kept}
use Rattle.augment.proofs.Trails.{apart_short}
use Rattle.routes.specs.Routes.{vertices}

-- The vertices of a list are those of its first node and those of the rest.
pub vertices_more : (order x : ℕ) (xs : List ℕ) → vertices order (x ∷ xs) ≡ vertices order (x ∷ []) ++ vertices order xs
vertices_more order x xs = cut (ltb x order) (vertices order xs)
  where
    cut : (b : Bool) (ys : List ℕ) → cond b (x ∷ ys) ys ≡ cond b (x ∷ []) [] ++ ys
    cut true ys = refl
    cut false ys = refl

-- A vertex is kept.
pub vertex_yes : (order x : ℕ) (xs : List ℕ) → x < order → vertices order (x ∷ xs) ≡ x ∷ vertices order xs
vertex_yes order x xs l = ap (λ (b : Bool). cond b (x ∷ vertices order xs) (vertices order xs)) (lt-ltb x order l)

-- Another node is not.
pub vertex_no : (order x : ℕ) (xs : List ℕ) → order ≤ x → vertices order (x ∷ xs) ≡ vertices order xs
vertex_no order x xs l = ap (λ (b : Bool). cond b (x ∷ vertices order xs) (vertices order xs)) (le-ltb x order l)

-- The same of a node alone.
pub one_yes : (order x : ℕ) → x < order → vertices order (x ∷ []) ≡ x ∷ []
one_yes order x l = vertex_yes order x [] l

pub one_no : (order x : ℕ) → order ≤ x → vertices order (x ∷ []) ≡ []
one_no order x l = vertex_no order x [] l

-- A vertex stands among them where it stands in the list.
pub vertices_among : (order : ℕ) (xs : List ℕ) (v : ℕ) → among (vertices order xs) v ≡ (among xs v && ltb v order)
vertices_among order xs v = among_kept (λ x. ltb x order) xs v

-- They are vertices.
vertices_below : (order : ℕ) (xs : List ℕ) → All (λ x. x < order) (vertices order xs)
vertices_below order [] = All-nil (λ x. x < order)
vertices_below order (x ∷ xs) =
    elim (cases_lt x order) [
      | inl l ↦
          let more = All-cons (λ x. x < order) x (vertices order xs) l (vertices_below order xs) in
          subst (All (λ x. x < order)) (sym (vertex_yes order x xs l)) more
      | inr l ↦ subst (All (λ x. x < order)) (sym (vertex_no order x xs l)) (vertices_below order xs)
    ]

-- None stands twice, if no node does.
pub vertices_apart : (order : ℕ) (xs : List ℕ) → Apart xs → Apart (vertices order xs)
vertices_apart order [] a = a
vertices_apart order (x ∷ xs) a =
    elim (cases_lt x order) [
      | inl l ↦
          let off = out (among xs x) (ltb x order) (vertices_among order xs x) a.0 in
          subst Apart (sym (vertex_yes order x xs l)) (off, vertices_apart order xs a.1)
      | inr l ↦ subst Apart (sym (vertex_no order x xs l)) (vertices_apart order xs a.1)
    ]
  where
    out : (b e : Bool) → among (vertices order xs) x ≡ (b && e) → b ≡ false → among (vertices order xs) x ≡ false
    out b e k h = grind arith

-- So a list with nothing twice has no more vertices than there are.
pub vertices_few : (order : ℕ) (xs : List ℕ) → Apart xs → length (vertices order xs) ≤ order
vertices_few order xs a = apart_short order (vertices order xs) (vertices_apart order xs a) (vertices_below order xs)
