-- How a trail stays one, and is made longer, when a node off it is noted.
use Rattle.std.proofs.Common.{◌≡◌, ℕ, ◌<◌, Bool, false, List, [], ◌∷◌, ◌++◌, length, set, sym, ◌∙◌, get_or-set_other, get_or-set_same}
use Rattle.flows.specs.Lists.{among}
use Rattle.flows.specs.Routes.{Walk}
use Rattle.flows.proofs.Lists.{among_off}
use Rattle.augment.specs.Trails.{Noted}

-- What is noted for a node off a list leaves the list's own notes alone.
pub noted_still : (before : List ℕ) (q p : ℕ) (xs : List ℕ) → among xs q ≡ false → Noted before xs → Noted (set before q p) xs
noted_still before q p [] o h = tt
noted_still before q p (x ∷ []) o h = tt
noted_still before q p (x ∷ (y ∷ xs)) o h =
    let k = among_off x (y ∷ xs) q o in
    let l = among_off y xs q k.1 in
    (get_or-set_other before q y p 0 (λ e. l.0 (sym e)) ∙ h.0, noted_still before q p (y ∷ xs) k.1 h.1)

-- A node is noted behind the last of a list.
pub noted_push : (r : ℕ → ℕ → Bool) (a : ℕ) (before : List ℕ) (q p : ℕ) (xs : List ℕ) → q < length before → Walk r a p xs → among xs q ≡ false → Noted before xs
    → Noted (set before q p) (xs ++ (q ∷ []))
noted_push r a before q p [] l w o h = absurd w
noted_push r a before q p (x ∷ []) l w o h = (get_or-set_same before q p 0 l ∙ sym w.1, tt)
noted_push r a before q p (x ∷ (y ∷ xs)) l w o h =
    let k = among_off x (y ∷ xs) q o in
    let i = among_off y xs q k.1 in
    (get_or-set_other before q y p 0 (λ e. i.0 (sym e)) ∙ h.0, noted_push r y before q p (y ∷ xs) l w.2 k.1 h.1)
