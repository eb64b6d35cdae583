-- One call more of a script.
use Rattle.std.proofs.Common.{◌≡◌, ℕ, zero, suc, ◌+◌, ◌<◌, List, [], ◌∷◌, ◌++◌, length, take, drop, slice_set, slice_index_or, Ok, Err, IfErr, Result, refl, sym, ap, ap₂, ◌∙◌, subst, add-one, arith}
use Rattle.std.proofs.lemmas.List.{take_more_set, length-take-le}
use Rattle.std.proofs.lemmas.List.Elements.{AllZip-push}
use Rattle.model.specs.Model.{Room}
use Rattle.law.specs.Law.{Event}
use Rattle.session.specs.declared.script.Asked.{Asked}
use Rattle.session.specs.Script.{event_of, events_of, Answered, WrittenOnly}

-- Where two scripts are the same from k on, one call more of the old one is the new one's.
taken : (os bs : List Asked) (k : ℕ) (d : Asked) → k < length os → length bs ≡ length os → drop k bs ≡ drop k os
    → take (suc k) os ≡ take k os ++ (slice_index_or bs k d ∷ [])
taken [] bs k d lo same e = absurd (omega (arith, lo))
taken (a ∷ os) [] k d lo same e = absurd (omega (arith, same))
taken (a ∷ os) (x ∷ bs) zero d lo same e =
    let first : a ≡ x = cc in
    ap (λ (y : Asked). y ∷ []) first
taken (a ∷ os) (x ∷ bs) (suc k) d lo same e = ap (λ (ys : List Asked). a ∷ ys) (taken os bs k d (omega arith) (omega arith) e)

-- The same, as a loop counts.
taken_old : (os bs : List Asked) (k : ℕ) (d : Asked) → k < length os → length bs ≡ length os → drop k bs ≡ drop k os
    → take (k + 1) os ≡ take k os ++ (slice_index_or bs k d ∷ [])
taken_old os bs k d lo same e = ap (λ (n : ℕ). take n os) (add-one k) ∙ taken os bs k d lo same e

-- The events of one call more.
events_push : (room : Room) (os bs : List Asked) (a b : Asked) → length os ≡ length bs
    → events_of room (os ++ (a ∷ [])) (bs ++ (b ∷ [])) ≡ events_of room os bs ++ (event_of room a b ∷ [])
events_push room [] [] a b same = refl
events_push room [] (y ∷ bs) a b same = absurd (omega (arith, same))
events_push room (x ∷ os) [] a b same = absurd (omega (arith, same))
events_push room (x ∷ os) (y ∷ bs) a b same = ap (λ (es : List Event). event_of room x y ∷ es) (events_push room os bs a b (omega arith))

-- As many calls are taken of both scripts.
even : (os bs : List Asked) (k : ℕ) → k < length os → length bs ≡ length os → length (take k os) ≡ length (take k bs)
even os bs k lo same = length-take-le k os (omega arith) ∙ sym (length-take-le k bs (omega (arith, same)))

pub events_next : (room : Room) (os bs : List Asked) (k : ℕ) (d b : Asked) → k < length os → length bs ≡ length os → drop k bs ≡ drop k os
    → events_of room (take (k + 1) os) (take (k + 1) (slice_set bs k b)) ≡ events_of room (take k os) (take k bs) ++ (event_of room (slice_index_or bs k d) b ∷ [])
events_next room os bs k d b lo same e =
    ap₂ (events_of room) (taken_old os bs k d lo same e) (take_more_set bs k b (omega (arith, same)))
    ∙ events_push room (take k os) (take k bs) (slice_index_or bs k d) b (even os bs k lo same)

-- What one call more writes.
pub written_next : (os bs : List Asked) (k : ℕ) (d b : Asked) → k < length os → length bs ≡ length os → drop k bs ≡ drop k os
    → WrittenOnly (take k os) (take k bs) → Answered (slice_index_or bs k d) b → WrittenOnly (take (k + 1) os) (take (k + 1) (slice_set bs k b))
written_next os bs k d b lo same e so_far one =
    let push = AllZip-push Answered (take k os) (take k bs) (slice_index_or bs k d) b so_far one in
    subst (λ (ys : List Asked). WrittenOnly (take (k + 1) os) ys) (sym (take_more_set bs k b (omega (arith, same))))
    (subst (λ (xs : List Asked). WrittenOnly xs (take k bs ++ (b ∷ []))) (sym (taken_old os bs k d lo same e)) push)

-- The calls to come stand as they stood.
rest_later : (os bs : List Asked) (k : ℕ) (b : Asked) → k < length os → length bs ≡ length os → drop k bs ≡ drop k os → drop (suc k) (slice_set bs k b) ≡ drop (suc k) os
rest_later [] bs k b lo same e = absurd (omega (arith, lo))
rest_later (a ∷ os) [] k b lo same e = absurd (omega (arith, same))
rest_later (a ∷ os) (x ∷ bs) zero b lo same e = let tails : bs ≡ os = cc in tails
rest_later (a ∷ os) (x ∷ bs) (suc k) b lo same e = rest_later os bs k b (omega arith) (omega arith) e

pub rest_next : (os bs : List Asked) (k : ℕ) (b : Asked) → k < length os → length bs ≡ length os → drop k bs ≡ drop k os → drop (k + 1) (slice_set bs k b) ≡ drop (k + 1) os
rest_next os bs k b lo same e =
    ap (λ (n : ℕ). drop n (slice_set bs k b)) (add-one k) ∙ rest_later os bs k b lo same e ∙ ap (λ (n : ℕ). drop n os) (sym (add-one k))

-- Memory that a call hands back is what waited.
pub back_again : {P M : Type 0} (next session : Result P M) (memory : M) → IfErr next (λ m. session ≡ Err m) → IfErr session (λ m. m ≡ memory) → IfErr next (λ m. m ≡ memory)
back_again (Ok p) session memory h w = h
back_again (Err m) session memory h w = rw h at w
