-- One event more at the end of a sound session, and the first one.
use Rattle.std.proofs.Common.{◌≡◌, List, [], ◌∷◌, ◌++◌, Ok, sym, refl, ap, ◌∙◌, subst}
use Rattle.model.specs.declared.call.Call.TheVariants.{Make}
use Rattle.model.specs.declared.call.Answer.TheVariants.{Made}
use Rattle.model.specs.Model.{State, unmade, made, blank}
use Rattle.model.specs.Table.{Reply}
use Rattle.model.specs.After.{settle, after}
use Rattle.law.specs.Told.{plain}
use Rattle.law.specs.Law.{Event, event, after_all, Right, AllRight}
use Rattle.law.specs.Laws.{OneMore, NotBegun, Begun}
use Rattle.law.proofs.Across.{right_goes_together_lem}

-- The state after one event more.
after_one : (s : State) (es : List Event) (e : Event) → after_all s (es ++ (e ∷ [])) ≡ after e.lent (after_all s es) e.call
unfolding after_all
after_one s [] e = refl
after_one s (x ∷ es) e = after_one (after x.lent s x.call) es e

-- One right reply more.
right_one : (s : State) (es : List Event) (e : Event) → AllRight s es → Right e.lent (after_all s es) e.call e.said → AllRight s (es ++ (e ∷ []))
unfolding after_all AllRight
right_one s [] e f h = (h, tt)
right_one s (x ∷ es) e f h = (f.0, right_one (after x.lent s x.call) es e f.1 h)

-- No event has happened before the make.
pub not_begun_lem : NotBegun
unfolding after_all AllRight
not_begun_lem = record { stands = refl; replies = tt; across = right_goes_together_lem [] tt }

-- A right reply to one call more keeps a session sound.
pub one_more_lem : OneMore
one_more_lem es s s' lent c r sound right next =
    let replies = right_one unmade es (event lent c r) sound.replies (subst (λ (x : State). Right lent x c r) (sym sound.stands) right) in
    record {
      stands = after_one unmade es (event lent c r) ∙ ap (λ (x : State). after lent x c) sound.stands ∙ sym next;
      replies = replies;
      across = right_goes_together_lem (es ++ (event lent c r ∷ [])) replies;
    }

-- An accepted make is the first event of a sound session.
pub begun_lem : Begun
begun_lem lent n accepted =
    one_more_lem [] unmade (made (blank n (lent.room.capacity n))) lent (Make n) (Ok (plain Made)) not_begun_lem (accepted, refl)
    (sym (ap (λ (r : Reply). settle r (made (blank n (lent.room.capacity n))) unmade) accepted))
