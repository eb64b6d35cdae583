-- What was right at two moments goes together.
use Rattle.std.proofs.Common.{◌≡◌, Bool, true, false, not, ◌&&◌, ◌||◌, List, [], ◌∷◌, ◌++◌, is_ok, Ok, Err, refl, ap, ◌∙◌, subst}
use Rattle.std.specs.List.{AllByRecursion}
use Rattle.std.proofs.lemmas.Bool.{not-false}
use Rattle.std.proofs.lemmas.List.Elements.{recursion_from_All}
use Rattle.graph.specs.Graph.{Graph}
use Rattle.model.specs.declared.call.Call.{Call}
use Rattle.model.specs.declared.call.Call.TheVariants as call
use Rattle.model.specs.declared.refusal.Refusal.{Refusal}
use Rattle.model.specs.declared.refusal.Refusal.TheVariants.{OutOfTurn}
use Rattle.model.specs.Kinds.{is_make, is_edit, is_question}
use Rattle.model.specs.Model.{Model, Lent, State, unmade, made, subject}
use Rattle.model.specs.Table.{Reply, reply}
use Rattle.model.specs.After.{settle, change, after}
use Rattle.model.proofs.Replies.{first_fits_lem}
use Rattle.law.specs.Told.{Told, Said}
use Rattle.law.specs.Right.{right, Agree}
use Rattle.law.specs.Law.{subject_of, Right, Event, after_all, AllRight, edited}
use Rattle.law.specs.Laws.{RightGoesTogether}

-- What two questions rightly tell of one graph goes together.
agree : (g : Graph) (c : Call) (w : Told) (d : Call) (t : Told) → right g c w → right g d t → Agree c w d t
agree g c w d t p q = tt

-- The replies of two lists of events, one after the other.
right_split : (s : State) (xs ys : List Event) → AllRight s (xs ++ ys) → AllRight s xs × AllRight (after_all s xs) ys
unfolding after_all AllRight
right_split s [] ys h = (tt, h)
right_split s (x ∷ xs) ys h =
    let r = right_split (after x.lent s x.call) xs ys h.1 in
    ((h.0, r.0), r.1)

-- A call that would change nothing changes nothing, whatever it is answered.
settle_same : (r : Reply) (s : State) → settle r s s ≡ s
settle_same (Ok x) s = refl
settle_same (Err e) s = refl

-- A refused call changes nothing.
refused_same : (lent : Lent) (s : State) (c : Call) (e : Refusal) → reply lent s c ≡ Err e → after lent s c ≡ s
refused_same lent s c e h = ap (λ (r : Reply). settle r (change lent s c) s) h

-- What is no accepted edit leaves a map that stands as it is.
still : (lent : Lent) (m : Model) (c : Call) (x : Said) → Right lent (made m) c x → (is_edit c && is_ok x) ≡ false → after lent (made m) c ≡ made m
still lent m c (Err e) h q = refused_same lent (made m) c e h
still lent m (call.Make n) (Ok t) h q = settle_same (reply lent (made m) (call.Make n)) (made m)
still lent m (call.Join u v) (Ok t) h q = cc
still lent m (call.Part u v) (Ok t) h q = cc
still lent m (call.Strike u v) (Ok t) h q = cc
still lent m (call.Lift u v) (Ok t) h q = cc

-- And so do many.
all_still : (m : Model) (es : List Event) → AllRight (made m) es → AllByRecursion (λ e. edited e ≡ false) es → after_all (made m) es ≡ made m
unfolding after_all AllRight
all_still m [] h q = refl
all_still m (e ∷ es) h q =
    let one = still e.lent m e.call e.said h.0 q.0 in
    ap (λ (s : State). after_all s es) one ∙ all_still m es (subst (λ (s : State). AllRight s es) one h.1) q.1

-- A question is no make, and no edit.
neither : (a b : Bool) → not (a || b) ≡ true → (a ≡ false) × (b ≡ false)
neither true b h = cc
neither false true h = cc
neither false false h = (refl, refl)

-- No question is accepted before a make.
none_unmade : (lent : Lent) (c : Call) → is_question c ≡ true → reply lent unmade c ≡ Ok tt → ⊥
none_unmade lent c q h =
    let made_one = not-false (is_make c) ((first_fits_lem lent unmade c).1 h OutOfTurn) in
    let no_make = (neither (is_make c) (is_edit c) q).0 in
    cc

-- A question at a state, no accepted edit, and a question then: both were asked of one graph.
later : (s : State) (lent lent' : Lent) (c : Call) (w : Told) (es : List Event) (d : Call) (t : Told)
    → is_question c ≡ true → Right lent s c (Ok w) → AllByRecursion (λ e. edited e ≡ false) es → AllRight (after lent s c) es
    → Right lent' (after_all (after lent s c) es) d (Ok t) → Agree c w d t
later unmade lent lent' c w es d t q p quiet h r = absurd (none_unmade lent c q p.0)
later (made m) lent lent' c w es d t q p quiet h r =
    let no_edit = (neither (is_make c) (is_edit c) q).1 in
    let here = still lent m c (Ok w) p (ap (λ (b : Bool). b && true) no_edit) in
    let then_same = ap (λ (s : State). after_all s es) here ∙ all_still m es (subst (λ (s : State). AllRight s es) here h) quiet in
    agree (subject m) c w d t p.1 (subst (λ (s : State). right (subject_of s) d t) then_same r.1)

-- What was right at two moments goes together.
pub right_goes_together_lem : RightGoesTogether
unfolding AllRight
right_goes_together_lem events all before between after_f e f w t is quiet asks asks' e_said f_said =
    let whole = right_split unmade before (e ∷ (between ++ (f ∷ after_f))) (subst (λ (es : List Event). AllRight unmade es) is all) in
    let s = after_all unmade before in
    let rest = right_split (after e.lent s e.call) between (f ∷ after_f) whole.1.1 in
    let first = subst (λ (x : Said). Right e.lent s e.call x) e_said whole.1.0 in
    let second = subst (λ (x : Said). Right f.lent (after_all (after e.lent s e.call) between) f.call x) f_said rest.1.0 in
    later s e.lent f.lent e.call w between f.call t asks first (recursion_from_All (λ (x : Event). edited x ≡ false) between quiet) rest.0 second
