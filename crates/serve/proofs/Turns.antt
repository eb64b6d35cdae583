-- A session that is answered line by line.
use Rattle.std.proofs.Common.{◌≡◌, ℕ, suc, false, ◌+◌, ◌≤◌, List, [], ◌∷◌, Some, ◌++◌, length, Ok, Err, IfErr, Result, sym, refl, ap, ap₂, ◌∙◌, subst, append_assoc, arith, length-append}
use Rattle.std.proofs.lemmas.List.{append-nil}
use Rattle.graph.specs.Graph.{Graph}
use Rattle.model.specs.declared.call.Answer.{Answer}
use Rattle.model.specs.declared.call.Call.{Call}
use Rattle.model.specs.declared.call.Call.TheVariants.{Make, Join, Part, Strike, Lift}
use Rattle.model.specs.declared.refusal.Refusal.{Refusal}
use Rattle.model.specs.Kinds.{is_question}
use Rattle.model.specs.Model.{Lent, Room, State, unmade}
use Rattle.workspace.specs.declared.Workspace.{Workspace}
use Rattle.workspace.specs.Buffers.{Buffers}
use Rattle.workspace.specs.Parts.{buffers, sizes_of, SameMemory, Untouched}
use Rattle.law.specs.Told.{told, said, left_by}
use Rattle.law.specs.Law.{Event, event, Sound}
use Rattle.law.proofs.Events.{not_begun_lem}
use Rattle.frames.specs.declared.fault.FrameFault.{FrameFault}
use Rattle.frames.specs.declared.fault.SessionFault.TheVariants as fault
use Rattle.frames.specs.Frames.{request}
use Rattle.frames.specs.Text.{Reported, reply_text, FrontPut}
use Rattle.frames.proofs.Fronts.{front_is}
use Rattle.session.specs.declared.planner.Planner.{Planner}
use Rattle.session.specs.Kept.{state_reached}
use Rattle.session.specs.Held.{held_next, HoldsAfter, HoldsChanged}
use Rattle.session.specs.Calls.{lent_at, said_in}
use Rattle.session.proofs.Held.{held_more}
use Rattle.serve.specs.declared.lines.Line.{Line}
use Rattle.serve.specs.declared.lines.Lines.{Lines}
use Rattle.serve.specs.Lines.{lines}
use Rattle.serve.specs.Served.{Reply, reported, IsReplyTo, Exactly, Replied, events_at, events_of, left_after, Dialogue, session_text, SessionText, BrokenOff, reply_limit}
use Rattle.serve.specs.Progress.{Takes, left, reply_in, as_call, SoFar}

-- The event of a line that asks for a call.
pub event_of_call : (lent : Lent) (c : Call) (r : Result Answer Refusal) (b : Buffers)
    → events_at lent (Ok c) (reply_in (as_call r) b) ≡ event lent c (said r b) ∷ []
event_of_call lent c (Ok a) b = refl
event_of_call lent c (Err r) b = refl

-- A reply is written as it was reported.
pub written_as : (r : Reported) (b : Buffers) → reported (reply_in r b) ≡ r
written_as (Ok a) b = refl
written_as (Err f) b = refl

-- Nothing is written by one step and by another.
pub untouched_next : (a b c : Workspace) → Untouched a b → Untouched b c → Untouched a c
untouched_next a b c h g = (g.0 ∙ h.0, g.1 ∙ h.1, g.2 ∙ h.2, g.3 ∙ h.3, g.4 ∙ h.4)

-- The same memory is lent after one step and another.
pub same_next : (a b c : Workspace) → SameMemory a b → SameMemory b c → SameMemory a c
same_next a b c h g = (g.0 ∙ h.0, g.1 ∙ h.1, g.2 ∙ h.2, g.3 ∙ h.3, g.4 ∙ h.4, g.5 ∙ h.5, g.6 ∙ h.6, g.7 ∙ h.7)

-- As many replies as lines.
as_many : (ls : List (List ℕ)) (rs : List Reply) → Replied ls rs → length rs ≡ length ls
as_many [] [] h = refl
as_many [] (r ∷ rs) h = absurd h
as_many (l ∷ ls) [] h = absurd h
as_many (l ∷ ls) (r ∷ rs) h = ap suc (as_many ls rs h.1)

-- One line more, with its reply.
replied_push : (ls : List (List ℕ)) (rs : List Reply) (l : List ℕ) (r : Reply)
    → Replied ls rs → IsReplyTo (request l) r → Exactly r → Replied (ls ++ (l ∷ [])) (rs ++ (r ∷ []))
replied_push [] [] l r h fit exact = ((fit, exact), tt)
replied_push [] (x ∷ rs) l r h fit exact = absurd h
replied_push (y ∷ ls) [] l r h fit exact = absurd h
replied_push (y ∷ ls) (x ∷ rs) l r h fit exact = (h.0, replied_push ls rs l r h.1 fit exact)

-- Its event comes last.
events_push : (lent : Lent) (ls : List (List ℕ)) (rs : List Reply) (l : List ℕ) (r : Reply)
    → Replied ls rs → events_of lent (ls ++ (l ∷ [])) (rs ++ (r ∷ [])) ≡ events_of lent ls rs ++ events_at lent (request l) r
unfolding events_of
events_push lent [] [] l r h = append-nil (events_at lent (request l) r)
events_push lent [] (x ∷ rs) l r h = absurd h
events_push lent (y ∷ ls) [] l r h = absurd h
events_push lent (y ∷ ls) (x ∷ rs) l r h =
    ap (λ (es : List Event). events_at lent (request y) x ++ es) (events_push lent ls rs l r h.1)
    ∙ sym (append_assoc (events_at lent (request y) x) (events_of lent ls rs) (events_at lent (request l) r))

-- What is left after some events and then others.
left_later : (es fs : List Event) (b : Buffers) → left_after (es ++ fs) b ≡ left_after fs (left_after es b)
unfolding left_after
left_later [] fs b = refl
left_later (e ∷ es) fs b = left_later es fs (left_by e.said b)

-- What one call leaves.
left_one : (e : Event) (b : Buffers) → left_after (e ∷ []) b ≡ left_by e.said b
unfolding left_after
left_one e b = refl

-- What no call leaves.
left_none : (b : Buffers) → left_after [] b ≡ b
unfolding left_after
left_none b = refl

-- What a line that asks for a call leaves.
pub left_call : (lent : Lent) (line : List ℕ) (c : Call) (r : Result Answer Refusal) (x : Reported) (old now : Buffers)
    → request line ≡ Ok c → x ≡ as_call r → now ≡ left_by (said r now) old → now ≡ left_after (events_at lent (request line) (reply_in x now)) old
left_call lent line c r x old now asks is wrote =
    let one = ap₂ (λ (q : Result Call FrameFault) (y : Reported). events_at lent q (reply_in y now)) asks is ∙ event_of_call lent c r now in
    wrote ∙ sym (left_one (event lent c (said r now)) old) ∙ sym (ap (λ (es : List Event). left_after es old) one)

-- What a line that asks for none leaves.
pub left_fault : (lent : Lent) (line : List ℕ) (f : FrameFault) (r : Reply) (old : Buffers)
    → request line ≡ Err f → old ≡ left_after (events_at lent (request line) r) old
left_fault lent line f r old asks = sym (ap (λ (q : Result Call FrameFault). left_after (events_at lent q r) old) asks ∙ left_none old)

-- The text of one reply more.
text_push : (n : ℕ) (rs : List Reply) (r : Reply)
    → session_text n (rs ++ (r ∷ [])) ≡ session_text n rs ++ reply_text (n + length rs) (reported r)
unfolding session_text
text_push n [] r = append-nil (reply_text n (reported r)) ∙ ap (λ (k : ℕ). reply_text k (reported r)) (omega arith)
text_push n (x ∷ rs) r =
    ap (λ (t : List ℕ). reply_text n (reported x) ++ t) (text_push (suc n) rs r ∙ ap (λ (k : ℕ). session_text (suc n) rs ++ reply_text k (reported r)) (omega arith))
    ∙ sym (append_assoc (reply_text n (reported x)) (session_text (suc n) rs) (reply_text (n + suc (length rs)) (reported r)))

-- No text yet.
no_text : (n : ℕ) (before : List ℕ) → before ≡ before ++ session_text n []
unfolding session_text
no_text n before = sym (append-nil before)

-- The text of a reply is short.
pub short_reply : (n : ℕ) (r : Reported) → length (reply_text n r) ≤ reply_limit
short_reply n (Ok a) = omega arith
short_reply n (Err f) = omega arith

-- What a line's call does to every sound session.
abbrev pub Goes : Lent → State → List ℕ → Reply → State → Type 0
Goes lent s l r s' = (events : List Event) → Sound events s → Sound (events ++ events_at lent (request l) r) s'

-- What it does to what the memory under the store holds.
abbrev pub Leaves : Lent → State → List ℕ → Reply → (holds holds' : List Event → Type 0) → Type 0
Leaves lent s l r holds holds' = (events : List Event) → Sound events s → holds events → holds' (events ++ events_at lent (request l) r)

-- What a line and its reply do to a session that is answered so far.
pub record Step (lent : Lent) (s s' : State) (holds holds' : List Event → Type 0) (mid new : Buffers) (l : List ℕ) (r : Reply) : Type 0 where
  pub goes : Goes lent s l r s'
  pub leaves : Leaves lent s l r holds holds'
  pub fit : IsReplyTo (request l) r
  pub exact : Exactly r
  pub left : new ≡ left_after (events_at lent (request l) r) mid

-- The reply to a line that asks for a call is one to it.
fit_call : (line : List ℕ) (c : Call) (r : Result Answer Refusal) (b : Buffers) → request line ≡ Ok c → IsReplyTo (request line) (reply_in (as_call r) b)
fit_call line c (Ok a) b asks = subst (λ (q : Result Call FrameFault). IsReplyTo q (Ok (told a b))) (sym asks) tt
fit_call line c (Err r) b asks = subst (λ (q : Result Call FrameFault). IsReplyTo q (Err (fault.Call r))) (sym asks) tt

-- It tells the lists that its answer has.
exact_call : (r : Result Answer Refusal) (b : Buffers) → Exactly (reply_in (as_call r) b)
exact_call (Ok a) b = refl
exact_call (Err r) b = tt

-- A line that asks for a call: the session keeps the law with it, and the memory under its store holds what it leaves there.
pub step_call : {S M : Type 0} (held : S → List ℕ) (fresh : ℕ → List ℕ) (laid taken : Graph → List ℕ → ℕ → ℕ → List ℕ)
    (lent : Lent) (session next : Result (Planner S) M) (s s' : State) (line : List ℕ) (c : Call) (r : Result Answer Refusal) (x : Reported) (old now : Buffers)
    → request line ≡ Ok c → x ≡ as_call r
    → ((events : List Event) → Sound events s → Sound (events ++ (event lent c (said r now) ∷ [])) s')
    → HoldsChanged held session next (held_next fresh laid taken lent s c)
    → now ≡ left_by (said r now) old
    → Step lent s s' (HoldsAfter held fresh laid taken session) (HoldsAfter held fresh laid taken next) old now line (reply_in x now)
step_call held fresh laid taken lent session next s s' line c r x old now asks is law changed wrote =
    let one = ap₂ (λ (q : Result Call FrameFault) (y : Reported). events_at lent q (reply_in y now)) asks is ∙ event_of_call lent c r now in
    record {
      goes = λ events sound. subst (λ (es : List Event). Sound (events ++ es) s') (sym one) (law events sound);
      leaves = λ events sound holds. subst (λ (es : List Event). HoldsAfter held fresh laid taken next (events ++ es)) (sym one)
          (held_more fresh laid taken held next s events (event lent c (said r now)) [] sound (changed _ holds));
      fit = subst (λ (y : Reported). IsReplyTo (request line) (reply_in y now)) (sym is) (fit_call line c r now asks);
      exact = subst (λ (y : Reported). Exactly (reply_in y now)) (sym is) (exact_call r now);
      left = left_call lent line c r x old now asks is wrote;
    }

-- What a turn does: the line is answered, nothing is written into the workspace, and memory that still waits is what waited.
pub record Turn {S M : Type 0} (graph : S → Graph) (most : S → ℕ) (held : S → List ℕ) (fresh : ℕ → List ℕ) (laid taken : Graph → List ℕ → ℕ → ℕ → List ℕ)
    (room : Room) (session next : Result (Planner S) M) (w now : Workspace) (line : List ℕ) (x : Reported) : Type 0 where
  pub step : Step (lent_at room w) (state_reached graph most session) (state_reached graph most next)
      (HoldsAfter held fresh laid taken session) (HoldsAfter held fresh laid taken next) (buffers w) (buffers now) line (reply_in x (buffers now))
  pub back : IfErr next (λ m. session ≡ Err m)
  pub untouched : Untouched w now
  pub memory : SameMemory w now
  pub sizes : sizes_of now ≡ sizes_of w

-- No call of today is a question.
no_question : (c : Call) → is_question c ≡ false
no_question (Make n) = refl
no_question (Join u v) = refl
no_question (Part u v) = refl
no_question (Strike u v) = refl
no_question (Lift u v) = refl

module _ {S : Type 0} (M : Type 0) (graph : S → Graph) (most : S → ℕ) (held : S → List ℕ) (fresh : ℕ → List ℕ)
    (laid taken : Graph → List ℕ → ℕ → ℕ → List ℕ) (room : Room) where
  -- A line that asks for a call of a session.
  pub turn_session : (session next : Result (Planner S) M) (w now : Workspace) (line : List ℕ) (c : Call) (r : Result Answer Refusal) (x : Reported)
      → request line ≡ Ok c → x ≡ as_call r
      → ((events : List Event) → Sound events (state_reached graph most session)
      → Sound (events ++ (event (lent_at room w) c (said_in r now) ∷ [])) (state_reached graph most next))
      → HoldsChanged held session next (held_next fresh laid taken (lent_at room w) (state_reached graph most session) c)
      → buffers now ≡ left_by (said_in r now) (buffers w)
      → IfErr next (λ m. session ≡ Err m) → (is_question c ≡ false → Untouched w now) → SameMemory w now → sizes_of now ≡ sizes_of w
      → Turn graph most held fresh laid taken room session next w now line x
  turn_session session next w now line c r x asks is law changed wrote back edit memory sizes = record {
    step = step_call held fresh laid taken (lent_at room w) session next (state_reached graph most session) (state_reached graph most next)
        line c r x (buffers w) (buffers now) asks is law changed wrote;
    back = back;
    untouched = edit (no_question c);
    memory = memory;
    sizes = sizes;
  }

  -- The same where the session and the workspace are those before.
  pub turn_from : (session before next : Result (Planner S) M) (w first now : Workspace) (line : List ℕ) (x : Reported)
      → session ≡ before → w ≡ first
      → Turn graph most held fresh laid taken room session next w now line x → Turn graph most held fresh laid taken room before next first now line x
  turn_from session before next w first now line x same still turn =
      subst (λ (v : Workspace). Turn graph most held fresh laid taken room before next v now line x) still
      (subst (λ (s : Result (Planner S) M). Turn graph most held fresh laid taken room s next w now line x) same turn)

-- No line is answered yet.
dialogue_none : {holds : List Event → Type 0} (lent : Lent) (b : Buffers) → holds [] → Dialogue lent [] [] holds unmade b b
unfolding events_of left_after
dialogue_none lent b held = record { replied = tt; sound = not_begun_lem; held = held; left = refl }

-- One line more is answered.
dialogue_next : {holds holds' : List Event → Type 0} (lent : Lent) (ls : List (List ℕ)) (rs : List Reply) (s s' : State) (old mid new : Buffers) (l : List ℕ) (r : Reply)
    → Dialogue lent ls rs holds s old mid → Step lent s s' holds holds' mid new l r
    → Dialogue lent (ls ++ (l ∷ [])) (rs ++ (r ∷ [])) holds' s' old new
dialogue_next {holds' = holds'} lent ls rs s s' old mid new l r d step =
    let es = events_of lent ls rs in
    let one = events_at lent (request l) r in
    let more = sym (events_push lent ls rs l r d.replied) in
    record {
      replied = replied_push ls rs l r d.replied step.fit step.exact;
      sound = subst (λ (xs : List Event). Sound xs s') more (step.goes es d.sound);
      held = subst holds' more (step.leaves es d.sound d.held);
      left = step.left ∙ ap (left_after one) d.left ∙ sym (left_later es one old) ∙ ap (λ (xs : List Event). left_after xs old) more;
    }

-- At the beginning.
pub so_far_none : {holds : List Event → Type 0} (lent : Lent) (input : List ℕ) (ls : Lines) (b : Buffers) (before : List ℕ)
    → ls.taken ≡ 0 → ls.rest.now ≡ input → holds [] → SoFar lent input ls holds unmade b b before before
so_far_none lent input ls b before none all held = record {
  asked = [];
  in_order = ap lines (sym all);
  counted = none;
  replies = [];
  answered = dialogue_none lent b held;
  text = no_text 1 before;
}

-- At the end.
pub so_far_all : {holds : List Event → Type 0} (lent : Lent) (input : List ℕ) (ls : Lines) (s : State) (old new : Buffers) (before written : List ℕ)
    → left ls ≡ [] → SoFar lent input ls holds s old new before written → SessionText lent input holds s old new before written
so_far_all {holds = holds} lent input ls s old new before written none h =
    let whole : lines input ≡ h.asked = h.in_order ∙ ap (λ (xs : List (List ℕ)). h.asked ++ xs) none ∙ append-nil h.asked in
    record {
      replies = h.replies;
      answered = subst (λ (xs : List (List ℕ)). Dialogue lent xs h.replies holds s old new) (sym whole) h.answered;
      text = h.text;
    }

-- The lines are those before it, the line, and those after it.
order_next : (all asked : List (List ℕ)) (l : List ℕ) (now later : List (List ℕ)) → all ≡ asked ++ now → now ≡ l ∷ later → all ≡ (asked ++ (l ∷ [])) ++ later
order_next all asked l now later h first = h ∙ ap (λ (xs : List (List ℕ)). asked ++ xs) first ∙ sym (append_assoc asked (l ∷ []) later)

-- One line more is counted.
counted_next : (asked : List (List ℕ)) (l : List ℕ) (taken taken' : ℕ) → taken ≡ length asked → taken' ≡ taken + 1 → taken' ≡ length (asked ++ (l ∷ []))
counted_next asked l taken taken' h next = omega (arith, length-append asked (l ∷ []), h, next)

-- The reply to a line, put behind what is written.
text_next : (before written : List ℕ) (rs : List Reply) (r : Reply) (number : ℕ) → written ≡ before ++ session_text 1 rs → number ≡ 1 + length rs
    → written ++ reply_text number (reported r) ≡ before ++ session_text 1 (rs ++ (r ∷ []))
text_next before written rs r number h is =
    ap₂ (λ (w : List ℕ) (n : ℕ). w ++ reply_text n (reported r)) h is
    ∙ append_assoc before (session_text 1 rs) (reply_text (1 + length rs) (reported r))
    ∙ ap (λ (t : List ℕ). before ++ t) (sym (text_push 1 rs r))

-- The text finds no memory after one line more.
pub broken_next : {holds holds' : List Event → Type 0} (lent : Lent) (input : List ℕ) (s s' : State) (ls : Lines) (l : Line) (after : Lines) (old mid new : Buffers) (before written written' : List ℕ) (r : Reply)
    → Takes ls (Some l) after → SoFar lent input ls holds s old mid before written
    → Step lent s s' holds holds' mid new l.text.now r
    → FrontPut written (reply_text l.number (reported r)) written'
    → BrokenOff lent input holds' s' old new before written'
broken_next lent input s s' ls l after old mid new before written written' r takes h step put =
    let many = as_many h.asked h.replies h.answered.replied in
    let number : l.number ≡ suc (length h.replies) = omega (arith, takes.1, h.counted, many) in
    record {
      asked = h.asked ++ (l.text.now ∷ []);
      unasked = left after;
      in_order = order_next (lines input) h.asked l.text.now (left ls) (left after) h.in_order takes.0;
      whole = h.replies;
      last = r;
      answered = dialogue_next lent h.asked h.replies s s' old mid new l.text.now r h.answered step;
      text = front_is written (before ++ session_text 1 h.replies) (reply_text l.number (reported r)) (reply_text (suc (length h.replies)) (reported r)) written'
          h.text (ap (λ (n : ℕ). reply_text n (reported r)) number) put;
    }

-- One line more is answered, and its reply is written.
pub so_far_next : {holds holds' : List Event → Type 0} (lent : Lent) (input : List ℕ) (s s' : State) (ls : Lines) (l : Line) (after : Lines) (old mid new : Buffers) (before written written' : List ℕ) (r : Reply)
    → Takes ls (Some l) after → SoFar lent input ls holds s old mid before written
    → Step lent s s' holds holds' mid new l.text.now r
    → written' ≡ written ++ reply_text l.number (reported r)
    → SoFar lent input after holds' s' old new before written'
so_far_next lent input s s' ls l after old mid new before written written' r takes h step put =
    let many = as_many h.asked h.replies h.answered.replied in
    let number : l.number ≡ 1 + length h.replies = omega (arith, takes.1, h.counted, many) in
    record {
      asked = h.asked ++ (l.text.now ∷ []);
      in_order = order_next (lines input) h.asked l.text.now (left ls) (left after) h.in_order takes.0;
      counted = counted_next h.asked l.text.now ls.taken after.taken h.counted takes.2;
      replies = h.replies ++ (r ∷ []);
      answered = dialogue_next lent h.asked h.replies s s' old mid new l.text.now r h.answered step;
      text = put ∙ text_next before written h.replies r l.number h.text number;
    }
