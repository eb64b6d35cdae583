use Rattle.std.proofs.Common.{◌≡◌, ◌++◌, length, IfErr, Result, vec_items, sym, refl, ap, ◌∙◌, subst, arith}
use Rattle.std.proofs.lemmas.Result.{IfErr-weaker}
use Rattle.model.specs.declared.sizes.Sizes.{Sizes}
use Rattle.model.specs.Model.{lent_of}
use Rattle.workspace.specs.Parts.{buffers}
use Rattle.frames.specs.Text.{Reported, reply_text, FrontPut}
use Rattle.session.specs.declared.planner.Planner.{Planner}
use Rattle.session.specs.Kept.{state_reached}
use Rattle.session.specs.Held.{HoldsAfter}
use Rattle.session.specs.Calls.{lent_at}
use Rattle.session.proofs.Scripts.{back_again}
use Rattle.serve.specs.declared.lines.Lines.{Lines}
use Rattle.serve.specs.Progress.{reply_in}
use Rattle.serve.proofs.Turns.{Step, Turn, turn_session, turn_from, written_as, untouched_next, same_next, short_reply, so_far_none, so_far_next, broken_next}
use Rattle.serve.proofs.whole.answer_all.Goals.{in-Ok, in-Err}
use Rattle.serve.proofs.whole.answer_all.Goals as goal

-- No line is answered yet.
pub loop-line-init : goal.loop-line-init
loop-line-init g c =
    let lent = lent_at (g.S.Editable.room_in c.args.memory) c.args.workspace.now in
    let input = c.args.input.now in
    let begun = c.into_iter-line-iterator.ensures.into_iter_gives in
    let none = ap (λ (ls : Lines). ls.taken) begun ∙ c.of-line-items.ensures.none in
    let all = ap (λ (ls : Lines). ls.rest.now) begun ∙ c.of-line-items.ensures.all in
    record {
      so_far = so_far_none lent input c.into_iter-line-iterator.result (buffers c.args.workspace.now) (vec_items c.args.out.now) none all tt;
      back = refl;
      untouched = (refl, refl, refl, refl, refl);
      memory = (refl, refl, refl, refl, refl, refl, refl, refl);
      sizes = refl;
      capacity = omega arith;
      within = rw all (omega arith);
    }

-- One line more, where its reply is written.
pub loop-line-preserved : goal.loop-line-preserved
loop-line-preserved g c =
    let room = g.S.Editable.room_in c.args.memory in
    let fresh = g.S.Editable.fresh c.args.memory in
    let graph = g.S.Map.graph in
    let most = g.S.Editable.most in
    let held = g.S.Editable.held in
    let laid = g.S.Editable.with_edge_in in
    let taken = g.S.Editable.without_edge_in in
    let inv = c.loop-line.invariant in
    let l = c.in-Some.line in
    let w = vec_items c.loop-line.out in
    let session = c.loop-line.session in
    let next = c.match-answer.session in
    let now = c.match-answer.workspace in
    let reply = c.match-answer.reply in
    let turn : Turn graph most held fresh laid taken room session next c.loop-line.workspace now l.text.now reply = elim c.match-answer.branch [
      | in-Ok b ↦
          rw (b.session-is, b.workspace-is, b.reply-is)
          record {
            step = record {
              goes = b.in-Ok.ensures.law room;
              leaves = b.in-Ok.ensures.held room fresh;
              fit = b.in-Ok.ensures.reply;
              exact = b.in-Ok.ensures.exact;
              left = b.in-Ok.ensures.left (lent_at room c.loop-line.workspace);
            };
            back = c.answer.ensures.back;
            untouched = c.answer.ensures.untouched;
            memory = c.answer.ensures.memory;
            sizes = c.answer.ensures.sizes;
          }
      | in-Err b ↦
          let same = b.in-Err.ensures.waits in
          let back = subst (λ (s : Result (Planner g.row.S.Denot) g.row.S-Memory.Denot). IfErr s (λ m. m ≡ c.args.memory)) (sym same.0) inv.back in
          let waits = IfErr-weaker c.answer.new.session _ _ (λ m e. ap g.S.Editable.room_in e) back in
          let waits_fresh = IfErr-weaker c.answer.new.session _ _ (λ m e. (ap g.S.Editable.room_in e, ap g.S.Editable.fresh e)) back in
          rw (b.session-is, b.workspace-is, b.reply-is)
          (turn_from g.row.S-Memory.Denot graph most held fresh laid taken room c.answer.new.session session b.respond-next.result.0
          c.answer.new.workspace c.loop-line.workspace b.respond-next.new.workspace l.text.now b.as_call-reply.result same.0 same.1
          (turn_session g.row.S-Memory.Denot graph most held fresh laid taken room c.answer.new.session b.respond-next.result.0
          c.answer.new.workspace b.respond-next.new.workspace l.text.now b.in-Err.call b.respond-next.result.1 b.as_call-reply.result b.in-Err.ensures.call b.as_call-reply.ensures
          (λ events. b.respond-next.ensures.law room events waits) (b.respond-next.ensures.held room fresh waits_fresh) b.respond-next.ensures.written
          b.respond-next.ensures.back b.respond-next.ensures.edit b.respond-next.ensures.memory b.respond-next.ensures.sizes))
    ] in
    let r = reply_in reply (buffers now) in
    let was = state_reached graph most session in
    let is = state_reached graph most next in
    let holds = HoldsAfter held fresh laid taken session in
    let holds' = HoldsAfter held fresh laid taken next in
    let step = subst (λ (z : Sizes). Step (lent_of room z) was is holds holds' (buffers c.loop-line.workspace) (buffers now) l.text.now r)
    inv.sizes turn.step in
    record {
      so_far = so_far_next (lent_at room c.args.workspace.now) c.args.input.now was is
          c.loop-line.line-iterator l c.next.new.self (buffers c.args.workspace.now) (buffers c.loop-line.workspace) (buffers now)
          (vec_items c.args.out.now) w (vec_items c.write_reply.new.out) r c.in-Some.ensures.steps inv.so_far step
          (c.in_default.ensures.items ∙ ap (λ (x : Reported). w ++ reply_text l.number x) (sym (written_as reply (buffers now))));
      back = back_again next session c.args.memory turn.back inv.back;
      untouched = untouched_next c.args.workspace.now c.loop-line.workspace now inv.untouched turn.untouched;
      memory = same_next c.args.workspace.now c.loop-line.workspace now inv.memory turn.memory;
      sizes = turn.sizes ∙ inv.sizes;
      capacity = omega (arith, inv.capacity, c.in_default.ensures.capacity);
      within = omega (arith, inv.within, c.in_default.ensures.len, short_reply l.number reply, ap length c.in-Some.ensures.steps.0);
    }

-- One line more, whose reply finds no memory.
pub returns-in-Err-write_reply-clause-broken : goal.returns-in-Err-write_reply-clause-broken
returns-in-Err-write_reply-clause-broken g c =
    let room = g.S.Editable.room_in c.args.memory in
    let fresh = g.S.Editable.fresh c.args.memory in
    let graph = g.S.Map.graph in
    let most = g.S.Editable.most in
    let held = g.S.Editable.held in
    let laid = g.S.Editable.with_edge_in in
    let taken = g.S.Editable.without_edge_in in
    let inv = c.loop-line.invariant in
    let l = c.in-Some.line in
    let w = vec_items c.loop-line.out in
    let session = c.loop-line.session in
    let next = c.match-answer.session in
    let now = c.match-answer.workspace in
    let reply = c.match-answer.reply in
    let turn : Turn graph most held fresh laid taken room session next c.loop-line.workspace now l.text.now reply = elim c.match-answer.branch [
      | in-Ok b ↦
          rw (b.session-is, b.workspace-is, b.reply-is)
          record {
            step = record {
              goes = b.in-Ok.ensures.law room;
              leaves = b.in-Ok.ensures.held room fresh;
              fit = b.in-Ok.ensures.reply;
              exact = b.in-Ok.ensures.exact;
              left = b.in-Ok.ensures.left (lent_at room c.loop-line.workspace);
            };
            back = c.answer.ensures.back;
            untouched = c.answer.ensures.untouched;
            memory = c.answer.ensures.memory;
            sizes = c.answer.ensures.sizes;
          }
      | in-Err b ↦
          let same = b.in-Err.ensures.waits in
          let back = subst (λ (s : Result (Planner g.row.S.Denot) g.row.S-Memory.Denot). IfErr s (λ m. m ≡ c.args.memory)) (sym same.0) inv.back in
          let waits = IfErr-weaker c.answer.new.session _ _ (λ m e. ap g.S.Editable.room_in e) back in
          let waits_fresh = IfErr-weaker c.answer.new.session _ _ (λ m e. (ap g.S.Editable.room_in e, ap g.S.Editable.fresh e)) back in
          rw (b.session-is, b.workspace-is, b.reply-is)
          (turn_from g.row.S-Memory.Denot graph most held fresh laid taken room c.answer.new.session session b.respond-next.result.0
          c.answer.new.workspace c.loop-line.workspace b.respond-next.new.workspace l.text.now b.as_call-reply.result same.0 same.1
          (turn_session g.row.S-Memory.Denot graph most held fresh laid taken room c.answer.new.session b.respond-next.result.0
          c.answer.new.workspace b.respond-next.new.workspace l.text.now b.in-Err.call b.respond-next.result.1 b.as_call-reply.result b.in-Err.ensures.call b.as_call-reply.ensures
          (λ events. b.respond-next.ensures.law room events waits) (b.respond-next.ensures.held room fresh waits_fresh) b.respond-next.ensures.written
          b.respond-next.ensures.back b.respond-next.ensures.edit b.respond-next.ensures.memory b.respond-next.ensures.sizes))
    ] in
    let r = reply_in reply (buffers now) in
    let was = state_reached graph most session in
    let is = state_reached graph most next in
    let holds = HoldsAfter held fresh laid taken session in
    let holds' = HoldsAfter held fresh laid taken next in
    let step = subst (λ (z : Sizes). Step (lent_of room z) was is holds holds' (buffers c.loop-line.workspace) (buffers now) l.text.now r)
    inv.sizes turn.step in
    broken_next (lent_at room c.args.workspace.now) c.args.input.now was is
    c.loop-line.line-iterator l c.next.new.self (buffers c.args.workspace.now) (buffers c.loop-line.workspace) (buffers now)
    (vec_items c.args.out.now) w (vec_items c.write_reply.new.out) r c.in-Some.ensures.steps inv.so_far step
    (subst (λ (x : Reported). FrontPut w (reply_text l.number x) (vec_items c.write_reply.new.out)) (sym (written_as reply (buffers now)))
    c.in-Err-write_reply.ensures.failed)
