use Rattle.std.proofs.Common.{List, [], subst, sym, ap, refl, take}
use Rattle.std.proofs.lemmas.Result.{IfErr-weaker}
use Rattle.model.specs.Model.{unmade}
use Rattle.law.specs.Law.{Event, Sound}
use Rattle.law.proofs.Events.{not_begun_lem}
use Rattle.session.specs.Kept.{state_reached}
use Rattle.session.specs.Held.{held_through, Holds}
use Rattle.session.specs.Script.{events_of}
use Rattle.session.proofs.Held.{held_more}
use Rattle.session.proofs.Scripts.{events_next, written_next, rest_next, back_again}
use Rattle.session.proofs.script.play.Goals as goal

-- No call is made yet.
pub loop-asked-init : goal.loop-asked-init
loop-asked-init g c = record { law = not_begun_lem; held = tt; written = tt; rest = refl; back = refl }

-- One call more.
pub loop-asked-preserved : goal.loop-asked-preserved
loop-asked-preserved g c =
    let room = g.S.Editable.room_in c.args.memory in
    let os = c.args.script.now in
    let bs = c.loop-asked.script in
    let k = c.loop-asked.asked-index in
    let b = c.play_one-session.new.asked in
    let here = c.loop-asked-test.true in
    let long = c.loop-asked.auto.script in
    let inv = c.loop-asked.invariant in
    let waits = IfErr-weaker c.loop-asked.session _ _ (λ m e. ap g.S.Editable.room_in e) inv.back in
    let waits_fresh = IfErr-weaker c.loop-asked.session _ _ (λ m e. (ap g.S.Editable.room_in e, ap g.S.Editable.fresh e)) inv.back in
    let fresh = g.S.Editable.fresh c.args.memory in
    let laid = g.S.Editable.with_edge_in in
    let taken = g.S.Editable.without_edge_in in
    let so_far = events_of room (take k os) (take k bs) in
    let one_more = sym (events_next room os bs k _ b here long inv.rest) in
    record {
      law = subst (λ (es : List Event). Sound es (state_reached g.S.Map.graph g.S.Editable.most c.play_one-session.result))
          one_more (c.play_one-session.ensures.law room so_far waits inv.law);
      held = subst (λ (es : List Event). Holds g.S.Editable.held c.play_one-session.result (held_through fresh laid taken unmade es []))
          one_more (held_more fresh laid taken g.S.Editable.held c.play_one-session.result (state_reached g.S.Map.graph g.S.Editable.most c.loop-asked.session)
          so_far _ [] inv.law (c.play_one-session.ensures.held room fresh waits_fresh _ inv.held));
      written = written_next os bs k _ b here long inv.rest inv.written c.play_one-session.ensures.answered;
      rest = rest_next os bs k b here long inv.rest;
      back = back_again c.play_one-session.result c.loop-asked.session c.args.memory c.play_one-session.ensures.back inv.back;
    }
