use Rattle.std.proofs.Common.{◌≡◌, [], IfErr, take, drop}
use Rattle.model.specs.Model.{unmade}
use Rattle.law.specs.Law.{Sound}
use Rattle.session.specs.Kept.{state_reached}
use Rattle.session.specs.Held.{held_through, Holds}
use Rattle.session.specs.Script.{events_of, WrittenOnly}
use Rattle.session.proofs.script.play.Given as goal

-- The calls so far are a sound session's, left in the memory what they leave there, and wrote no more
-- than they told; those to come stand as they stood; and memory that waits still is what it was.
abbrev pub invariant-loop-asked : goal.invariant-loop-asked
invariant-loop-asked g l = record {
  law : Sound (events_of (g.S.Editable.room_in l.fn.memory) (take l.asked-index l.fn.script) (take l.asked-index l.script)) (state_reached g.S.Map.graph g.S.Editable.most l.session);
  held : Holds g.S.Editable.held l.session (held_through (g.S.Editable.fresh l.fn.memory) g.S.Editable.with_edge_in g.S.Editable.without_edge_in unmade
      (events_of (g.S.Editable.room_in l.fn.memory) (take l.asked-index l.fn.script) (take l.asked-index l.script)) []);
  written : WrittenOnly (take l.asked-index l.fn.script) (take l.asked-index l.script);
  rest : drop l.asked-index l.script ≡ drop l.asked-index l.fn.script;
  back : IfErr l.session (λ m. m ≡ l.fn.memory);
}
