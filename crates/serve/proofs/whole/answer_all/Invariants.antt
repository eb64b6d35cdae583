use Rattle.std.proofs.Common.{◌≡◌, ◌+◌, ◌*◌, ◌≤◌, length, IfErr, vec_items, vec_len, vec_capacity}
use Rattle.workspace.specs.Parts.{buffers, sizes_of, SameMemory, Untouched}
use Rattle.session.specs.Kept.{state_reached}
use Rattle.session.specs.Held.{HoldsAfter}
use Rattle.session.specs.Calls.{lent_at}
use Rattle.serve.specs.Served.{reply_limit, text_limit}
use Rattle.serve.specs.Progress.{left, SoFar}
use Rattle.serve.proofs.whole.answer_all.Given as goal

-- The lines so far are answered, in memory that is lent as before; text is left room for that was there.
abbrev pub invariant-loop-line : goal.invariant-loop-line
invariant-loop-line g l = record {
  so_far : SoFar (lent_at (g.S.Editable.room_in l.fn.memory) l.initial.workspace) l.input l.line-iterator
      (HoldsAfter g.S.Editable.held (g.S.Editable.fresh l.fn.memory) g.S.Editable.with_edge_in g.S.Editable.without_edge_in l.session)
      (state_reached g.S.Map.graph g.S.Editable.most l.session) (buffers l.initial.workspace) (buffers l.workspace)
      (vec_items l.initial.out) (vec_items l.out);
  back : IfErr l.session (λ m. m ≡ l.fn.memory);
  untouched : Untouched l.initial.workspace l.workspace;
  memory : SameMemory l.initial.workspace l.workspace;
  sizes : sizes_of l.workspace ≡ sizes_of l.initial.workspace;
  capacity : vec_capacity l.initial.out ≤ vec_capacity l.out;
  within : vec_len l.out + reply_limit * length (left l.line-iterator) ≤ vec_len l.initial.out + text_limit l.input;
}
