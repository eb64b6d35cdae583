use Rattle.std.proofs.Common.{◌≡◌, Ok, sym, ap, ◌∙◌}
use Rattle.workspace.specs.Parts.{buffers}
use Rattle.strike.specs.Kept.{memory_after}
use Rattle.frames.specs.Frames.{request}
use Rattle.session.specs.Kept.{model_of, state_of}
use Rattle.session.specs.Calls.{lent_at}
use Rattle.serve.proofs.Turns.{step_call, left_call}
use Rattle.serve.proofs.line.answer.Goals as goal

-- The memory under the store holds what the call's one event leaves in it.
pub returns-in-Ok-session-clause-held : goal.returns-in-Ok-session-clause-held
returns-in-Ok-session-clause-held g c room fresh events sound held =
    let graph = g.S.Map.graph in
    let most = g.S.Editable.most in
    let laid = g.S.Editable.with_edge_in in
    let taken = g.S.Editable.without_edge_in in
    let call = c.in-Ok.call in
    let p = c.in-Ok-session.planner in
    let p' = c.perform.new.planner in
    let asks : request c.args.line.now ≡ Ok call = sym c.read_call.ensures ∙ c.in-Ok.is in
    let step = step_call {M = g.row.S-Memory.Denot} g.S.Editable.held fresh laid taken (lent_at room c.args.workspace.now) (Ok p) (Ok p')
    (state_of graph most p) (state_of graph most p')
    c.args.line.now call c.perform.result c.as_call.result (buffers c.args.workspace.now) (buffers c.perform.new.workspace) asks c.as_call.ensures
    (c.perform.ensures.law room) (λ xs holds. c.perform.ensures.held ∙ ap (memory_after laid taken (model_of graph most p) call) holds)
    c.perform.ensures.written in
    step.leaves events (rw c.in-Ok-session.is at sound) (rw c.in-Ok-session.is at held)

-- What the call told is left in the buffers.
pub returns-in-Ok-session-clause-left : goal.returns-in-Ok-session-clause-left
returns-in-Ok-session-clause-left g c lent =
    let asks : request c.args.line.now ≡ Ok c.in-Ok.call = sym c.read_call.ensures ∙ c.in-Ok.is in
    left_call lent c.args.line.now c.in-Ok.call c.perform.result c.as_call.result (buffers c.args.workspace.now) (buffers c.perform.new.workspace)
    asks c.as_call.ensures c.perform.ensures.written
