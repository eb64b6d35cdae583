use Rattle.std.proofs.Common.{◌++◌, ◌∷◌, [], subst}
use Rattle.model.specs.Model.{Room, unmade}
use Rattle.workspace.specs.Parts.{buffers, sizes_of}
use Rattle.law.specs.Law.{Right, event, Sound}
use Rattle.law.proofs.Events.{one_more_lem}
use Rattle.session.specs.Kept.{state_reached}
use Rattle.session.specs.Calls.{lent_at, said_in}
use Rattle.session.proofs.script.respond.Goals as goal

-- Where a planner stands, `perform` says it.
pub returns-in-Ok-clause-right : goal.returns-in-Ok-clause-right
returns-in-Ok-clause-right g c room waits = rw c.in-Ok.is (c.perform-reply.ensures.right room)

pub returns-in-Ok-clause-after : goal.returns-in-Ok-clause-after
returns-in-Ok-clause-after g c room waits = rw c.in-Ok.is (c.perform-reply.ensures.after room)

-- Where memory waits, `begin` says it, of the room that is in that memory.
pub returns-in-Err-clause-right : goal.returns-in-Err-clause-right
returns-in-Err-clause-right g c room waits =
    let w = c.args.workspace.now in
    let same = rw c.in-Err.is at waits in
    rw c.in-Err.is
    (subst (λ (r : Room). Right (lent_at r w) unmade c.args.call (said_in c.begin.result.1 w)) same (c.begin.ensures.right (sizes_of w) (buffers w)))

pub returns-in-Err-clause-law : goal.returns-in-Err-clause-law
returns-in-Err-clause-law g c room events waits sound =
    let w = c.args.workspace.now in
    let same = rw c.in-Err.is at waits in
    subst (λ (r : Room). Sound (events ++ (event (lent_at r w) c.args.call (said_in c.begin.result.1 w) ∷ [])) (state_reached g.S.Map.graph g.S.Editable.most c.begin.result.0)) same
    (one_more_lem events unmade _ (lent_at (g.S.Editable.room_in c.in-Err.memory) w) c.args.call (said_in c.begin.result.1 w)
    (rw c.in-Err.is at sound) (c.begin.ensures.right (sizes_of w) (buffers w)) (c.begin.ensures.after (sizes_of w)))
