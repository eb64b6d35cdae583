use Rattle.law.proofs.Events.{one_more_lem}
use Rattle.session.specs.Calls.{lent_at, said_in}
use Rattle.session.proofs.calls.perform.Goals as goal

-- A call that is answered and followed as the law says keeps a sound session sound.
pub returns-clause-law : goal.returns-clause-law
returns-clause-law g c room events sound =
    one_more_lem events _ _ (lent_at room c.args.workspace.now) c.args.call (said_in c.act.result c.act.new.workspace)
    sound (c.act.ensures.right room) (c.act.ensures.after room)
