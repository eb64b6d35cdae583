use Rattle.std.proofs.Common.{[], ◌∷◌, Ok, sym, subst}
use Rattle.std.proofs.lemmas.Result.{IfOk-weaker}
use Rattle.model.specs.Model.{Model, made}
use Rattle.model.specs.Table.{alone}
use Rattle.model.specs.declared.call.Answer.TheVariants as answer
use Rattle.model.specs.declared.call.Call.TheVariants.{Make}
use Rattle.law.specs.Told.{plain}
use Rattle.law.specs.Law.{event, Sound}
use Rattle.law.proofs.Events.{begun_lem}
use Rattle.session.proofs.planner.Planner.open.Goals as goal

-- Where a make is accepted, it begins a session.
pub returns-clause-opened : goal.returns-clause-opened
returns-clause-opened g c =
    let lent = alone (g.S.Editable.room_in c.args.memory) in
    let one = event lent (Make c.args.n) (Ok (plain answer.Made)) ∷ [] in
    IfOk-weaker c.make_if_room.result _ _
    (λ p h. (h, subst (λ (m : Model). Sound one (made m)) (sym h.1) (begun_lem lent c.args.n h.0)))
    c.make_if_room.ensures.accepted
