use Rattle.std.proofs.Common.{sym, arith}
use Rattle.graph.proofs.Firsts.{first_some}
use Rattle.search.proofs.goal.leads_on.Goals as goal

-- The open node is a node of the plan.
pub note-requires : goal.note-requires
note-requires g c =
    let f = first_some _ _ (g.P.Plan.digraph c.args.plan.now).nodes c.in-Some.r (sym c.in-Some.ensures.value) in
    omega (arith, f.below, g.P.Plan.small c.args.plan.now)
