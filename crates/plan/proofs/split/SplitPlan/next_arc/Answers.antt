use Rattle.std.proofs.Common.{ap, ◌∙◌}
use Rattle.graph.specs.Graph.{next}
use Rattle.plan.specs.Nodes.{edges_out}
use Rattle.plan.proofs.Arcs.{next_by_edges}
use Rattle.plan.proofs.split.SplitPlan.next_arc.Goals as goal

-- Where edges lead out, what the map below answers is asked for.
pub returns-in-Some-clause-value : goal.returns-in-Some-clause-value
returns-in-Some-clause-value g c =
    let s = c.args.self.now in
    let out = c.in-Some.ensures ∙ ap (λ n. edges_out n s.a s.b c.args.p) c.order-n.ensures.value in
    c.next.ensures.value
    ∙ ap (λ m. next (g.M.Map.graph m) c.in-Some.u c.args.w) c.order-n.ensures.same
    ∙ next_by_edges (g.M.Map.graph s.map) s.a s.b c.args.p c.args.w (g.M.Map.simple s.map) c.in-Some.u out
