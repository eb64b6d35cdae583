use Rattle.std.proofs.Common.{ap, ◌∙◌}
use Rattle.rows.specs.Marks.{marked}
use Rattle.store.specs.Outside.{next_outside}
use Rattle.plan.specs.Nodes.{edges_out}
use Rattle.plan.proofs.Arcs.{outside_by_edges}
use Rattle.plan.proofs.split.SplitPlan.arc_outside.Goals as goal

-- Where edges lead out, what the map below answers is asked for.
pub returns-in-Some-clause-value : goal.returns-in-Some-clause-value
returns-in-Some-clause-value g c =
    let s = c.args.self.now in
    let m = marked c.args.set.now in
    let out = c.in-Some.ensures ∙ ap (λ n. edges_out n s.a s.b c.args.p) c.order-n.ensures.value in
    c.next_outside.ensures.value
    ∙ ap (λ x. next_outside (g.M.Map.graph x) m c.in-Some.u c.args.w) c.order-n.ensures.same
    ∙ outside_by_edges (g.M.Map.graph s.map) s.a s.b c.args.p c.args.w (g.M.Map.simple s.map) c.in-Some.u out m
