use Rattle.graph.proofs.Firsts.{first_missing}
use Rattle.rows.specs.Layout.{set_limit}
use Rattle.rows.specs.Flow.{carried}
use Rattle.rows.proofs.Heads.{head_past}
use Rattle.rows.proofs.flow.Arcs.next_tail.Goals as goal

pub returns-else-p-self : goal.returns-else-p-self
returns-else-p-self c =
    let arcs = c.args.self.now in
    let p = c.args.p in
    first_missing (λ q. carried arcs q p) c.args.w set_limit (λ k low high. head_past arcs k p c.if-p-self.false)
