use Rattle.std.proofs.Common.{sym, ◌∙◌}
use Rattle.graph.proofs.Firsts.{first_found}
use Rattle.graph.proofs.Leaps.{scan_none}
use Rattle.rows.specs.Flow.{carried}
use Rattle.routes.proofs.route.next_head.Goals as goal

pub returns-then-carries : goal.returns-then-carries
returns-then-carries c =
    let s = c.loop-q.invariant in
    first_found (carried c.args.flow.now c.args.p) c.args.w c.loop-q.q c.args.n s.from c.loop-q-test.true s.none (sym c.carries.ensures ∙ c.if-carries.true)

pub returns : goal.returns
returns c = scan_none c.args.n c.loop-q.invariant c.loop-q-test.false
