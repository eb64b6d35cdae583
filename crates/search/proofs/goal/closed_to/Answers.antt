use Rattle.rows.specs.Marks.{marked}
use Rattle.search.proofs.Finds.{closed_from}
use Rattle.search.proofs.goal.closed_to.Goals as goal

-- So the closed nodes are.
pub returns-clause-closed : goal.returns-clause-closed
returns-clause-closed g c = closed_from (g.F.Carries.arcs c.args.flow.now) c.args.t (marked c.args.far.now) (marked c.with_tails.result) c.with_tails.ensures
