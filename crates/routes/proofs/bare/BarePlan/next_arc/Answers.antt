use Rattle.std.proofs.Common.{false, refl}
use Rattle.graph.proofs.Firsts.{first_missing}
use Rattle.routes.proofs.bare.BarePlan.next_arc.Goals as goal

-- No arc is found.
pub returns-clause-value : goal.returns-clause-value
returns-clause-value c = first_missing (λ q. false) c.args._w c.args.self.now.nodes (λ k _ _. refl)
