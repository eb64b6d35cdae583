use Rattle.std.proofs.Common.{refl}
use Rattle.graph.specs.Graph.{order_limit}
use Rattle.graph.proofs.Edges.{edges_none}
use Rattle.strike.proofs.marks.Marks.none.Goals as goal

pub invariant_of-result : goal.invariant_of-result
invariant_of-result c = record { counted = rw c.new.ensures (edges_none order_limit _ (λ _ _. refl)) }
