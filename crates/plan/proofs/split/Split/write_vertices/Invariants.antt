-- What is written so far is what the vertices passed give.
use Rattle.std.proofs.Common.{◌≡◌}
use Rattle.rows.specs.Marks.{marked}
use Rattle.plan.proofs.Cuts.{vertices_at}
use Rattle.plan.proofs.Placing.{gathered, Written}
use Rattle.plan.proofs.split.Split.write_vertices.Given as goal

abbrev pub invariant-loop-v : goal.invariant-loop-v
invariant-loop-v g l =
    (l.self ≡ l.initial.self)
    × (l.cut.slots.ghost_name ≡ l.initial.cut.slots.ghost_name)
    × Written l.initial.cut.slots.now l.cut.slots.now l.initial.cut.len l.cut.len (gathered (vertices_at (g.M.Map.graph l.initial.self.map) l.from (marked l.marks)) l.v)
