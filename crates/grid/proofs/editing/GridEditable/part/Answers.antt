use Rattle.std.proofs.Common.{◌*◌, ◌≤◌, length, ap, ◌∙◌, arith}
use Rattle.graph.specs.Graph.{without_edge}
use Rattle.grid.specs.Meaning.{graph_of}
use Rattle.grid.specs.declared.Grid.{Grid}
use Rattle.grid.proofs.Changes.{grid_cut, cut_simple}
use Rattle.grid.proofs.Whole.{simple_of}
use Rattle.grid.proofs.editing.GridEditable.part.Goals as goal

pub returns-clause-after : goal.returns-clause-after
returns-clause-after c =
    let t = c.has.new.self in
    grid_cut t.n c.args.u c.args.v t.words.now c.set_edge.new.words c.set_edge.ensures.bits
    ∙ ap (λ (x : Grid). without_edge (graph_of x) c.args.u c.args.v) c.has.ensures.same

pub invariant_of-self : goal.invariant_of-self
invariant_of-self c =
    let t = c.has.new.self in
    let simple = cut_simple t.n c.args.u c.args.v t.words.now c.set_edge.new.words (simple_of t) c.set_edge.ensures.bits in
    let room : 4 * t.n ≤ length c.set_edge.new.words = omega (arith, c.set_edge.auto.words, t.room) in
    record { some = simple.some; small = t.small; room = room; even = simple.symmetric; loose = simple.irreflexive; within = simple.bounded }
