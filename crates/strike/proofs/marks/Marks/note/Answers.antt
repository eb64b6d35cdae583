use Rattle.std.proofs.Common.{◌∙◌, arith, length-append}
use Rattle.graph.specs.Graph.{order_limit}
use Rattle.graph.proofs.Edges.{edges_added}
use Rattle.strike.specs.Struck.{listed, listed_swap}
use Rattle.strike.proofs.Pairs.{listed_push}
use Rattle.strike.proofs.marks.Marks.note.Goals as goal

-- One pair more is one edge more.
pub invariant_of-self : goal.invariant_of-self
invariant_of-self c =
    let s = c.args.self.now in
    let ends = c.requires.ends in
    let off = c.requires.fresh in
    let more = edges_added order_limit (listed s.pairs.items) c.args.u c.args.v ends.0 ends.1.0 ends.1.1 off (listed_swap s.pairs.items c.args.v c.args.u ∙ off) in
    record { counted = rw (c.push.ensures.items, listed_push, length-append) (omega (arith, more, s.counted)) }
