use Rattle.std.proofs.Common.{◌≡◌, Some, arith}
use Rattle.std.specs.List.{position}
use Rattle.graph.specs.Graph.{order_limit}
use Rattle.graph.proofs.Edges.{edges_removed}
use Rattle.strike.specs.Struck.{listed, listed_swap}
use Rattle.strike.proofs.Pairs.{is_edge, listed_found, cleared}
use Rattle.strike.proofs.marks.Marks.clear.Goals as goal

-- A listed edge is found.
pub unwrap-at-requires : goal.unwrap-at-requires
unwrap-at-requires c =
    rw (c.find_pair.ensures, c.as_slice.ensures.value) (listed_found c.args.self.now.pairs.items c.args.u c.args.v c.requires.there)

-- One pair less is one edge less.
pub invariant_of-self : goal.invariant_of-self
invariant_of-self c =
    let s = c.args.self.now in
    let ends = c.requires.ends in
    let place : position (is_edge c.args.u c.args.v) s.pairs.items ≡ Some c.unwrap-at.result = cc in
    let left = c.swap_remove.ensures in
    let rest = cleared s.pairs.items c.swap_remove.new.self.items c.swap_remove.result c.unwrap-at.result c.args.u c.args.v place left.value left.items left.len s.counted in
    let fewer = edges_removed order_limit (listed s.pairs.items) c.args.u c.args.v ends.0 ends.1.0 ends.1.1 (listed_swap s.pairs.items) c.requires.there in
    record { counted = rw rest (omega (arith, fewer, s.counted, left.len)) }

-- The pairs without the found one list every other edge.
pub returns : goal.returns
returns c =
    let s = c.args.self.now in
    let place : position (is_edge c.args.u c.args.v) s.pairs.items ≡ Some c.unwrap-at.result = cc in
    let left = c.swap_remove.ensures in
    cleared s.pairs.items c.swap_remove.new.self.items c.swap_remove.result c.unwrap-at.result c.args.u c.args.v place left.value left.items left.len s.counted
