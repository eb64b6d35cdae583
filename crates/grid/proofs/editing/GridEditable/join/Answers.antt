use Rattle.std.proofs.Common.{◌≡◌, ◌*◌, ◌≤◌, length, false, Ok, sym, ap, ◌∙◌, arith}
use Rattle.graph.specs.Graph.{with_edge}
use Rattle.store.proofs.Ends.{ends_passed}
use Rattle.grid.specs.Rows.{few_vertices}
use Rattle.grid.specs.Meaning.{graph_of, capacity_of}
use Rattle.grid.specs.declared.Grid.{Grid}
use Rattle.store.proofs.Accepted.{join_accepted}
use Rattle.grid.proofs.Changes.{grid_put, put_simple}
use Rattle.grid.proofs.Replies.{join_laid, pairs_free}
use Rattle.grid.proofs.Whole.{simple_of}
use Rattle.grid.proofs.editing.GridEditable.join.Goals as goal

pub returns-clause-reply : goal.returns-clause-reply
returns-clause-reply c =
    let s = c.args.self.now in
    let u = c.args.u in
    let v = c.args.v in
    let ends = ends_passed s.n u v c.in_ok-check_ends.ensures in
    let off : (graph_of s).joined u v ≡ false = sym c.has.ensures.value ∙ c.if-has.false in
    join_laid (graph_of s) (capacity_of s) u v ends.0 ends.1 ends.2 off (pairs_free (graph_of s) (simple_of s) u v ends.0 ends.1 ends.2 off)

pub returns-clause-after : goal.returns-clause-after
returns-clause-after c =
    let s = c.args.self.now in
    let u = c.args.u in
    let v = c.args.v in
    let ends = ends_passed s.n u v c.in_ok-check_ends.ensures in
    let t = c.has.new.self in
    let order = ap (λ (x : Grid). x.n) c.has.ensures.same in
    grid_put t.n u v t.words.now c.set_edge.new.words (few_vertices t.n t.small) (omega (arith, order, ends.0)) (omega (arith, order, ends.1)) c.set_edge.ensures.bits
    ∙ ap (λ (x : Grid). with_edge (graph_of x) u v) c.has.ensures.same

pub returns-clause-accepted : goal.returns-clause-accepted
returns-clause-accepted c =
    let s = c.args.self.now in
    join_accepted (Ok tt) (graph_of s) (capacity_of s) c.args.u c.args.v (returns-clause-reply c)

pub invariant_of-self : goal.invariant_of-self
invariant_of-self c =
    let s = c.args.self.now in
    let u = c.args.u in
    let v = c.args.v in
    let ends = ends_passed s.n u v c.in_ok-check_ends.ensures in
    let t = c.has.new.self in
    let order = ap (λ (x : Grid). x.n) c.has.ensures.same in
    let simple = put_simple t.n u v t.words.now c.set_edge.new.words (simple_of t) (omega (arith, order, ends.0)) (omega (arith, order, ends.1)) ends.2 c.set_edge.ensures.bits in
    let room : 4 * t.n ≤ length c.set_edge.new.words = omega (arith, c.set_edge.auto.words, t.room) in
    record { some = simple.some; small = t.small; room = room; even = simple.symmetric; loose = simple.irreflexive; within = simple.bounded }
