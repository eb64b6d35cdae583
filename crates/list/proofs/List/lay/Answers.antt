use Rattle.std.proofs.Common.{◌≡◌, ℕ, ◌+◌, ◌-◌, List}
use borrow.Rule.Slice.PartMut.{put_mid}
use Rattle.list.specs.Cells.{inserted_cells}
use Rattle.list.specs.Meaning.{codes_of}
use Rattle.list.proofs.Shifts.{inserted_by_move}
use Rattle.list.proofs.Changes.{Sought, kept_of, inserted_value, inserted_size, inserted_graph, inserted_kept}
use Rattle.list.proofs.List.lay.Goals as goal
use Rattle.list.proofs.List.lay.Goals.{After-seek-at, After-move_in}

-- The two vertices and the place of their number.
sought : (c : After-seek-at) → Sought c.args.self.now.n c.args.self.now.count (codes_of c.args.self.now) c.args.u c.args.v c.edge_code-c.result c.seek-at.result
sought c =
    let ends = c.requires.ends in
    let p = c.seek-at.ensures in
    record { first = ends.0; second = ends.1.0; differ = ends.1.1; number = c.edge_code-c.ensures; value = p.value; bound = p.bound; below = p.below; above = p.above }

-- The cells after the move.
abbrev after : After-move_in → List ℕ
after c =
    let s = c.args.self.now in
    put_mid c.seek-at.result (s.count + 1 - c.seek-at.result) (codes_of s) c.move_in.new.cells

-- They have the number put in.
put_in : (c : After-move_in) → after c ≡ inserted_cells (codes_of c.args.self.now) c.args.self.now.count c.seek-at.result c.edge_code-c.result
put_in c = inserted_by_move _ c.move_in.new.cells _ _ _ c.seek-at.ensures.bound c.requires.room c.move_in.auto.cells c.move_in.ensures.first c.move_in.ensures.moved

pub invariant_of-self : goal.invariant_of-self
invariant_of-self c =
    let s = c.args.self.now in
    let a = (goal.at.invariant_of-self c).After-move_in in
    let k = inserted_kept _ _ _ _ _ _ _ (kept_of s) (sought (goal.at.invariant_of-self c).After-seek-at) (after a) c.requires.room c.requires.apart (put_in a) in
    record { some = k.some; small = s.small; fits = k.fits; rising = k.rising; tally = k.tally; listed = k.listed }

pub returns : goal.returns
returns c =
    let s = c.args.self.now in
    let a = (goal.at.returns c).After-move_in in
    let q = sought (goal.at.returns c).After-seek-at in
    record {
      graph = inserted_graph _ _ _ _ _ _ _ (kept_of s) q (after a) c.requires.room (put_in a);
      most = inserted_size _ _ _ _ _ _ _ (kept_of s) q (after a) c.requires.room (put_in a);
      cells = inserted_value _ _ _ _ _ _ _ (kept_of s) q (after a) (put_in a);
    }
