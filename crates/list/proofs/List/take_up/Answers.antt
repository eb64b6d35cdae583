use Rattle.std.proofs.Common.{◌≡◌, ℕ, ◌-◌, ◌<◌, List, get_or, arith}
use borrow.Rule.Slice.PartMut.{put_mid, mid_len}
use Rattle.list.specs.Cells.{removed_cells}
use Rattle.list.specs.Meaning.{codes_of}
use Rattle.list.proofs.Shifts.{removed_by_move}
use Rattle.list.proofs.Changes.{Sought, kept_of, standing, removed_value, removed_size, removed_graph, removed_kept}
use Rattle.list.proofs.List.take_up.Goals as goal
use Rattle.list.proofs.List.take_up.Goals.{After-seek-at, After-move_out}

-- The two vertices and the place of their number.
sought : (c : After-seek-at) → Sought c.args.self.now.n c.args.self.now.count (codes_of c.args.self.now) c.args.u c.args.v c.edge_code.result c.seek-at.result
sought c =
    let ends = c.requires.ends in
    let p = c.seek-at.ensures in
    record { first = ends.0; second = ends.1.0; differ = ends.1.1; number = c.edge_code.ensures; value = p.value; bound = p.bound; below = p.below; above = p.above }

-- The number stands at its place.
stands : (c : After-seek-at) → (c.seek-at.result < c.args.self.now.count) × (get_or (codes_of c.args.self.now) c.seek-at.result 0 ≡ c.edge_code.result)
stands c = standing _ _ _ _ _ _ _ (kept_of c.args.self.now) (sought c) c.requires.joined

-- The cells after the move.
abbrev after : After-move_out → List ℕ
after c =
    let s = c.args.self.now in
    put_mid c.seek-at.result (s.count - c.seek-at.result) (codes_of s) c.move_out.new.cells

-- They lack the number.
taken_out : (c : After-move_out) → c.seek-at.result < c.args.self.now.count → after c ≡ removed_cells (codes_of c.args.self.now) c.args.self.now.count c.seek-at.result
taken_out c l = removed_by_move _ c.move_out.new.cells _ _ l c.args.self.now.fits c.move_out.auto.cells c.move_out.ensures.moved c.move_out.ensures.freed

pub move_out-requires : goal.move_out-requires
move_out-requires c =
    let there = stands (goal.at.move_out-requires c).After-seek-at in
    omega (arith, there.0, mid_len c.seek-at.result _ _ c.args.self.now.fits)

pub invariant_of-self : goal.invariant_of-self
invariant_of-self c =
    let s = c.args.self.now in
    let a = (goal.at.invariant_of-self c).After-move_out in
    let q = (goal.at.invariant_of-self c).After-seek-at in
    let there = stands q in
    let k = removed_kept _ _ _ _ _ _ _ (kept_of s) (sought q) (after a) there.0 there.1 c.requires.joined (taken_out a there.0) in
    record { some = k.some; small = s.small; fits = k.fits; rising = k.rising; tally = k.tally; listed = k.listed }

pub returns : goal.returns
returns c =
    let s = c.args.self.now in
    let a = (goal.at.returns c).After-move_out in
    let b = (goal.at.returns c).After-seek-at in
    let q = sought b in
    let there = stands b in
    let e = taken_out a there.0 in
    record {
      graph = removed_graph _ _ _ _ _ _ _ (kept_of s) q (after a) there.0 there.1 e;
      most = removed_size _ _ _ _ _ _ _ (kept_of s) q (after a) there.0 e;
      cells = removed_value _ _ _ _ _ _ _ (kept_of s) q (after a) e;
    }
