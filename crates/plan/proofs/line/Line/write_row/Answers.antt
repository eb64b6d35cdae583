use Rattle.std.proofs.Common.{[], ◌∷◌, ◌≡◌, ◌<◌, ◌≤◌, refl, ap, ◌∙◌, arith}
use Rattle.rows.specs.Marks.{marked}
use Rattle.plan.specs.declared.line.Line.{Line}
use Rattle.cuts.specs.declared.edge.Edge.{Edge}
use Rattle.plan.specs.Writing.{placed}
use Rattle.plan.proofs.Cuts.{above, row_start, row_room, row_more, row_all}
use Rattle.plan.proofs.Placing.{written_none, written_all}
use Rattle.plan.proofs.line.Line.write_row.Given as given
use Rattle.plan.proofs.line.Line.write_row.Goals as goal
use Rattle.plan.proofs.line.Line.write_row.Goals.{After-next_across, In-Some}

pub loop-v-init : goal.loop-v-init
loop-v-init g c = (
  refl,
  omega arith,
  omega (arith, c.requires.within),
  refl,
  written_none c.args.cut.now.slots.now c.args.cut.now.slots.now c.args.cut.now.len c.args.cut.now.len _ refl refl (row_start (g.M.Map.graph c.args.self.now.map) (marked c.args.marks.now) c.args.u),
)

-- The map is as it was.
as_first : (g : given.Over) (c : After-next_across g) → g.M.Map.graph c.loop-v.self.map ≡ g.M.Map.graph c.args.self.now.map
as_first g c = ap (λ (s : Line g.row.M.Denot). g.M.Map.graph s.map) c.loop-v.invariant.0

-- The next neighbour across is a vertex further on.
next_one : (g : given.Over) (c : In-Some g) → (c.loop-v.w ≤ c.in-Some.v) × (c.in-Some.v < (g.M.Map.graph c.args.self.now.map).order)
next_one g c =
    above (g.M.Map.graph c.args.self.now.map) (g.M.Map.graph c.loop-v.self.map) (marked c.args.marks.now) c.args.u
    c.loop-v.w c.in-Some.v c.args.cut.now.slots.now c.loop-v.cut.slots.now c.args.cut.now.len c.loop-v.cut.len
    c.loop-v.invariant.1 (as_first g (goal.at.In-Some g c).After-next_across) c.requires.room c.loop-v.invariant.4 c.in-Some.ensures.value

-- Room for the row is room for each edge of it.
pub push-requires : goal.push-requires
push-requires g c =
    row_room (g.M.Map.graph c.args.self.now.map) (g.M.Map.graph c.loop-v.self.map) (marked c.args.marks.now) c.args.u
    c.loop-v.w c.in-Some.v c.args.cut.now.slots.now c.loop-v.cut.slots.now c.args.cut.now.len c.loop-v.cut.len
    c.loop-v.invariant.1 (as_first g (goal.at.push-requires g c).After-next_across) c.requires.room c.loop-v.invariant.4 c.in-Some.ensures.value

pub overflow_add-w-in-Some : goal.overflow_add-w-in-Some
overflow_add-w-in-Some g c = omega (arith, (next_one g (goal.at.overflow_add-w-in-Some g c).In-Some).1, c.requires.order, c.ranges.n.fits)

pub loop-v-smaller : goal.loop-v-smaller
loop-v-smaller g c =
    let f = next_one g (goal.at.loop-v-smaller g c).In-Some in
    omega (arith, f.0, f.1, c.requires.order)

pub loop-v-preserved : goal.loop-v-preserved
loop-v-preserved g c =
    let at = goal.at.loop-v-preserved g c in
    let f = next_one g at.In-Some in (
      c.in-Some.ensures.same ∙ c.loop-v.invariant.0,
      omega (arith, f.0, c.loop-v.invariant.1),
      omega (arith, f.1, c.requires.order),
      c.push.ensures.same_reference ∙ c.loop-v.invariant.3,
      row_more (g.M.Map.graph c.args.self.now.map) (g.M.Map.graph c.loop-v.self.map) (marked c.args.marks.now) c.args.u
          c.loop-v.w c.in-Some.v c.args.cut.now.slots.now c.loop-v.cut.slots.now c.args.cut.now.len c.loop-v.cut.len
          c.loop-v.invariant.1 (as_first g at.After-next_across) c.requires.room c.loop-v.invariant.4 c.in-Some.ensures.value
          c.push.new.self.slots.now c.push.new.self.len c.push.ensures.next
          (c.push.ensures.items ∙ ap (λ (e : Edge). placed c.loop-v.cut.len (e ∷ []) c.loop-v.cut.slots.now) c.edge_up.ensures),
    )

pub returns : goal.returns
returns g c =
    let m = g.M.Map.graph c.args.self.now.map in
    let all = row_all m (g.M.Map.graph c.loop-v.self.map) (marked c.args.marks.now) c.args.u c.loop-v.w
    (as_first g (goal.at.returns g c).After-next_across) (omega (arith, c.requires.order, c.loop-v.invariant.2)) c.in_default.ensures.value in
    let w = written_all c.args.cut.now.slots.now c.loop-v.cut.slots.now _ _ all c.args.cut.now.len c.loop-v.cut.len c.loop-v.invariant.4 in
    record { next = w.0; items = w.1; same = c.in_default.ensures.same ∙ c.loop-v.invariant.0; same_reference = c.loop-v.invariant.3 }
