use Rattle.std.proofs.Common.{◌≡◌, length, sym, refl, ap, ◌∙◌, arith}
use Rattle.graph.specs.Graph.{Graph}
use Rattle.rows.specs.Marks.{marked}
use Rattle.plan.specs.declared.line.Line.{Line}
use Rattle.plan.specs.Writing.{crossing_row}
use Rattle.plan.proofs.Cuts.{edges_fit, edges_all}
use Rattle.plan.proofs.Placing.{gathered_none, written_none, written_room, written_more, written_all}
use Rattle.plan.proofs.line.Line.write_rows.Goals as goal

pub loop-u-init : goal.loop-u-init
loop-u-init g c = (refl, refl, written_none c.args.cut.now.slots.now c.args.cut.now.slots.now c.args.cut.now.len c.args.cut.now.len _ refl refl (gathered_none _ 0 (λ i l. absurd (omega arith))))

-- Room for the cut is room for each row of it.
pub write_row-requires : goal.write_row-requires
write_row-requires g c =
    let m = g.M.Map.graph c.order-n.new.self in
    let u = marked c.args.marks.now in
    let p = c.loop-u.u in
    let first = ap g.M.Map.graph c.order-n.ensures.same in
    let now_too = ap (λ (s : Line g.row.M.Denot). g.M.Map.graph s.map) c.loop-u.invariant.0 in
    let order = c.order-n.ensures.value ∙ ap (λ (h : Graph). h.order) (sym first) in
    record {
      order = order ∙ ap (λ (h : Graph). h.order) (sym now_too);
      within = c.loop-u-test.true;
      room = written_room c.args.cut.now.slots.now c.loop-u.cut.slots.now c.args.cut.now.len c.loop-u.cut.len (crossing_row m u) m.order p
          (omega (arith, order)) (edges_fit m _ u c.args.cut.now.len (length c.args.cut.now.slots.now) first c.requires) c.loop-u.invariant.2 _
          (ap (λ (h : Graph). crossing_row h u p) now_too);
    }

pub loop-u-preserved : goal.loop-u-preserved
loop-u-preserved g c =
    let m = g.M.Map.graph c.order-n.new.self in
    let u = marked c.args.marks.now in
    let p = c.loop-u.u in
    let first = ap g.M.Map.graph c.order-n.ensures.same in
    let now_too = ap (λ (s : Line g.row.M.Denot). g.M.Map.graph s.map) c.loop-u.invariant.0 in
    let order = c.order-n.ensures.value ∙ ap (λ (h : Graph). h.order) (sym first) in (
      c.write_row.ensures.same ∙ c.loop-u.invariant.0,
      c.write_row.ensures.same_reference ∙ c.loop-u.invariant.1,
      written_more c.args.cut.now.slots.now c.loop-u.cut.slots.now c.args.cut.now.len c.loop-u.cut.len (crossing_row m u) m.order p
          (omega (arith, order)) (edges_fit m _ u c.args.cut.now.len (length c.args.cut.now.slots.now) first c.requires) c.loop-u.invariant.2 _
          (ap (λ (h : Graph). crossing_row h u p) now_too)
          c.write_row.new.cut.slots.now c.write_row.new.cut.len c.write_row.ensures.next c.write_row.ensures.items,
    )

pub returns : goal.returns
returns g c =
    let m = g.M.Map.graph c.order-n.new.self in
    let u = marked c.args.marks.now in
    let first = ap g.M.Map.graph c.order-n.ensures.same in
    let end : c.loop-u.u ≡ (g.M.Map.graph c.args.self.now.map).order = omega (arith, c.order-n.ensures.value, c.loop-u.auto.u-end) in
    let w = written_all c.args.cut.now.slots.now c.loop-u.cut.slots.now _ _ (edges_all m _ u c.loop-u.u first end) c.args.cut.now.len c.loop-u.cut.len c.loop-u.invariant.2 in
    record {
      same_reference = c.loop-u.invariant.1;
      next = w.0;
      items = w.1;
      same = c.loop-u.invariant.0 ∙ ap {B = Line g.row.M.Denot} (λ x. record { map = x }) c.order-n.ensures.same;
    }
