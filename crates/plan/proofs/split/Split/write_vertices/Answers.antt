use Rattle.std.proofs.Common.{◌≡◌, length, sym, refl, ap, ◌∙◌, arith}
use Rattle.graph.specs.Graph.{Graph}
use Rattle.rows.specs.Marks.{marked}
use Rattle.plan.specs.declared.split.Split.{Split}
use Rattle.std.specs.Option.{option_to_list}
use Rattle.plan.proofs.Cuts.{vertices_at, vertex_listed, vertices_fit, vertices_all}
use Rattle.plan.proofs.Placing.{gathered_none, written_none, written_room, written_more, written_all}
use Rattle.plan.proofs.split.Split.write_vertices.Goals as goal

pub loop-v-init : goal.loop-v-init
loop-v-init g c = (refl, refl, written_none c.args.cut.now.slots.now c.args.cut.now.slots.now c.args.cut.now.len c.args.cut.now.len _ refl refl (gathered_none _ 0 (λ i l. absurd (omega arith))))

pub vertex_at-requires : goal.vertex_at-requires
vertex_at-requires g c =
    let first = ap g.M.Map.graph c.order-n.ensures.same in
    let now_too = ap (λ (s : Split g.row.M.Denot). g.M.Map.graph s.map) c.loop-v.invariant.0 in
    record {
      order = c.order-n.ensures.value ∙ ap (λ (h : Graph). h.order) (sym (now_too ∙ first));
      within = (c.loop-v-test.true, omega (arith, c.order-n.ensures.value, (g.M.Map.simple c.args.self.now.map).small));
    }

-- Room for the cut is room for each vertex of it.
pub extend-requires : goal.extend-requires
extend-requires g c =
    let m = g.M.Map.graph c.order-n.new.self in
    let u = marked c.args.marks.now in
    let a = c.args.from in
    let v = c.loop-v.v in
    let first = ap g.M.Map.graph c.order-n.ensures.same in
    let now_too = ap (λ (s : Split g.row.M.Denot). g.M.Map.graph s.map) c.loop-v.invariant.0 in
    let order = c.order-n.ensures.value ∙ ap (λ (h : Graph). h.order) (sym first) in
    written_room c.args.cut.now.slots.now c.loop-v.cut.slots.now c.args.cut.now.len c.loop-v.cut.len (vertices_at m a u) m.order v
    (omega (arith, order)) (vertices_fit m _ a u c.args.cut.now.len (length c.args.cut.now.slots.now) first c.requires) c.loop-v.invariant.2 (option_to_list c.vertex_at.result)
    (vertex_listed m _ a u v c.vertex_at.result now_too c.vertex_at.ensures.value)

pub loop-v-preserved : goal.loop-v-preserved
loop-v-preserved g c =
    let m = g.M.Map.graph c.order-n.new.self in
    let u = marked c.args.marks.now in
    let a = c.args.from in
    let v = c.loop-v.v in
    let first = ap g.M.Map.graph c.order-n.ensures.same in
    let now_too = ap (λ (s : Split g.row.M.Denot). g.M.Map.graph s.map) c.loop-v.invariant.0 in
    let order = c.order-n.ensures.value ∙ ap (λ (h : Graph). h.order) (sym first) in (
      c.vertex_at.ensures.same ∙ c.loop-v.invariant.0,
      c.extend.ensures.same_reference ∙ c.loop-v.invariant.1,
      written_more c.args.cut.now.slots.now c.loop-v.cut.slots.now c.args.cut.now.len c.loop-v.cut.len (vertices_at m a u) m.order v
          (omega (arith, order)) (vertices_fit m _ a u c.args.cut.now.len (length c.args.cut.now.slots.now) first c.requires) c.loop-v.invariant.2 (option_to_list c.vertex_at.result)
          (vertex_listed m _ a u v c.vertex_at.result now_too c.vertex_at.ensures.value)
          c.extend.new.self.slots.now c.extend.new.self.len c.extend.ensures.next c.extend.ensures.items,
    )

pub returns : goal.returns
returns g c =
    let m = g.M.Map.graph c.order-n.new.self in
    let u = marked c.args.marks.now in
    let first = ap g.M.Map.graph c.order-n.ensures.same in
    let end : c.loop-v.v ≡ (g.M.Map.graph c.args.self.now.map).order = omega (arith, c.order-n.ensures.value, c.loop-v.auto.v-end) in
    let all = vertices_all m _ c.args.from u c.loop-v.v first end in
    let w = written_all c.args.cut.now.slots.now c.loop-v.cut.slots.now _ _ all c.args.cut.now.len c.loop-v.cut.len c.loop-v.invariant.2 in
    record {
      same_reference = c.loop-v.invariant.1;
      next = w.0;
      items = w.1;
      same = c.loop-v.invariant.0
          ∙ ap {B = Split g.row.M.Denot} (λ x. record { map = x; a = c.args.self.now.a; b = c.args.self.now.b }) c.order-n.ensures.same;
    }
