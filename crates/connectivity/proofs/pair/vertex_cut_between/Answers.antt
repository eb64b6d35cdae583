-- An accepted question has two unjoined vertices, and room for every cut.
use Rattle.std.proofs.Common.{sym, ap, ◌∙◌, arith}
use Rattle.model.specs.declared.sizes.Sizes.{Sizes}
use Rattle.plan.specs.declared.split.Split.{Split}
use Rattle.connectivity.specs.Asking.{loose_ends}
use Rattle.connectivity.proofs.Accepted.{vertex_room}
use Rattle.connectivity.proofs.pair.vertex_cut_between.Goals as goal

pub settle-value-requires-clause-room : goal.settle-value-requires-clause-room
settle-value-requires-clause-room g c =
    let m = c.set_ends.new.self.map in
    let s = c.sizes.result in
    let e = c.in_ok-check_loose_ends.ensures in
    let kept = ap (λ (x : Split g.row.M.Denot). x.map) c.set_ends.ensures ∙ e.same in
    let ok = e.reply ∙ ap (λ n. loose_ends s (g.M.Map.graph n) c.args.a c.args.b) (sym kept) in
    omega (arith, vertex_room s (g.M.Map.graph m) c.args.a c.args.b (g.M.Map.simple m) ok, ap (λ (s : Sizes). s.vertices) c.sizes.ensures)
