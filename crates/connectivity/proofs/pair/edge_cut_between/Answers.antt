-- An accepted question has room for every cut.
use Rattle.std.proofs.Common.{sym, ap, ◌∙◌, arith}
use Rattle.model.specs.declared.sizes.Sizes.{Sizes}
use Rattle.connectivity.specs.Asking.{edge_ends}
use Rattle.connectivity.proofs.Accepted.{edge_room}
use Rattle.connectivity.proofs.pair.edge_cut_between.Goals as goal

pub settle-requires-clause-room : goal.settle-requires-clause-room
settle-requires-clause-room g c =
    let m = c.check_edge_ends.new.map in
    let s = c.sizes.result in
    let e = c.in_ok-check_edge_ends.ensures in
    let ok = e.reply ∙ ap (λ n. edge_ends s (g.M.Map.graph n) c.args.a c.args.b) (sym e.same) in
    omega (arith, edge_room s (g.M.Map.graph m) c.args.a c.args.b (g.M.Map.simple m) ok, ap (λ (s : Sizes). s.edges) c.sizes.ensures)
