use Rattle.std.proofs.Common.{◌≤◌, length, sym, ◌∙◌, rules}
use Rattle.frames.proofs.Opens.{kind_fits}
use Rattle.frames.proofs.frame.read_frame.Goals as goal

pub slice_bounds-result-count : goal.slice_bounds-result-count
slice_bounds-result-count c = kind_fits c.args.line.now c.in_ok-kind.kind (sym c.frame_kind.ensures ∙ c.in_ok-kind.was)

pub slice_bounds-result-start : goal.slice_bounds-result-start
slice_bounds-result-start c =
    let h : 2 ≤ length c.args.line.now = kind_fits c.args.line.now c.in_ok-kind.kind (sym c.frame_kind.ensures ∙ c.in_ok-kind.was) in
    search rules
