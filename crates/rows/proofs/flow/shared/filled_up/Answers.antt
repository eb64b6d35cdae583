use Rattle.std.proofs.Common.{◌++◌, List, ℕ, ap, ◌∙◌, drop, length, replicate}
use Rattle.bits.specs.Bits.{has}
use Rattle.rows.specs.Layout.{set_words}
use Rattle.rows.proofs.Shared.{zeros_behind}
use Rattle.rows.proofs.flow.shared.filled_up.Goals as goal

pub returns : goal.returns
returns c q =
    let xs = c.args.words.now in
    ap (λ (ys : List ℕ). has (ys ++ drop (length xs) (replicate set_words 0)) 0 q) c.copy_from_slice.ensures.after ∙ zeros_behind xs set_words q
