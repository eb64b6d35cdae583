use Rattle.std.proofs.Common.{◌≡◌, None, ltb, rules}
use Rattle.std.specs.Prelude.{MatchOption}
use Rattle.std.specs.Bool.{then_some}
use Rattle.rows.proofs.Sets.{kept_below}
use Rattle.rows.proofs.marks.below.Goals as goal

pub returns : goal.returns
returns c =
    let kept : MatchOption c.args.found (c.filter.result ≡ None) (λ v. c.filter.result ≡ then_some (ltb v c.args.n) v) = search rules in
    kept_below c.args.found c.filter.result c.args.n c.requires kept
