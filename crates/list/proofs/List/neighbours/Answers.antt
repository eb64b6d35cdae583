use Rattle.std.proofs.Common.{◌≡◌, ◌+◌, ap, ◌∙◌, length, arith, tests, rules}
use Rattle.std.specs.List.{filter, range_with_len}
use Rattle.std.proofs.lemmas.Iterator.{YieldsList-from_range}
use Rattle.std.proofs.lemmas.Iterator.Consumers.{count_from_yields_List, YieldsList-from_filter}
use Rattle.graph.proofs.Counts.{count_ext}
use Rattle.list.specs.Meaning.{graph_of}
use Rattle.list.proofs.Chains.{length_filter_range}
use Rattle.list.proofs.List.neighbours.Goals as goal

pub returns : goal.returns
returns c =
    let s = c.args.self.now in
    let p = (graph_of s).joined c.args.u in
    let many : c.count.result ≡ length (filter p (range_with_len 0 s.n)) =
    count_from_yields_List _ c.count.result c.count.ensures.ran
    (YieldsList-from_filter _ p (YieldsList-from_range 0 s.n s.n c.filter.ensures.source (omega arith)) c.filter.ensures.closure (λ x r q k. search (rules, tests))) in
    many ∙ length_filter_range p 0 s.n ∙ count_ext (λ k. p (0 + k)) p s.n (λ k _. ap p (omega arith))
