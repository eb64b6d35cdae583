use Rattle.std.proofs.Common.{◌≡◌, ℕ, ◌-◌, ◌∙◌, refl, sym, option_map, tests, rules}
use Rattle.std.specs.List.{find, range_with_len}
use Rattle.std.proofs.lemmas.Iterator.{YieldsList-from_range}
use Rattle.std.proofs.lemmas.Iterator.Adapters.{option_map_id}
use Rattle.std.proofs.lemmas.Iterator.Search.{find_from_yields_List}
use Rattle.list.specs.Meaning.{graph_of}
use Rattle.list.proofs.Chains.{find_range}
use Rattle.list.proofs.List.neighbour_from.Goals as goal

pub returns : goal.returns
returns c =
    let s = c.args.self.now in
    let p = (graph_of s).joined c.args.u in
    let found : option_map (λ (x : ℕ). x) c.find.result ≡ find p (range_with_len c.args.w (s.n - c.args.w)) =
    find_from_yields_List p _ _ c.find.result c.find.ensures.ran (YieldsList-from_range c.args.w s.n (s.n - c.args.w) refl refl) (λ x b q k. search (rules, tests)) in
    sym (option_map_id c.find.result) ∙ found ∙ find_range p c.args.w (s.n - c.args.w)
