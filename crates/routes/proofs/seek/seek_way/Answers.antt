-- What is far from a goal is closed to it; and the search finds its goal, since what the flow brings there
-- goes on.
use Rattle.std.proofs.Common.{◌≡◌, false, ap, ◌∙◌, subst, ℕ, inl, inr}
use Rattle.std.proofs.lemmas.Bool.{cases_Bool}
use Rattle.flows.specs.Flow.{residual_side}
use Rattle.rows.specs.Flow.{carried}
use Rattle.rows.specs.Marks.{marked}
use Rattle.routes.specs.Bare.{bare}
use Rattle.routes.specs.declared.bare.Bare.{Bare}
use Rattle.routes.proofs.Seeks.{all_closed, led_end, led_found, found}
use Rattle.routes.proofs.seek.seek_way.Goals as goal

-- The goal is a node, since the flow goes there.
pub search-requires-clause-goal : goal.search-requires-clause-goal
search-requires-clause-goal c =
    let f = carried c.args.flow.now in
    let inside = (c.requires.flow.sound.bounded c.args.web.from c.args.second c.requires.arc).1 in
    rw c.far_from-far.ensures.same
    (rw c.of-plan.ensures inside, all_closed c.of-plan.result.nodes c.args.second f (marked c.far_from-far.result) c.far_from-far.ensures.far)

pub returns-then-second-web-clause-way : goal.returns-then-second-web-clause-way
returns-then-second-web-clause-way c =
    let web = c.args.web in
    let f = carried c.args.flow.now in
    let before = c.search.new.notes.before.now in
    let size = ap (λ (p : Bare). p.nodes) c.far_from-far.ensures.same ∙ c.of-plan.ensures in
    elim (cases_Bool c.search.result) [
      | inl e ↦ led_found web.nodes f web.from web.to c.args.second web.few c.requires.flow c.requires.arc before (c.search.ensures.found e)
      | inr e ↦
          let missed = subst (λ (n : ℕ). residual_side (bare n) f web.to c.args.second ≡ false) size (c.search.ensures.missed e) in
          absurd (found web.nodes f web.from web.to c.args.second web.few c.requires.flow c.requires.arc before missed)
    ]

-- At the end there is nothing to seek.
pub returns-else-second-web-clause-way : goal.returns-else-second-web-clause-way
returns-else-second-web-clause-way c =
    let web = c.args.web in
    let f = carried c.args.flow.now in
    led_end web.nodes f web.from web.to c.args.second web.few c.requires.flow c.requires.arc c.args.notes.now.before.now c.if-second-web.false
