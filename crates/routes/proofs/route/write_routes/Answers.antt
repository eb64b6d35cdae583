-- Each second node is the lowest head that is left, until none is.
use Rattle.std.proofs.Common.{refl, sym, ◌∙◌}
use Rattle.graph.proofs.Firsts.{first_some, first_all}
use Rattle.rows.specs.Flow.{carried}
use Rattle.routes.proofs.Draws.{sofar_none, sofar_room, sofar_more, sofar_all}
use Rattle.routes.proofs.route.write_routes.Goals as goal

pub loop-second-init : goal.loop-second-init
loop-second-init c =
    let web = c.args.web in
    (sofar_none web.nodes web.order (carried c.args.flow.now) web.from web.to c.args.bytes.now c.requires.flow, refl, refl)

pub draw-at-requires-clause-arc : goal.draw-at-requires-clause-arc
draw-at-requires-clause-arc c =
    let web = c.args.web in
    (first_some (carried c.loop-second.flow web.from) c.loop-second.w web.nodes c.in-Some.second (sym c.next_head.ensures ∙ c.in-Some.is)).here

-- One more route along what is left keeps the rules, and there is room for all that do.
pub draw-at-requires-clause-room : goal.draw-at-requires-clause-room
draw-at-requires-clause-room c =
    let web = c.args.web in
    let l = c.loop-second in
    let k = first_some (carried l.flow web.from) l.w web.nodes c.in-Some.second (sym c.next_head.ensures ∙ c.in-Some.is) in
    sofar_room web.nodes web.order (carried c.args.flow.now) (carried l.flow) web.from web.to l.w l.at c.args.bytes.now l.bytes l.invariant.0
    c.in-Some.second k.from c.requires.room

pub loop-second-preserved : goal.loop-second-preserved
loop-second-preserved c =
    let web = c.args.web in
    let l = c.loop-second in
    let k = first_some (carried l.flow web.from) l.w web.nodes c.in-Some.second (sym c.next_head.ensures ∙ c.in-Some.is) in (
      sofar_more web.nodes web.order (carried c.args.flow.now) (carried l.flow) web.from web.to l.w l.at c.args.bytes.now l.bytes l.invariant.0
          c.in-Some.second k.from c.requires.room k.none (carried c.draw-at.new.flow) c.draw-at.result c.draw-at.new.bytes c.draw-at.ensures.taken,
      c.draw-at.ensures.same_reference ∙ l.invariant.1,
      c.draw-at.ensures.same_notes ∙ l.invariant.2,
    )

-- No head is left.
pub returns : goal.returns
returns c =
    let web = c.args.web in
    let l = c.loop-second in
    record {
      told = sofar_all web.nodes web.order (carried c.args.flow.now) (carried l.flow) web.from web.to l.w l.at c.args.bytes.now l.bytes l.invariant.0
          (first_all (carried l.flow web.from) l.w web.nodes (sym c.next_head.ensures ∙ c.in_default.is));
      same_reference = l.invariant.1;
      same_notes = l.invariant.2;
    }
