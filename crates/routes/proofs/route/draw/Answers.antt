-- There is room for the route that is noted, as for any over the second node.
use Rattle.std.proofs.Common.{arith}
use Rattle.augment.specs.Trails.{way}
use Rattle.routes.proofs.Vertices.{vertices_few}
use Rattle.routes.proofs.route.draw.Goals as goal

-- A route has few vertices.
pub write_route-next-requires-clause-few : goal.write_route-next-requires-clause-few
write_route-next-requires-clause-few c =
    let web = c.args.web in
    let ws = way c.note_route.new.notes.before.now web.to web.from in
    omega (arith, vertices_few web.order ws c.note_route.ensures.route.route.apart, web.small)

-- There is room for it.
pub write_route-next-requires-clause-room : goal.write_route-next-requires-clause-room
write_route-next-requires-clause-room c =
    let led = c.note_route.ensures.route in
    c.requires.room (way c.note_route.new.notes.before.now c.args.web.to c.args.web.from) led.route led.over

-- It is the one that is written and taken out.
pub returns-clause-taken : goal.returns-clause-taken
returns-clause-taken c =
    let led = c.note_route.ensures.route in
    record {
      route = way c.note_route.new.notes.before.now c.args.web.to c.args.web.from;
      along = led.route;
      over = led.over;
      arcs = c.take_way.ensures.arcs;
      behind = c.write_route-next.ensures.next;
      bytes = c.write_route-next.ensures.items;
    }
