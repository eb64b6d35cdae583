-- The vertices behind the place of their number, and then the number.
use Rattle.std.proofs.Common.{arith}
use Rattle.augment.specs.Trails.{way}
use Rattle.routes.specs.Routes.{vertices}
use Rattle.routes.proofs.Blocks.{block_placed}
use Rattle.routes.proofs.route.write_route.Goals as goal

pub returns-clause-items : goal.returns-clause-items
returns-clause-items c =
    let ws = vertices c.args.web.order (way c.args.notes.now.before.now c.args.web.to c.args.web.from) in
    let written = c.write_way-next.ensures in
    block_placed c.args.at c.write_way-next.result c.count_behind.result ws c.args.bytes.now c.write_way-next.new.bytes c.put.new.bytes
    (omega (arith, c.requires.room)) written.items written.next c.count_behind.ensures c.put.ensures
