use Rattle.rows.specs.Flow.{carried}
use Rattle.routes.proofs.Seeks.{noted_led}
use Rattle.routes.proofs.seek.note_route.Goals as goal

pub returns-clause-route : goal.returns-clause-route
returns-clause-route c =
    let web = c.args.web in
    let f = carried c.args.flow.now in
    let before = c.seek_way.new.notes.before.now in
    rw c.note.ensures.notes
    (noted_led web.nodes f web.from web.to c.args.second web.few c.requires.flow c.requires.arc before c.seek_way.new.notes.fits c.seek_way.ensures.way)
