use Rattle.std.proofs.Common.{[], ◌∷◌, ◌++◌, vec_items, ◌∙◌}
use Rattle.frames.specs.Text.{hex_text, reply_bytes}
use Rattle.frames.proofs.Fronts.{on_err, front_none, front_first, front_second}
use Rattle.frames.proofs.text.write_reply.Goals as goal

-- A front part of the bytes is written.
pub returns-in_err-write_body-clause-failed : goal.returns-in_err-write_body-clause-failed
returns-in_err-write_body-clause-failed c =
    on_err c.from_residual.result
    (front_first (vec_items c.args.out.now) (hex_text (reply_bytes c.args.line c.args.reply)) (10 ∷ []) (vec_items c.write_body.new.out)
    c.in_err-write_body.ensures.failed)

-- All bytes are written, and no line end.
pub returns-in_err-push-clause-failed : goal.returns-in_err-push-clause-failed
returns-in_err-push-clause-failed c =
    let before = vec_items c.args.out.now in
    let body = hex_text (reply_bytes c.args.line c.args.reply) in
    let after = vec_items c.push.new.self in
    on_err c.from_residual-in_err-push.result
    (front_second before body (10 ∷ []) after
    (front_none (before ++ body) (10 ∷ []) after (c.in_err-push.ensures.items ∙ c.in_ok-write_body.ensures.items)))
