use Rattle.std.proofs.Common.{vec_items, ◌∙◌}
use Rattle.frames.proofs.Fronts.{on_err, front_bytes}
use Rattle.frames.proofs.text.write_bytes.Goals as goal

-- The bytes before the one that found no memory are written.
pub returns-in_err-write_byte-clause-failed : goal.returns-in_err-write_byte-clause-failed
returns-in_err-write_byte-clause-failed c =
    on_err c.from_residual.result
    (front_bytes (vec_items c.args.out.now) c.args.bytes.now c.loop-b.b-index (vec_items c.write_byte.new.out)
    (c.in_err-write_byte.ensures.failed ∙ c.loop-b.invariant.items))
