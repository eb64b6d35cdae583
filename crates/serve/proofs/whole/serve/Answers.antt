use Rattle.std.proofs.Common.{Err, arith}
use Rattle.model.specs.declared.refusal.Refusal.TheVariants.{ShortMemory}
use Rattle.frames.specs.declared.fault.SessionFault.TheVariants as fault
use Rattle.serve.proofs.Splits.{some_line}
use Rattle.serve.proofs.Turns.{short_reply}
use Rattle.serve.proofs.whole.serve.Goals as goal

-- Input that is too long has a line, and so room for a reply.
pub returns-then-input-gt-INPUT_LIMIT-clause-succeeds : goal.returns-then-input-gt-INPUT_LIMIT-clause-succeeds
returns-then-input-gt-INPUT_LIMIT-clause-succeeds g c room =
    let some = some_line c.args.input.now (omega (arith, c.if-input-gt-INPUT_LIMIT.true)) in
    c.write_reply-written.ensures.succeeds (omega (arith, room, some, short_reply 0 (Err (fault.Call ShortMemory))))
