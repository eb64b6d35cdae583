use Rattle.std.proofs.Common.{ℕ, Bool, cond, eqb, refl, arith}
use Rattle.bits.proofs.Parts.{row_changed}
use Rattle.rows.specs.Layout.{row_words}
use Rattle.rows.proofs.Heads.{changed_with, changed_without}
use Rattle.rows.proofs.flow.Arcs.write.Goals as goal

pub returns-clause-put : goal.returns-clause-put
returns-clause-put c =
    let f = λ (k : ℕ) (b : Bool). cond (eqb k c.args.q) c.args.on b in
    changed_with c.args.self.now _ refl c.args.q c.args.p c.args.on (omega arith) (omega arith)
    (row_changed row_words c.args.self.now.words.now c.set.new.words c.args.p (omega arith) (omega arith) f (λ k l. c.set.ensures.bits k))

pub returns-clause-taken : goal.returns-clause-taken
returns-clause-taken c =
    let f = λ (k : ℕ) (b : Bool). cond (eqb k c.args.q) c.args.on b in
    changed_without c.args.self.now _ refl c.args.q c.args.p c.args.on (omega arith) (omega arith)
    (row_changed row_words c.args.self.now.words.now c.set.new.words c.args.p (omega arith) (omega arith) f (λ k l. c.set.ensures.bits k))
