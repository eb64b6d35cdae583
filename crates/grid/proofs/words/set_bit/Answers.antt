use Rattle.std.proofs.Common.{◌≡◌, ℕ, Bool, cond, ◌&&◌, eqb, ◌∙◌, arith}
use Rattle.std.proofs.lemmas.Bool.Decides.{nat_tests}
use Rattle.bits.proofs.Parts.{row_changed}
use Rattle.grid.proofs.Puts.{row_put}
use Rattle.grid.proofs.words.set_bit.Goals as goal

-- A bit of one row, told by its two numbers.
one_bit : (u v a b : ℕ) (on x : Bool) → cond (eqb a u) (cond (eqb b v) on x) x ≡ cond (eqb u a && eqb v b) on x
one_bit u v a b on x = grind (arith, nat_tests)

pub returns : goal.returns
returns c =
    let xs = c.args.words.now in
    let ys = c.set.new.words in
    let u = c.args.u in
    let v = c.args.v in
    record {
      bits = λ a b l. row_changed 4 xs ys u (omega arith) (omega (arith, c.set.auto.words)) (λ k x. cond (eqb k v) c.args.on x) (λ k _. c.set.ensures.bits k) a b (omega arith) ∙ one_bit u v a b c.args.on _;
      words = row_put xs ys u c.args.v c.args.on (omega arith) (omega arith) c.set.ensures.words;
    }
