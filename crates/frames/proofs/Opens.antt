-- What a frame that was read says of its line.
use Rattle.std.proofs.Common.{◌≡◌, ℕ, ◌≤◌, cond, eqb, List, length, get_or, Ok, Err, Result, ⊎_elim, arith}
use Rattle.std.proofs.lemmas.Bool.{cases_eq, eq-eqb}
use Rattle.frames.specs.declared.fault.FrameFault.{FrameFault}
use Rattle.frames.specs.declared.fault.FrameFault.TheVariants.{Empty}
use Rattle.frames.specs.declared.kind.Kind.{Kind}
use Rattle.frames.specs.Hex.{bytes_of}
use Rattle.frames.specs.Frames.{kind_read, known, kind_of}
use Rattle.frames.proofs.Digits.{bytes_length}

-- Bytes that begin with a kind are at least one.
some_byte : (n : ℕ) (r : Result Kind FrameFault) (k : Kind) → cond (eqb n 0) (Err Empty) r ≡ Ok k → 1 ≤ n
some_byte n r k e = ⊎_elim (λ z. let f = rw (eq-eqb n 0 z) at e in cc) (λ ne. omega (arith, ne)) (cases_eq n 0)

-- A line whose frame has a kind has at least two characters.
pub kind_fits : (line : List ℕ) (k : Kind) → kind_read (bytes_of line) ≡ Ok k → 2 ≤ length line
kind_fits line k e = omega (arith, bytes_length line, some_byte (length (bytes_of line)) (known (kind_of (get_or (bytes_of line) 0 0))) k e)
