use Rattle.std.proofs.Common.{◌≡◌, ◌+◌, ◌*◌, ◌≤◌, ◌++◌, take, vec_items, vec_len, vec_capacity}
use Rattle.frames.specs.Text.{hex_text}
use Rattle.frames.proofs.text.write_bytes.Given as goal

-- The bytes so far are written, and the room never shrank.
abbrev pub invariant-loop-b : goal.invariant-loop-b
invariant-loop-b l = record {
  items : vec_items l.out ≡ vec_items l.initial.out ++ hex_text (take l.b-index l.bytes);
  len : vec_len l.out ≡ vec_len l.initial.out + 2 * l.b-index;
  capacity : vec_capacity l.initial.out ≤ vec_capacity l.out;
}
