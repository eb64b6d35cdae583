use Rattle.std.proofs.Common.{sym}
use Rattle.frames.proofs.Digits.{bytes_length}
use Rattle.frames.proofs.hex.HexBytes.count.Goals as goal

pub returns : goal.returns
returns c = sym (bytes_length c.args.self.now.text.now)
