use Rattle.std.proofs.Common.{arith}
use Rattle.row_codec.proofs.Plain.{plain_text}
use Rattle.row_codec.proofs.cell.is_plain.Goals as goal

pub returns : goal.returns
returns c _ = plain_text c.args.bytes.now (λ k low. c.loop-byte.invariant k (omega (arith, low, c.loop-byte-test.false)))
