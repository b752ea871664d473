use Rattle.std.proofs.Common.{arith}
use Rattle.postgres_messages.proofs.Whole.{is_read}
use Rattle.postgres_messages.proofs.frontend.read_message.Goals as goal

pub returns : goal.returns
returns c = is_read c.args.bytes.now c.message_at.result (λ i. omega (arith, c.type_inv.bytes i)) c.message_at.ensures
