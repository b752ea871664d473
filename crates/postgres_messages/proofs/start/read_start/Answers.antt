use Rattle.std.proofs.Common.{arith}
use Rattle.postgres_messages.proofs.Starts.{is_read_start}
use Rattle.postgres_messages.proofs.start.read_start.Goals as goal

pub returns : goal.returns
returns c = is_read_start c.args.bytes.now c.start_at.result (λ i. omega (arith, c.type_inv.bytes i)) c.start_at.ensures
