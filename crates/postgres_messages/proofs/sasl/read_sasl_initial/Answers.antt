use Rattle.std.proofs.Common.{arith}
use Rattle.postgres_messages.proofs.Whole.{is_read_initial}
use Rattle.postgres_messages.proofs.sasl.read_sasl_initial.Goals as goal

pub returns : goal.returns
returns c = is_read_initial c.args.body.now c.initial_in.result (λ i. omega (arith, c.type_inv.body i)) c.initial_in.ensures
