use Rattle.std.proofs.Common.{arith}
use Rattle.postgres_messages.specs.Fields.{HasShortValue}
use Rattle.postgres_messages.specs.Views.{viewed_value}
use Rattle.postgres_messages.proofs.Forms.{each_viewed}
use Rattle.postgres_messages.proofs.backend_bodies.put_values.Goals as goal

pub put_value-requires : goal.put_value-requires
put_value-requires c = each_viewed HasShortValue viewed_value c.args.values.now c.requires c.loop-value.value-index _ (omega (arith, c.loop-value-test.true))
