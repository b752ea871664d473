use Rattle.std.proofs.Common.{arith}
use Rattle.postgres_messages.specs.Fields.{HasShortValue}
use Rattle.postgres_messages.specs.Views.{viewed_value}
use Rattle.postgres_messages.proofs.Forms.{counted_view, each_viewed}
use Rattle.postgres_messages.proofs.backend_forms.are_values.Goals as goal

pub returns-then-values-le-MAX_ITEMS : goal.returns-then-values-le-MAX_ITEMS
returns-then-values-le-MAX_ITEMS c = (λ yes. counted_view HasShortValue viewed_value c.args.values.now (omega (arith, c.if-values-le-MAX_ITEMS.true)) (c.are_short.ensures.0 yes), λ counted. c.are_short.ensures.1 (each_viewed HasShortValue viewed_value c.args.values.now counted))
