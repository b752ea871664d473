use Rattle.std.proofs.Common.{◌≡◌, take, map}
use Rattle.postgres_messages.specs.Views.{viewed_value}
use Rattle.postgres_talks.proofs.rows.fields_of.Given as goal

abbrev pub invariant-loop-value : goal.invariant-loop-value
invariant-loop-value l = map viewed_value l.fields.items ≡ take l.value-index l.values
