use Rattle.std.proofs.Common.{◌≡◌, length, map}
use Rattle.postgres_messages.specs.Views.{viewed_value}
use Rattle.postgres_talks.specs.ParameterViews.{behind_values}
use Rattle.postgres_talks.specs.Parameters.{received_values}
use Rattle.postgres_talks.proofs.binding.received_values.Given as goal

-- what was read, and what is read of the rest, is all
abbrev pub invariant-loop-rest : goal.invariant-loop-rest
invariant-loop-rest l = received_values l.types l.formats (map viewed_value l.fields) ≡ behind_values l.values (received_values l.rest l.codes (map viewed_value l.left))

abbrev pub decreases-loop-rest : goal.decreases-loop-rest
decreases-loop-rest l = length l.rest
