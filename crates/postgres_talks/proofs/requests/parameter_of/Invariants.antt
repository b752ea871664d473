use Rattle.std.proofs.Common.{◌≡◌, length, map}
use Rattle.postgres_messages.specs.StartReading.{viewed_parameter}
use Rattle.postgres_talks.specs.Requests.{parameter_of}
use Rattle.postgres_talks.proofs.requests.parameter_of.Given as goal

abbrev pub invariant-loop-parameters : goal.invariant-loop-parameters
invariant-loop-parameters l = parameter_of l.name (map viewed_parameter l.parameters) ≡ parameter_of l.name (map viewed_parameter l.initial.parameters)

abbrev pub decreases-loop-parameters : goal.decreases-loop-parameters
decreases-loop-parameters l = length l.parameters
