use Rattle.std.proofs.Common.{◌≡◌, length, map}
use Rattle.postgres_messages.specs.StartReading.{viewed_parameter}
use Rattle.postgres_logins.specs.EntryMessages.{user_in}
use Rattle.postgres_logins.proofs.start_request.user_in.Given as goal

abbrev pub invariant-loop-parameters : goal.invariant-loop-parameters
invariant-loop-parameters l = user_in (map viewed_parameter l.parameters) ≡ user_in (map viewed_parameter l.initial.parameters)

abbrev pub decreases-loop-parameters : goal.decreases-loop-parameters
decreases-loop-parameters l = length l.parameters
