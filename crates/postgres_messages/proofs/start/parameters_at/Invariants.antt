use Rattle.std.proofs.Common.{◌≡◌, ◌-◌, length, map}
use Rattle.postgres_messages.specs.StartReading.{parameters_at, viewed_parameter}
use Rattle.postgres_messages.proofs.Loops.{with_front}
use Rattle.postgres_messages.proofs.start.parameters_at.Given as goal

abbrev pub invariant-loop : goal.invariant-loop
invariant-loop l = with_front (map viewed_parameter l.parameters.items) (parameters_at (length l.bytes - l.counter) l.rest) ≡ parameters_at (length l.bytes) l.bytes
