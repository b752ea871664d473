use Rattle.std.proofs.Common.{◌≡◌, ◌-◌, map}
use Rattle.postgres_messages.specs.Reading.{value_at, parts_at}
use Rattle.postgres_messages.specs.Views.{viewed_value}
use Rattle.postgres_messages.proofs.Loops.{with_front}
use Rattle.postgres_messages.proofs.lists.next_values.Given as goal

abbrev pub invariant-loop : goal.invariant-loop
invariant-loop l = with_front (map viewed_value l.values.items) (parts_at value_at (l.count - l.counter) l.rest) ≡ parts_at value_at l.count l.bytes
