use Rattle.std.proofs.Common.{◌≡◌, ◌-◌}
use Rattle.std.specs.Int.{w16}
use Rattle.postgres_messages.specs.Reading.{number_at, parts_at}
use Rattle.postgres_messages.proofs.Loops.{with_front}
use Rattle.postgres_messages.proofs.lists.next_u16s.Given as goal

abbrev pub invariant-loop : goal.invariant-loop
invariant-loop l = with_front l.numbers.items (parts_at (number_at w16) (l.count - l.counter) l.rest) ≡ parts_at (number_at w16) l.count l.bytes
