use Rattle.std.proofs.Common.{◌≡◌, ◌-◌}
use Rattle.std.specs.Int.{w32}
use Rattle.postgres_messages.specs.Reading.{number_at, parts_at}
use Rattle.postgres_messages.proofs.Loops.{with_front}
use Rattle.postgres_messages.proofs.lists.next_u32s.Given as goal

abbrev pub invariant-loop : goal.invariant-loop
invariant-loop l = with_front l.numbers.items (parts_at (number_at w32) (l.count - l.counter) l.rest) ≡ parts_at (number_at w32) l.count l.bytes
