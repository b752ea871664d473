use Rattle.std.proofs.Common.{◌≡◌, ◌++◌, length, take}
use Rattle.std.specs.List.{flat_map}
use Rattle.postgres_messages.specs.Fields.{int16, int32}
use Rattle.postgres_messages.proofs.backend_bodies.put_types.Given as goal

abbrev pub invariant-loop-number : goal.invariant-loop-number
invariant-loop-number l = l.out.items ≡ l.fn.out.items ++ (int16 (length l.types) ++ flat_map int32 (take l.number-index l.types))
