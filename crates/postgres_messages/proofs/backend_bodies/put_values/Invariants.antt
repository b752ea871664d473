use Rattle.std.proofs.Common.{◌≡◌, ◌++◌, length, take, map}
use Rattle.std.specs.List.{flat_map}
use Rattle.postgres_messages.specs.Fields.{int16, value}
use Rattle.postgres_messages.specs.Views.{viewed_value}
use Rattle.postgres_messages.proofs.backend_bodies.put_values.Given as goal

abbrev pub invariant-loop-value : goal.invariant-loop-value
invariant-loop-value l = l.out.items ≡ l.fn.out.items ++ (int16 (length l.values) ++ flat_map value (map viewed_value (take l.value-index l.values)))
