use Rattle.std.proofs.Common.{◌≡◌, ◌++◌, length, take, map}
use Rattle.std.specs.List.{flat_map}
use Rattle.postgres_messages.specs.Fields.{int16}
use Rattle.postgres_messages.specs.Backend.{column}
use Rattle.postgres_messages.specs.BackendViews.{viewed_column}
use Rattle.postgres_messages.proofs.backend_bodies.put_columns.Given as goal

abbrev pub invariant-loop-column : goal.invariant-loop-column
invariant-loop-column l = l.out.items ≡ l.fn.out.items ++ (int16 (length l.columns) ++ flat_map column (map viewed_column (take l.column-index l.columns)))
