use Rattle.std.proofs.Common.{◌≡◌, drop}
use Rattle.executor.specs.Known.{known_value}
use Rattle.executor.proofs.known_columns.KnownColumns.find.Given as goal

-- those before are other columns
abbrev pub invariant-loop-column : goal.invariant-loop-column
invariant-loop-column l = known_value l.index l.self.columns ≡ known_value l.index (drop l.column-index l.self.columns)
