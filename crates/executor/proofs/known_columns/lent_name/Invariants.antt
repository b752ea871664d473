use Rattle.std.proofs.Common.{◌≡◌, drop}
use Rattle.executor.specs.Known.{lent_name}
use Rattle.executor.proofs.known_columns.lent_name.Given as goal

-- those before name none
abbrev pub invariant-loop-condition : goal.invariant-loop-condition
invariant-loop-condition g l = lent_name (g.K.ColumnKind.has l.kind) l.conditions ≡ lent_name (g.K.ColumnKind.has l.kind) (drop l.condition-index l.conditions)
