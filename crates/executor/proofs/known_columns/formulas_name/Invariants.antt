use Rattle.std.proofs.Common.{◌≡◌, drop}
use Rattle.executor.specs.Known.{formulas_name}
use Rattle.executor.proofs.known_columns.formulas_name.Given as goal

-- those before name none
abbrev pub invariant-loop-formula : goal.invariant-loop-formula
invariant-loop-formula g l = formulas_name (g.K.ColumnKind.has l.kind) l.formulas ≡ formulas_name (g.K.ColumnKind.has l.kind) (drop l.formula-index l.formulas)
