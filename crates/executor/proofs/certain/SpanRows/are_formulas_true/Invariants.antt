use Rattle.std.proofs.Common.{drop}
use Rattle.expressions.specs.Rows.{names_of}
use Rattle.executor.specs.Certain.{AreFormulasCertain}
use Rattle.executor.proofs.certain.SpanRows.are_formulas_true.Given as goal

-- where those that still come are, all are
abbrev pub invariant-loop-formula : goal.invariant-loop-formula
invariant-loop-formula l = AreFormulasCertain l.self.known.now (names_of l.self.users.now) (drop l.formula-index l.formulas) → AreFormulasCertain l.self.known.now (names_of l.self.users.now) l.formulas
