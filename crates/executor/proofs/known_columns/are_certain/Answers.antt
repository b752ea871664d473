use Rattle.std.proofs.Common.{subst}
use Rattle.expressions.specs.Rows.{names_of}
use Rattle.table_rows.specs.Targets.{users_of}
use Rattle.executor.specs.Certain.{AreFormulasCertain}
use Rattle.executor.proofs.Certainty.{let_through}
use Rattle.executor.proofs.known_columns.are_certain.Goals as goal

pub returns-then-are_formulas_true : goal.returns-then-are_formulas_true
returns-then-are_formulas_true c = λ is.
    let known = c.args.known.now in
    let table = c.args.table.now in
    let guarded = subst (AreFormulasCertain known (users_of table)) c.as_slice.ensures (c.are_formulas_true.ensures c.if-are_formulas_true.true) in
    let_through known table (names_of c.args.users.now) c.args.conditions.now guarded (c.are_true.ensures is)
