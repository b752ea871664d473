use Rattle.std.proofs.Common.{arith, sym, subst}
use Rattle.std.proofs.lemmas.List.{drop_all}
use Rattle.expressions.specs.Rows.{names_of}
use Rattle.table_rows.proofs.Loops.{here}
use Rattle.executor.specs.Certain.{AreFormulasCertain}
use Rattle.executor.proofs.certain.SpanRows.are_formulas_true.Goals as goal

pub loop-formula-preserved : goal.loop-formula-preserved
loop-formula-preserved c =
    let formulas = c.args.formulas.now in
    let i = c.loop-formula.formula-index in
    let formula = c.formula-item.result in
    let now = here formulas i formula c.formula-item.is (omega arith) in
    λ others. c.loop-formula.invariant (subst (AreFormulasCertain c.args.self.now.known.now (names_of c.args.self.now.users.now)) (sym now) (c.is_formula_true.ensures c.if-not-is_formula_true.false, others))

pub returns : goal.returns
returns c = λ is. c.loop-formula.invariant (subst (AreFormulasCertain c.args.self.now.known.now (names_of c.args.self.now.users.now)) (sym (drop_all c.loop-formula.formula-index c.args.formulas.now c.loop-formula-test.false)) tt)
