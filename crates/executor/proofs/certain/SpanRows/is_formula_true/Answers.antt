use Rattle.std.proofs.Common.{List, Bor, subst}
use Rattle.expressions.specs.Rows.{names_of}
use Rattle.expressions.specs.Types.{TypedTerm}
use Rattle.executor.specs.Certain.{AreLentCertain, IsAnyCertain}
use Rattle.executor.proofs.Certainty.{formula_certain}
use Rattle.executor.proofs.certain.SpanRows.is_formula_true.Goals as goal

pub returns-then-is_any_true : goal.returns-then-is_any_true
returns-then-is_any_true c = λ is.
    let known = c.args.self.now.known.now in
    let users = names_of c.args.self.now.users.now in
    let any = subst (IsAnyCertain known users) c.as_slice.ensures (c.is_any_true.ensures c.if-is_any_true.true) in
    let all = subst (AreLentCertain known users) c.as_slice-then-is_any_true.ensures (c.are_lent_true.ensures is) in
    formula_certain known users c.args.formula.now any all
