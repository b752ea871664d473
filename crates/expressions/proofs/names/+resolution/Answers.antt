use Rattle.std.proofs.Common.{rules}
use Rattle.sql_ast.specs.Term.{comparison, operation, conjunction, disjunction}
use Rattle.expressions.proofs.Results.{pair_refused}
use Rattle.expressions.proofs.names.+resolution.Goals as goal

pub resolve_tree-returns-in_err-left-in-Compare : goal.resolve_tree-returns-in_err-left-in-Compare
resolve_tree-returns-in_err-left-in-Compare t c =
    let m = pair_refused _ _ (comparison c.in-Compare.operator) c.in_err-left-in-Compare.field-0.0 c.in_err-left-in-Compare.ensures in
    rw c.in-Compare.is (search rules)

pub resolve_tree-returns-in_err-left-in-Arithmetic : goal.resolve_tree-returns-in_err-left-in-Arithmetic
resolve_tree-returns-in_err-left-in-Arithmetic t c =
    let m = pair_refused _ _ (operation c.in-Arithmetic.operator) c.in_err-left-in-Arithmetic.field-0.0 c.in_err-left-in-Arithmetic.ensures in
    rw c.in-Arithmetic.is (search rules)

pub resolve_tree-returns-in_err-left-in-And : goal.resolve_tree-returns-in_err-left-in-And
resolve_tree-returns-in_err-left-in-And t c =
    let m = pair_refused _ _ conjunction c.in_err-left-in-And.field-0.0 c.in_err-left-in-And.ensures in
    rw c.in-And.is (search rules)

pub resolve_tree-returns-in_err-left-in-Or : goal.resolve_tree-returns-in_err-left-in-Or
resolve_tree-returns-in_err-left-in-Or t c =
    let m = pair_refused _ _ disjunction c.in_err-left-in-Or.field-0.0 c.in_err-left-in-Or.ensures in
    rw c.in-Or.is (search rules)
