use Rattle.std.proofs.Common.{◌∙◌, sym}
use Rattle.sql_types.specs.Value.{owned}
use Rattle.sql_ast.specs.Term.{term_of}
use Rattle.expressions.specs.Rows.{names_of}
use Rattle.executor.proofs.Certainty.{compares}
use Rattle.executor.proofs.certain.SpanRows.is_compared.Goals as goal

pub returns-in-Some-Some : goal.returns-in-Some-Some
returns-in-Some-Some c = λ is.
    let self = c.args.self.now in
    let both = c.in-Some-Some in
    compares self.known.now (names_of self.users.now) c.args.operator (term_of c.args.left.now) (term_of c.args.right.now) (owned both.left) (owned both.right) both.ensures both.ensures' (sym c.compare_by.ensures ∙ c.is_yes.ensures is)
