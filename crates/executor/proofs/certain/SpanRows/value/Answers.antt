use Rattle.std.proofs.Common.{ap}
use Rattle.sql_ast.specs.Term.{term_of}
use Rattle.expressions.specs.Rows.{names_of}
use Rattle.executor.proofs.Certainty.{found_known}
use Rattle.executor.proofs.certain.SpanRows.value.Goals as goal

pub returns-in-Column : goal.returns-in-Column
returns-in-Column c =
    let self = c.args.self.now in
    found_known self.known.now (names_of self.users.now) (term_of c.args.tree.now) c.in-Column.index c.find.result (ap term_of c.in-Column.is) c.if-index-eq0.true c.find.ensures
