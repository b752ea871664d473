use Rattle.std.proofs.Common.{Option, subst}
use Rattle.std.specs.Prelude.{IfSome}
use Rattle.sql_types.specs.Value.{owned}
use Rattle.sql_ast.specs.Term.{term_of}
use Rattle.expressions.specs.Rows.{names_of}
use Rattle.executor.specs.declared.known_columns.KnownColumn.{KnownColumn}
use Rattle.executor.specs.Certain.{IsBoundOf}
use Rattle.executor.proofs.Certainty.{on_left_bound, on_left_value}
use Rattle.executor.proofs.certain.SpanRows.on_left.Goals as goal

pub returns-in-Some : goal.returns-in-Some
returns-in-Some c =
    let self = c.args.self.now in
    on_left_value self.known.now (names_of self.users.now) c.args.operator (term_of c.args.tree.now) (owned c.in-Some.value) c.in-Some.ensures

pub returns-in-None : goal.returns-in-None
returns-in-None c =
    let self = c.args.self.now in
    let bound = subst (λ (o : Option KnownColumn). IfSome c.bound_of.result (IsBoundOf (term_of c.args.tree.now) o)) c.bound_on_left.ensures c.bound_of.ensures in
    on_left_bound self.known.now (names_of self.users.now) c.args.operator (term_of c.args.tree.now) c.bound_of.result bound
