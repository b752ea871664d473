-- Which statements may be executed, and whose.
use Rattle.std.specs.List.{AllByRecursion}
use Rattle.sql_ast.specs.declared.statement.DatabaseStatement.{DatabaseStatement}
use Rattle.sql_ast.specs.Statements.{IsReadOnDatabase, clauses_on_database}
use Rattle.expr_parser.specs.Written.{IsAsWritten}
use Rattle.abstract_database.specs.Database.{Database}
use Rattle.abstract_database.specs.Statements.{UserPair, as_seen}
use Rattle.abstract_database.specs.Whole.{AreRolesOf}

-- a text may be read as the statement, its conditions are as they were written, and its users are roles
pub record MayExecute (db : Database) (users : UserPair) (s : DatabaseStatement) : Type 0 where
  pub read : IsReadOnDatabase s
  pub written : AllByRecursion IsAsWritten (clauses_on_database s)
  pub roles : AreRolesOf db (as_seen users db)
