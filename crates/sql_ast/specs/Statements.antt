-- What is said of every statement, by its class.
use Rattle.std.specs.Prelude.{List, []}
use Rattle.sql_ast.specs.declared.expression.ColumnName.{ColumnName}
use Rattle.sql_ast.specs.declared.policy.PolicyClause.{PolicyClause}
use Rattle.sql_ast.specs.declared.statement.Statement.{Statement}
use Rattle.sql_ast.specs.declared.statement.Statement.TheVariants as statement
use Rattle.sql_ast.specs.declared.statement.DatabaseStatement.{DatabaseStatement}
use Rattle.sql_ast.specs.declared.statement.DatabaseStatement.TheVariants as on_database
use Rattle.sql_ast.specs.Term.{Term}
use Rattle.sql_ast.specs.OverRows.{IsReadOverRows, IsWellFormedOverRows, HoldsOverRows}
use Rattle.sql_ast.specs.Defining.{IsReadDefining, IsWellFormedDefining, HoldsInDefining, clauses_defined}
use Rattle.sql_ast.specs.OfSession.{IsReadOfSession}

-- a statement that a text may be read as
abbrev pub IsReadOnDatabase : DatabaseStatement → Type 0
IsReadOnDatabase (on_database.OverRows s) = IsReadOverRows s
IsReadOnDatabase (on_database.Defining s) = IsReadDefining s

abbrev pub IsRead : Statement → Type 0
IsRead (statement.OnDatabase s) = IsReadOnDatabase s
IsRead (statement.OfSession s) = IsReadOfSession s

-- the rules of form that a statement must keep beside the grammar: what IsRead asks of a statement and its tokens do not give
abbrev pub IsWellFormedOnDatabase : DatabaseStatement → Type 0
IsWellFormedOnDatabase (on_database.OverRows s) = IsWellFormedOverRows s
IsWellFormedOnDatabase (on_database.Defining s) = IsWellFormedDefining s

abbrev pub IsWellFormed : Statement → Type 0
IsWellFormed (statement.OnDatabase s) = IsWellFormedOnDatabase s
IsWellFormed (statement.OfSession s) = Unit {0}

-- P holds of each expression of the statement
abbrev pub HoldsOnDatabase : (Term ColumnName → Type 0) → DatabaseStatement → Type 0
HoldsOnDatabase P (on_database.OverRows s) = HoldsOverRows P s
HoldsOnDatabase P (on_database.Defining s) = HoldsInDefining P s

abbrev pub HoldsInStatement : (Term ColumnName → Type 0) → Statement → Type 0
HoldsInStatement P (statement.OnDatabase s) = HoldsOnDatabase P s
HoldsInStatement P (statement.OfSession s) = Unit {0}

-- the conditions of the policy that a statement makes, whose texts are to spell their expressions
abbrev pub clauses_on_database : DatabaseStatement → List PolicyClause
clauses_on_database (on_database.OverRows s) = []
clauses_on_database (on_database.Defining s) = clauses_defined s

abbrev pub clauses_read : Statement → List PolicyClause
clauses_read (statement.OnDatabase s) = clauses_on_database s
clauses_read (statement.OfSession s) = []
