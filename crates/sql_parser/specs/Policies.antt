-- The conditions of policies.
use Rattle.std.specs.List.{AllByRecursion}
use Rattle.sql_ast.specs.declared.statement.Statement.{Statement}
use Rattle.sql_ast.specs.Statements.{clauses_read}
use Rattle.expr_parser.specs.Written.{IsAsWritten}

-- each condition of the policy that the statement makes is as written
abbrev pub HasConditionsAsWritten : Statement → Type 0
HasConditionsAsWritten s = AllByRecursion IsAsWritten (clauses_read s)
