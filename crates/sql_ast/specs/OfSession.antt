-- The statements of a session: which of them a text may be read as. They have no rule of form and no expression.
use Rattle.std.specs.Prelude.{IfSome}
use Rattle.sql_types.specs.Name.{IsUtf8Name}
use Rattle.sql_ast.specs.declared.statement.SessionStatement.{SessionStatement}
use Rattle.sql_ast.specs.declared.statement.SessionStatement.TheVariants as of_session

-- a statement of a session that a text may be read as
abbrev pub IsReadOfSession : SessionStatement → Type 0
IsReadOfSession (of_session.SetRole s) = IfSome s.role IsUtf8Name
IsReadOfSession of_session.ResetRole = Unit {0}
IsReadOfSession of_session.Begin = Unit {0}
IsReadOfSession of_session.Commit = Unit {0}
IsReadOfSession of_session.Rollback = Unit {0}
