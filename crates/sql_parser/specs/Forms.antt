-- What tokens mean: rules of form, and how deep expressions may be.
use Rattle.std.specs.Prelude.{ℕ, List}
use Rattle.sql_ast.specs.declared.statement.Statement.{Statement}
use Rattle.sql_ast.specs.Statements.{HoldsInStatement}
use Rattle.sql_lexer.specs.Lexeme.{Lexeme}
use Rattle.expr_parser.specs.Whole.{IsWithinDepth}
use Rattle.sql_commands.specs.Statements.{SpellsStatement}
pub use Rattle.sql_ast.specs.Statements.{IsWellFormed}

-- the tokens of a source spell the statement, and it keeps the rules of form
pub record Means (source : List ℕ) (ts : List Lexeme) (s : Statement) : Type 0 where
  pub spelled : SpellsStatement source ts s
  pub well_formed : IsWellFormed s

-- no expression of the statement is too deep
abbrev pub IsStatementWithinDepth : Statement → Type 0
IsStatementWithinDepth s = HoldsInStatement IsWithinDepth s
