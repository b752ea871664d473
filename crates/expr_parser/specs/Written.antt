-- The conditions of policies, which are kept as they were written.
use Rattle.std.specs.Prelude.{◌≡◌, ◌-◌, ℕ, List, length, Ok}
use Rattle.sql_ast.specs.declared.policy.PolicyClause.{PolicyClause}
use Rattle.sql_lexer.specs.Lexeme.{Lexeme}
use Rattle.sql_lexer.specs.Lexing.{Lexes}
use Rattle.sql_lexer.specs.Slices.{text_between}
use Rattle.expr_parser.specs.Stages.{Parses}
use Rattle.expr_parser.specs.Whole.{SpellsWhole, IsWithinDepth}

-- the text begins with its first token and ends with its last: no blank and no comment stands around them
abbrev pub IsTrimmed : List ℕ → Type 0
IsTrimmed text = (ts : List Lexeme) → Lexes text (Ok ts) → text_between text ts 0 (length ts - 1) ≡ text

-- the condition is what its text is read as
pub record IsAsWritten (c : PolicyClause) : Type 0 where
  pub parsed : Parses SpellsWhole IsWithinDepth c.text (Ok c.expression)
  pub trimmed : IsTrimmed c.text
