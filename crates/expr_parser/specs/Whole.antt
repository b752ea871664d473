-- Expressions of a whole list of tokens.
use Rattle.std.specs.Prelude.{ℕ, ◌≤◌, List, length}
use Rattle.sql_lexer.specs.Lexeme.{Lexeme}
use Rattle.sql_ast.specs.Depth.{depth}
use Rattle.expr_parser.specs.Grammar.{Tree, SpellsExpr}

-- the tokens, all of them, spell the expression
abbrev pub SpellsWhole : List Lexeme → Tree → Type 0
SpellsWhole ts e = SpellsExpr ts 0 (length ts) e

-- the greatest depth that an expression may have
abbrev pub max_depth : ℕ
max_depth = 64

-- an expression that is not too deep
abbrev pub IsWithinDepth : Tree → Type 0
IsWithinDepth e = depth e ≤ max_depth
