-- How tightly operators bind, and that what no operator follows is longest.
use Rattle.std.specs.Prelude.{◌<◌, ◌≤◌, ℕ, List, Option, Some}
use Rattle.sql_lexer.specs.Lexeme.{Lexeme, kind_at}
use Rattle.sql_lexer.specs.declared.token.TokenKind.{TokenKind}
use Rattle.sql_lexer.specs.declared.token.TokenKind.TheVariants.{Reserved, Unreserved, Punctuation}
use Rattle.sql_lexer.specs.declared.token.Reserved.TheVariants.{And, Is, Or}
use Rattle.sql_lexer.specs.declared.token.Unreserved.TheVariants.{Of}
use Rattle.sql_lexer.specs.declared.token.Punctuation.TheVariants.{Dot, Star, Plus, Minus, Slash, Percent, Equal, NotEqual, Less, LessOrEqual, Greater, GreaterOrEqual}
use Rattle.expr_parser.specs.declared.level.Level.TheVariants as level
use Rattle.expr_parser.specs.Grammar.{Tree, Part, chained, negation, test, comparison, signed, primary, Spells}

-- how tightly a token binds to the operand before it: 1 for OR, which binds least, and 0 for what is no operator there
abbrev pub token_precedence : Option TokenKind → ℕ
token_precedence (Some (Reserved Or)) = 1
token_precedence (Some (Reserved And)) = 2
token_precedence (Some (Reserved Is)) = 4
token_precedence (Some (Punctuation Equal)) = 5
token_precedence (Some (Punctuation NotEqual)) = 5
token_precedence (Some (Punctuation Less)) = 5
token_precedence (Some (Punctuation LessOrEqual)) = 5
token_precedence (Some (Punctuation Greater)) = 5
token_precedence (Some (Punctuation GreaterOrEqual)) = 5
token_precedence (Some (Punctuation Plus)) = 6
token_precedence (Some (Punctuation Minus)) = 6
token_precedence (Some (Punctuation Star)) = 7
token_precedence (Some (Punctuation Slash)) = 7
token_precedence (Some (Punctuation Percent)) = 7
token_precedence (Some (Punctuation Dot)) = 9
token_precedence (Some (Unreserved Of)) = 9
token_precedence _ = 0

-- the least precedence of the operators of a part
abbrev pub part_precedence : Part → ℕ
part_precedence (chained level.Or) = 1
part_precedence (chained level.And) = 2
part_precedence (chained level.Sum) = 6
part_precedence (chained level.Term) = 7
part_precedence negation = 3
part_precedence test = 4
part_precedence comparison = 5
part_precedence signed = 8
part_precedence primary = 9

-- no operator that a part may have stands at an index
abbrev pub EndsBefore : List Lexeme → Part → ℕ → Type 0
EndsBefore ts part j = token_precedence (kind_at ts j) < part_precedence part

-- what spells a part of the grammar, behind which no operator of that part stands, is the longest front that spells it
abbrev pub WholeIsLongest : Type 0
WholeIsLongest = (ts : List Lexeme) (part : Part) (i j k : ℕ) (d e : Tree) → Spells ts part i j d → EndsBefore ts part j → Spells ts part i k e → k ≤ j
