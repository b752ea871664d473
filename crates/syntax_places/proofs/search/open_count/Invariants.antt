use Rattle.std.proofs.Common.{◌≡◌, ◌≤◌, take}
use Rattle.sql_lexer.specs.Lexeme.{lexemes}
use Rattle.sql_lexer.specs.Parentheses.{open_count}
use Rattle.syntax_places.proofs.search.open_count.Given as goal

abbrev pub invariant-loop-token : goal.invariant-loop-token
invariant-loop-token l = (l.count ≡ open_count (take l.token-index (lexemes l.tokens))) × (l.count ≤ l.token-index)
