use Rattle.std.proofs.Common.{◌≡◌, length}
use Rattle.sql_lexer.specs.Lexeme.{lexemes}
use Rattle.diagnostics.specs.Aliases.{first_alias}
use Rattle.diagnostics.proofs.aliases.first_alias.Given as goal

abbrev pub invariant-loop-tokens : goal.invariant-loop-tokens
invariant-loop-tokens l = first_alias (lexemes l.tokens) ≡ first_alias (lexemes l.initial.tokens)

abbrev pub decreases-loop-tokens : goal.decreases-loop-tokens
decreases-loop-tokens l = length l.tokens
