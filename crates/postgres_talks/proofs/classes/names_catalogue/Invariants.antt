use Rattle.std.proofs.Common.{◌≡◌, length}
use Rattle.sql_lexer.specs.Lexeme.{lexemes}
use Rattle.postgres_talks.specs.Pieces.{names_catalogue}
use Rattle.postgres_talks.proofs.classes.names_catalogue.Given as goal

abbrev pub invariant-loop-tokens : goal.invariant-loop-tokens
invariant-loop-tokens l = names_catalogue (lexemes l.tokens) ≡ names_catalogue (lexemes l.initial.tokens)

abbrev pub decreases-loop-tokens : goal.decreases-loop-tokens
decreases-loop-tokens l = length l.tokens
