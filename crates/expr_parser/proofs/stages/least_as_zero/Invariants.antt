use Rattle.std.proofs.Common.{◌≡◌, map, take}
use Rattle.sql_lexer.specs.Lexeme.{lexemes}
use Rattle.expr_parser.specs.Stages.{zero_if_least}
use Rattle.expr_parser.proofs.stages.least_as_zero.Given as goal

abbrev pub invariant-loop-token : goal.invariant-loop-token
invariant-loop-token l = lexemes l.made.items ≡ map zero_if_least (lexemes (take l.token-index l.tokens))
