use Rattle.std.proofs.Common.{◌≡◌, length}
use Rattle.sql_lexer.specs.Lexeme.{lexemes}
use Rattle.diagnostics.specs.LeftOut.{text_from}
use Rattle.diagnostics.proofs.left_out.text_from.Given as goal

abbrev pub invariant-loop-tokens : goal.invariant-loop-tokens
invariant-loop-tokens l = text_from l.place (lexemes l.tokens) ≡ text_from l.place (lexemes l.initial.tokens)

abbrev pub decreases-loop-tokens : goal.decreases-loop-tokens
decreases-loop-tokens l = length l.tokens
