use Rattle.std.proofs.Common.{◌≡◌, length, []}
use Rattle.std.specs.Str.{IsUtf8}
use Rattle.sql_lexer.specs.Lexeme.{lexemes}
use Rattle.diagnostics.specs.LeftOut.{text_before}
use Rattle.diagnostics.proofs.left_out.text_before.Given as goal

abbrev pub invariant-loop-tokens : goal.invariant-loop-tokens
invariant-loop-tokens l = record {
  text : IsUtf8 l.text;
  rest : text_before l.text l.place (lexemes l.tokens) ≡ text_before [] l.place (lexemes l.initial.tokens);
}

abbrev pub decreases-loop-tokens : goal.decreases-loop-tokens
decreases-loop-tokens l = length l.tokens
