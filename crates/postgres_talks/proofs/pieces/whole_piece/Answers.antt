use Rattle.std.proofs.Common.{◌≡◌, ◌∙◌, ℕ, List, Ok, ap}
use Rattle.std.proofs.lemmas.Result.{IfOk-weaker}
use Rattle.sql_lexer.specs.declared.token.Token.{Token}
use Rattle.sql_lexer.specs.Lexeme.{lexemes}
use Rattle.sql_lexer.specs.Lexing.{Lexes}
use Rattle.postgres_talks.specs.declared.piece.StatementPiece.{StatementPiece}
use Rattle.postgres_talks.specs.Pieces.{IsWholePiece, piece_of}
use Rattle.postgres_talks.proofs.pieces.whole_piece.Goals as goal

whole_so : (text : List ℕ) (found lent : List Token) (p : StatementPiece) → Lexes text (Ok (lexemes found)) → lent ≡ found → p ≡ piece_of text (lexemes lent) → IsWholePiece text p
whole_so text found lent p lexes same is = record { tokens = Ok (lexemes found); lexes = lexes; piece_is = is ∙ ap (λ (ts : List Token). piece_of text (lexemes ts)) same }

pub returns-in-Ok : goal.returns-in-Ok
returns-in-Ok c =
    IfOk-weaker c.piece_of.result _ _ (λ p is. whole_so c.args.text.now _ c.deref.result.now p c.in-Ok.ensures.tokens c.deref.ensures.value is) c.piece_of.ensures
