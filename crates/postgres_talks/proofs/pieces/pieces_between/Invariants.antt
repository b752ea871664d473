use Rattle.std.proofs.Common.{◌≡◌, ◌+◌, ◌++◌, List, length}
use Rattle.sql_lexer.specs.Lexeme.{lexemes}
use Rattle.postgres_talks.specs.declared.piece.StatementPiece.{StatementPiece}
use Rattle.postgres_talks.specs.Pieces.{ArePieces, slices_from}
use Rattle.postgres_talks.proofs.pieces.pieces_between.Given as goal

-- pieces of the slices that are left, behind those that were put, are pieces of all
abbrev pub invariant-loop-rest : goal.invariant-loop-rest
invariant-loop-rest l = record {
  place : l.at + length l.rest ≡ length l.tokens;
  pieces : (qs : List StatementPiece) → ArePieces l.is_written (slices_from l.text (lexemes l.tokens) l.first l.at (lexemes l.rest)) qs
      → ArePieces l.is_written (slices_from l.text (lexemes l.tokens) 0 0 (lexemes l.tokens)) (l.pieces ++ qs);
}

abbrev pub decreases-loop-rest : goal.decreases-loop-rest
decreases-loop-rest l = length l.rest
