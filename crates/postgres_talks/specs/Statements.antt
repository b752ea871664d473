-- What values make of a written text with parameters, as the one statement that it is.
use Rattle.std.specs.Prelude.{◌≡◌, ℕ, false, List, [], ◌∷◌, Option}
use Rattle.sql_types.specs.declared.value.Value.{Value}
use Rattle.statement_parameters.specs.Written.{IsWrittenWith}
use Rattle.postgres_talks.specs.declared.piece.StatementPiece.{StatementPiece}
use Rattle.postgres_talks.specs.Pieces.{ArePiecesOf, labelled}

-- It is the one statement of a text whose tokens are those of the written one, less its labels, each parameter the tokens of one literal;
-- and its columns have those labels.
pub record IsWrittenStatement (text : List ℕ) (labels : List (Option (List ℕ))) (values : List Value) (p : StatementPiece) : Type 0 where
  pub bound : List ℕ
  pub written : IsWrittenWith text labels values bound
  pub statement : StatementPiece
  pub is_of : ArePiecesOf false bound (statement ∷ [])
  pub is : p ≡ labelled labels statement
