-- What is bound is the statement of the written text.
use Rattle.std.proofs.Common.{◌≡◌, ℕ, false, List, [], ◌∷◌, refl, Option, Result, Ok, Err}
use Rattle.sql_types.specs.declared.value.Value.{Value}
use Rattle.statement_parameters.specs.declared.fault.BindFault.{BindFault}
use Rattle.statement_parameters.specs.declared.template.LabelledTemplate.{LabelledTemplate}
use Rattle.statement_parameters.specs.declared.types.ParameterType.{ParameterType}
use Rattle.statement_parameters.specs.Bindings.{IsBoundText, IsTemplateBinding}
use Rattle.statement_parameters.specs.Readings.{IsTemplateReading}
use Rattle.statement_parameters.specs.Written.{IsWrittenWith}
use Rattle.postgres_talks.specs.declared.fault.TalkFault.{TalkFault}
use Rattle.postgres_talks.specs.declared.piece.StatementPiece.{StatementPiece}
use Rattle.postgres_talks.specs.Parameters.{IsBoundByValues, IsPieceOfBound, only_piece, with_labels_of}
use Rattle.postgres_talks.specs.Pieces.{ArePiecesOf, labelled}
use Rattle.postgres_talks.specs.Statements.{IsWrittenStatement}

-- what is known of a text with values
pub record KnownTexts : Type 0 where
  pub written : (text : List ℕ) (read : LabelledTemplate) (values : List Value) (bound : List ℕ) → IsTemplateReading text (Ok read) → IsBoundText read.template values bound
      → IsWrittenWith text read.labels values bound

same_piece : (p q : StatementPiece) (r : Result StatementPiece TalkFault) → r ≡ Ok p → r ≡ Ok q → p ≡ q
same_piece p q r e f = cc

of_pieces : (text : List ℕ) (read : LabelledTemplate) (values : List Value) (p : StatementPiece) (bound : List ℕ) (ps : List StatementPiece) → IsWrittenWith text read.labels values bound
    → ArePiecesOf false bound ps → Ok p ≡ with_labels_of read.labels (only_piece ps) → IsWrittenStatement text read.labels values p
of_pieces text read values p bound [] written are e = absurd (cc)
of_pieces text read values p bound (q ∷ []) written are e = record {
  bound = bound;
  written = written;
  statement = q;
  is_of = are;
  is = same_piece p (labelled read.labels q) (Ok p) refl e;
}
of_pieces text read values p bound (q ∷ r ∷ ps) written are e = absurd (cc)

of_bound : KnownTexts → (text : List ℕ) (read : LabelledTemplate) (values : List Value) (p : StatementPiece) (o : Result (List ℕ) BindFault) → IsTemplateReading text (Ok read)
    → IsTemplateBinding read.template values o → IsPieceOfBound read.labels o (Ok p) → IsWrittenStatement text read.labels values p
of_bound known text read values p (Err f) reads binding is = absurd (cc)
of_bound known text read values p (Ok bound) reads binding is = of_pieces text read values p bound is.0 (known.written text read values bound reads binding.1) is.1 is.2

pub statement : KnownTexts → (text : List ℕ) (read : LabelledTemplate) (types : List ParameterType) (values : List Value) (p : StatementPiece) → IsTemplateReading text (Ok read)
    → IsBoundByValues (record { template = read.template; labels = read.labels; types = types }) (Ok values) (Ok p) → IsWrittenStatement text read.labels values p
statement known text read types values p reads k = of_bound known text read values p k.0 reads k.1 k.2
