-- The statements of a text are the same, whoever cuts it.
use Rattle.std.proofs.Common.{◌≡◌, ◌∙◌, ℕ, Bool, true, false, List, [], ◌∷◌, refl, sym, ap, subst, Option, Some, None, Result, Ok, Err}
use Rattle.std.specs.Prelude.{length, nat_lt}
use Rattle.sql_types.specs.declared.state.SqlState.{SqlState}
use Rattle.sql_lexer.specs.Lexeme.{Lexeme}
use Rattle.sql_lexer.specs.Lexing.{Lexes}
use Rattle.select_labels.specs.declared.unlabelled.Unlabelled.{Unlabelled}
use Rattle.select_labels.specs.Unlabelled.{IsUnlabelledUnless, IsWithoutLabels, may_have_labels, without_labels_if}
use Rattle.syntax_places.proofs.OnePlace.{one_place}
use Rattle.postgres_talks.specs.declared.piece.StatementPiece.{StatementPiece}
use Rattle.postgres_talks.specs.Pieces.{ArePieces, ArePiecesBy, ArePiecesOf, ArePiecesOrEmpty, IsOwnIf, IsOwnPiece, IsPiece, IsPieceIf, IsPieceWithout, IsPlacedIn, IsWholePiece, TheSlice, asked_text, labelled, piece_by, piece_of, placed_in, slices_from, tells_place}

-- a text has one list of tokens
module _ (one_lexing : (text : List ℕ) (r s : Result (List Lexeme) SqlState) → Lexes text r → Lexes text s → r ≡ s) where
  -- ---- labels

  one_unlabelled_unless : (b : Bool) (text : List ℕ) (o p : Option Unlabelled) → IsUnlabelledUnless b text o → IsUnlabelledUnless b text p → o ≡ p
  one_unlabelled_unless true text o p one other = one ∙ sym other
  one_unlabelled_unless false text o p one other = one.is ∙ ap (without_labels_if text) (one_lexing text one.tokens other.tokens one.lexes other.lexes) ∙ sym other.is

  one_unlabelled : (text : List ℕ) (o p : Option Unlabelled) → IsWithoutLabels text o → IsWithoutLabels text p → o ≡ p
  one_unlabelled text o p one other = one_unlabelled_unless (nat_lt 65536 (length text)) text o p one other

  -- ---- one statement

  one_whole : (text : List ℕ) (p q : StatementPiece) → IsWholePiece text p → IsWholePiece text q → p ≡ q
  one_whole text p q one other = one.piece_is ∙ ap (piece_by text) (one_lexing text one.tokens other.tokens one.lexes other.lexes) ∙ sym other.piece_is

  one_placed_in : (o : Option (List ℕ)) (before : List ℕ) (of p q : StatementPiece) → IsPlacedIn o before of p → IsPlacedIn o before of q → p ≡ q
  one_placed_in None before of p q one other = one ∙ sym other
  one_placed_in (Some text) before of p q one other =
      one.2 ∙ ap (λ (found : Option ℕ). placed_in before text found of) (one_place one_lexing text one.0 other.0 one.1 other.1) ∙ sym other.2

  one_own_if : (tells : Bool) (before : List ℕ) (of p q : StatementPiece) → IsOwnIf tells before of p → IsOwnIf tells before of q → p ≡ q
  one_own_if true before of p q one other = one_placed_in (asked_text of) before of p q one other
  one_own_if false before of p q one other = one ∙ sym other

  -- `w` tells whether the text is as its client wrote it
  one_own : (w : Bool) (before : List ℕ) (of p q : StatementPiece) → IsOwnPiece w before of p → IsOwnPiece w before of q → p ≡ q
  one_own w before of p q one other = one_own_if (tells_place w before) before of p q one other

  one_without : (w : Bool) (o : Option Unlabelled) (s : TheSlice) (p q : StatementPiece) → IsPieceWithout w o s p → IsPieceWithout w o s q → p ≡ q
  one_without w None s p q one other = one_own w s.before (piece_of s.text s.tokens) p q one other
  one_without w (Some u) s p q one other = one.2 ∙ ap (labelled u.labels) (one_whole u.text one.0 other.0 one.1 other.1) ∙ sym other.2

  one_piece_if : (w b : Bool) (s : TheSlice) (p q : StatementPiece) → IsPieceIf w b s p → IsPieceIf w b s q → p ≡ q
  one_piece_if w false s p q one other = one_own w s.before (piece_of s.text s.tokens) p q one other
  one_piece_if w true s p q one other =
      one_without w other.0 s p q (subst (λ (o : Option Unlabelled). IsPieceWithout w o s p) (one_unlabelled s.text one.0 other.0 one.1 other.1) one.2) other.2

  one_piece : (w : Bool) (s : TheSlice) (p q : StatementPiece) → IsPiece w s p → IsPiece w s q → p ≡ q
  one_piece w s p q one other = one_piece_if w (may_have_labels s.tokens) s p q one other

  -- ---- the statements of a text

  put_before : (p q : StatementPiece) (ps qs : List StatementPiece) → p ≡ q → ps ≡ qs → p ∷ ps ≡ q ∷ qs
  put_before p q ps qs first others = ap (λ (x : StatementPiece). x ∷ ps) first ∙ ap (λ (xs : List StatementPiece). q ∷ xs) others

  one_for_each : (w : Bool) (ss : List TheSlice) (ps qs : List StatementPiece) → ArePieces w ss ps → ArePieces w ss qs → ps ≡ qs
  one_for_each w [] [] [] one other = refl
  one_for_each w [] [] (q ∷ qs) one other = absurd other
  one_for_each w [] (p ∷ ps) qs one other = absurd one
  one_for_each w (s ∷ ss) [] qs one other = absurd one
  one_for_each w (s ∷ ss) (p ∷ ps) [] one other = absurd other
  one_for_each w (s ∷ ss) (p ∷ ps) (q ∷ qs) one other = put_before p q ps qs (one_piece w s p q one.0 other.0) (one_for_each w ss ps qs one.1 other.1)

  one_or_empty : (w : Bool) (ss : List TheSlice) (ps qs : List StatementPiece) → ArePiecesOrEmpty w ss ps → ArePiecesOrEmpty w ss qs → ps ≡ qs
  one_or_empty w [] ps qs one other = one ∙ sym other
  one_or_empty w (s ∷ ss) ps qs one other = one_for_each w (s ∷ ss) ps qs one other

  one_by : (w : Bool) (text : List ℕ) (r : Result (List Lexeme) SqlState) (ps qs : List StatementPiece) → ArePiecesBy w text r ps → ArePiecesBy w text r qs → ps ≡ qs
  one_by w text (Ok ts) ps qs one other = one_or_empty w (slices_from text ts 0 0 ts) ps qs one other
  one_by w text (Err state) ps qs one other = one ∙ sym other

  pub one_list : (w : Bool) (text : List ℕ) (ps qs : List StatementPiece) → ArePiecesOf w text ps → ArePiecesOf w text qs → ps ≡ qs
  one_list w text ps qs one other =
      one_by w text other.tokens ps qs (subst (λ (r : Result (List Lexeme) SqlState). ArePiecesBy w text r ps) (one_lexing text one.tokens other.tokens one.lexes other.lexes) one.pieces_are) other.pieces_are
