use Rattle.std.proofs.Common.{◌≡◌, ◌∙◌, ℕ, List, [], Option, Some, None, ap, sym}
use Rattle.std.proofs.lemmas.Result.{IfOk-weaker}
use Rattle.sql_lexer.specs.Lexeme.{Lexeme, lexemes}
use Rattle.postgres_talks.specs.declared.piece.StatementPiece.{StatementPiece}
use Rattle.postgres_talks.specs.declared.piece.StatementPiece.TheVariants as piece
use Rattle.postgres_talks.specs.declared.settled.Settled.{Settled}
use Rattle.postgres_talks.specs.declared.settled.Substitute.{Substitute}
use Rattle.postgres_talks.specs.Pieces.{by_settled, by_substitute, line_of}
use Rattle.postgres_talks.specs.Settled.{lines, settled_in, substitute_in, substitutes}
use Rattle.postgres_talks.proofs.classes.piece_of.Goals as goal

settled_so : (f : List ℕ → Option Settled) (line bytes slice : List ℕ) (ts : List Lexeme) (o : Option Settled) (s : Settled) (ls : List (Option (List ℕ))) → bytes ≡ line → o ≡ f bytes → o ≡ Some s
    → ls ≡ [] → piece.Settled s ls ≡ by_settled (f line) slice ts
settled_so f line bytes slice ts o s ls same is found none = ap (λ (l : List (Option (List ℕ))). piece.Settled s l) none ∙ sym (ap (λ (p : Option Settled). by_settled p slice ts) (ap f (sym same) ∙ sym is ∙ found))

other_so : (f : List ℕ → Option Settled) (bytes again slice : List ℕ) (ts : List Lexeme) (o : Option Settled) (q : Option Substitute) (r : StatementPiece)
    → bytes ≡ line_of ts → again ≡ line_of ts → o ≡ f bytes → o ≡ None → q ≡ substitute_in substitutes again → r ≡ by_substitute q slice ts → r ≡ by_settled (f (line_of ts)) slice ts
other_so f bytes again slice ts o q r same twice is missing found made =
    made ∙ ap (λ (p : Option Substitute). by_substitute p slice ts) (found ∙ ap (substitute_in substitutes) twice)
    ∙ sym (ap (λ (p : Option Settled). by_settled p slice ts) (ap f (sym same) ∙ sym is ∙ missing))

pub returns-in-Some : goal.returns-in-Some
returns-in-Some c =
    settled_so (settled_in lines) (line_of (lexemes c.args.tokens.now)) c.as_str.result.now c.args.slice.now (lexemes c.args.tokens.now) c.of_line.result c.in-Some.settled c.new.result
    (c.as_str.ensures.value ∙ c.in_ok-line.ensures) c.of_line.ensures c.in-Some.is c.new.ensures

pub returns : goal.returns
returns c =
    IfOk-weaker c.by_substitute.result _ _
    (λ piece made. other_so (settled_in lines) c.as_str.result.now c.as_str-in-None.result.now c.args.slice.now (lexemes c.args.tokens.now) c.of_line.result _ piece
    (c.as_str.ensures.value ∙ c.in_ok-line.ensures) (c.as_str-in-None.ensures.value ∙ c.in_ok-line.ensures) c.of_line.ensures c.in-None.is c.substitute_of.ensures made)
    c.by_substitute.ensures
