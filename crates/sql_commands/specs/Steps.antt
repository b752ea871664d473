-- What is read step by step: what is read so far, and what is after one step more.
use Rattle.std.specs.Prelude.{◌≡◌, ℕ, List, Result, Ok, Err, IsErrAnd}
use Rattle.sql_lexer.specs.Lexeme.{Lexeme}
use Rattle.sql_lexer.specs.declared.token.TokenKind.{TokenKind}
use Rattle.expr_parser.specs.declared.parse_error.ParseError.{ParseError}
use Rattle.sql_grammar.specs.Phrases.{Phrase}
use Rattle.sql_grammar.specs.LookAhead.{IsReading, HasNoReading}
use Rattle.sql_grammar.specs.Productions.{IsTokenAt, IsNoTokenAt}

-- values and the index after them, or why there are none
abbrev pub Read : Type 0 → Type 0
Read A = Result (A × ℕ) ParseError

-- after these values a token of this kind stands
abbrev pub HasToken : {A : Type 0} → TokenKind → List Lexeme → A × ℕ → Read A → Type 0
HasToken t ts v (Ok w) = (w.0 ≡ v.0) × IsTokenAt ts v.1 t w.1
HasToken t ts v (Err e) = IsNoTokenAt ts v.1 t e

abbrev pub HasTokenNext : {A : Type 0} → TokenKind → List Lexeme → Read A → Read A → Type 0
HasTokenNext t ts (Ok v) r = HasToken t ts v r
HasTokenNext t ts (Err e) r = IsErrAnd r (λ d. d ≡ e)

-- a token of this kind stands next; where nothing was read before, nothing is, for the same reason
pub record PassesToken {A : Type 0} (t : TokenKind) (ts : List Lexeme) (before after : Read A) : Type 0 where
  pub next : HasTokenNext t ts before after

-- after these values the phrase is read
abbrev pub HasReading : {A B : Type 0} → Phrase B → List Lexeme → A × ℕ → Read (A × B) → Type 0
HasReading p ts v (Ok w) = (w.0.0 ≡ v.0) × IsReading p ts v.1 w.1 w.0.1
HasReading p ts v (Err e) = HasNoReading p ts v.1 e

abbrev pub HasReadingNext : {A B : Type 0} → Phrase B → List Lexeme → Read A → Read (A × B) → Type 0
HasReadingNext p ts (Ok v) r = HasReading p ts v r
HasReadingNext p ts (Err e) r = IsErrAnd r (λ d. d ≡ e)

-- the phrase is read next; where nothing was read before, nothing is, for the same reason
pub record ReadsNext {A B : Type 0} (p : Phrase B) (ts : List Lexeme) (before : Read A) (after : Read (A × B)) : Type 0 where
  pub next : HasReadingNext p ts before after
