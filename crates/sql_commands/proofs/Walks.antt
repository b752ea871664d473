-- What is read of a phrase part by part. That one token of look-ahead tells how it is read is asked once, of the whole phrase.
use Rattle.std.proofs.Common.{◌≡◌, ℕ, List, [], ◌∷◌, Some, Result, Ok, Err, IsErrAnd, sym, ◌∙◌}
use Rattle.std.specs.Prelude.{true, false}
use Rattle.sql_lexer.specs.Lexeme.{Lexeme, kind_at}
use Rattle.sql_lexer.specs.declared.token.TokenKind.{TokenKind}
use Rattle.expr_parser.specs.declared.parse_error.ParseError.{ParseError}
use Rattle.sql_grammar.specs.Classes.{exactly, is_number}
use Rattle.sql_grammar.specs.Phrases.{Phrase, gives, ◌▹◌, ◌⊛◌, ◌∣◌}
use Rattle.sql_grammar.specs.LookAhead.{nullable, first, is_determined, IsReading, HasNoReading, Reads}
use Rattle.sql_grammar.specs.Productions.{IsTokenAt, IsNoTokenAt}
use Rattle.sql_grammar.proofs.Determined.{of_two, of_choice, of_token}
use Rattle.sql_grammar.proofs.Steps as steps

-- what is read of a phrase, if it is determined
pub record Found {A : Type 0} (p : Phrase A) (ts : List Lexeme) (i j : ℕ) (x : A) : Type 0 where
  pub reading : is_determined p ≡ true → IsReading p ts i j x

-- that nothing is read of it, if it is determined
pub record Lost {A : Type 0} (p : Phrase A) (ts : List Lexeme) (i : ℕ) (e : ParseError) : Type 0 where
  pub no_reading : is_determined p ≡ true → HasNoReading p ts i e

pub read : {A : Type 0} {p : Phrase A} {ts : List Lexeme} {i j : ℕ} {x : A} → is_determined p ≡ true → Found p ts i j x → IsReading p ts i j x
read w r = r.reading w

pub lost : {A : Type 0} {p : Phrase A} {ts : List Lexeme} {i : ℕ} {e : ParseError} → is_determined p ≡ true → Lost p ts i e → HasNoReading p ts i e
lost w r = r.no_reading w

-- a part's failure is passed on
pub fails : {A : Type 0} (p : Phrase A) {ts : List Lexeme} {i : ℕ} {e : ParseError} (r : Result (A × ℕ) ParseError) → is_determined p ≡ true → Lost p ts i e → IsErrAnd r (λ d. d ≡ e) → Reads p ts i r
fails p (Ok x) w l h = absurd h
fails p (Err d) w l h = record { never = λ g. (l.no_reading w).never (sym h ∙ g) }

pub start : {A : Type 0} {x : A} {ts : List Lexeme} {i : ℕ} → Found (gives x) ts i i x
start = record { reading = λ w. steps.start }

-- ---- a token

pub token : {A : Type 0} {p : Phrase A} {t : TokenKind} {ts : List Lexeme} {i k j : ℕ} {x : A} → Found p ts i k x → IsTokenAt ts k t j → Found (p ▹ t) ts i j x
token {p = p} {t} r a = record { reading = λ w. steps.token w (r.reading (of_token p t w).0) a }

pub no_token : {A : Type 0} {p : Phrase A} {t : TokenKind} {ts : List Lexeme} {i k : ℕ} {x : A} {e : ParseError} → Found p ts i k x → IsNoTokenAt ts k t e → Lost (p ▹ t) ts i e
no_token {p = p} {t} r a = record { no_reading = λ w. steps.no_token w (r.reading (of_token p t w).0) a }

pub lost_token : {A : Type 0} {p : Phrase A} {t : TokenKind} {ts : List Lexeme} {i : ℕ} {e : ParseError} → Lost p ts i e → Lost (p ▹ t) ts i e
lost_token {p = p} {t} r = record { no_reading = λ w. steps.lost_token w (r.no_reading (of_token p t w).0) }

-- ---- another phrase

pub phrase : {A B : Type 0} {p : Phrase (A → B)} {q : Phrase A} {ts : List Lexeme} {i k j : ℕ} {f : A → B} {x : A} → Found p ts i k f → IsReading q ts k j x → Found (p ⊛ q) ts i j (f x)
phrase {p = p} {q} r a = record { reading = λ w. steps.phrase w (r.reading (of_two p q w).0) a }

pub no_phrase : {A B : Type 0} {p : Phrase (A → B)} {q : Phrase A} {ts : List Lexeme} {i k : ℕ} {f : A → B} {e : ParseError} → Found p ts i k f → HasNoReading q ts k e → Lost (p ⊛ q) ts i e
no_phrase {p = p} {q} r a = record { no_reading = λ w. steps.no_phrase w (r.reading (of_two p q w).0) a }

pub lost_phrase : {A B : Type 0} {p : Phrase (A → B)} {q : Phrase A} {ts : List Lexeme} {i : ℕ} {e : ParseError} → Lost p ts i e → Lost (p ⊛ q) ts i e
lost_phrase {p = p} {q} r = record { no_reading = λ w. steps.lost_phrase w (r.no_reading (of_two p q w).0) }

-- ---- a phrase that is walked too

pub both : {A B : Type 0} {p : Phrase (A → B)} {q : Phrase A} {ts : List Lexeme} {i k j : ℕ} {f : A → B} {x : A} → Found p ts i k f → Found q ts k j x → Found (p ⊛ q) ts i j (f x)
both {p = p} {q} r a = record { reading = λ w. let v = of_two p q w in steps.phrase w (r.reading v.0) (a.reading v.1) }

pub no_second : {A B : Type 0} {p : Phrase (A → B)} {q : Phrase A} {ts : List Lexeme} {i k : ℕ} {f : A → B} {e : ParseError} → Found p ts i k f → Lost q ts k e → Lost (p ⊛ q) ts i e
no_second {p = p} {q} r a = record { no_reading = λ w. let v = of_two p q w in steps.no_phrase w (r.reading v.0) (a.no_reading v.1) }

-- ---- one of two

pub left_by : {A : Type 0} {p q : Phrase A} {ts : List Lexeme} {i j : ℕ} {x : A} (t : TokenKind) → first p ≡ exactly t ∷ [] → kind_at ts i ≡ Some t → Found p ts i j x → Found (p ∣ q) ts i j x
left_by {p = p} {q} t f h r = record { reading = λ w. steps.left_by t w f h (r.reading (of_choice p q w).0) }

pub no_left_by : {A : Type 0} {p q : Phrase A} {ts : List Lexeme} {i : ℕ} {e : ParseError} (t : TokenKind) → first p ≡ exactly t ∷ [] → kind_at ts i ≡ Some t → Lost p ts i e → Lost (p ∣ q) ts i e
no_left_by {p = p} {q} t f h r = record { no_reading = λ w. steps.no_left_by t w f h (r.no_reading (of_choice p q w).0) }

pub right_by : {A : Type 0} {p q : Phrase A} {ts : List Lexeme} {i j : ℕ} {x : A} (t : TokenKind) → first p ≡ exactly t ∷ [] → nullable p ≡ false → is_number t ≡ false → (kind_at ts i ≡ Some t → ⊥) → Found q ts i j x → Found (p ∣ q) ts i j x
right_by {p = p} {q} t f n z never r = record { reading = λ w. steps.right_by t w f n z never (r.reading (of_choice p q w).1) }

pub no_right_by : {A : Type 0} {p q : Phrase A} {ts : List Lexeme} {i : ℕ} {e : ParseError} (t : TokenKind) → first p ≡ exactly t ∷ [] → nullable p ≡ false → is_number t ≡ false → (kind_at ts i ≡ Some t → ⊥) → Lost q ts i e → Lost (p ∣ q) ts i e
no_right_by {p = p} {q} t f n z never r = record { no_reading = λ w. steps.no_right_by t w f n z never (r.no_reading (of_choice p q w).1) }
