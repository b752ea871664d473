-- One token of look-ahead: which tokens can begin a phrase, and which can extend it.
use Rattle.std.specs.Prelude.{◌≡◌, ℕ, Bool, true, false, not, ◌&&◌, ◌||◌, if◌then◌else◌, List, [], ◌∷◌, ◌++◌, Option, Some, None, Result, Ok, Err}
use Rattle.sql_lexer.specs.Lexeme.{Lexeme, kind_at}
use Rattle.sql_lexer.specs.declared.token.TokenKind.{TokenKind}
use Rattle.sql_lexer.specs.declared.token.TokenKind.TheVariants.{Reserved, Unreserved, Number, Punctuation}
use Rattle.sql_lexer.specs.declared.token.Reserved.TheVariants.{Or, And, Is}
use Rattle.sql_lexer.specs.declared.token.Unreserved.TheVariants.{Of}
use Rattle.sql_lexer.specs.declared.token.Punctuation.TheVariants.{Comma, Dot, Star, Plus, Minus, Slash, Percent, Equal, NotEqual, Less, LessOrEqual, Greater, GreaterOrEqual}
use Rattle.expr_parser.specs.declared.parse_error.ParseError.{ParseError}
use Rattle.expr_parser.specs.declared.parse_error.ParseError.TheVariants.{Syntax}
use Rattle.sql_grammar.specs.Classes.{Class, exactly, names, no_star, is_number, in_any, apart}
use Rattle.sql_grammar.specs.Phrases.{Phrase, gives, ◌▹◌, ◌⊛◌, ◌∣◌, listed, many, word_of, name, number, expr, sort_key_expression, clause, Spells, StandsFor}

-- the tokens that can extend an expression: the operators, the dot after a table, and the OF behind MEMBER
abbrev pub operators : List Class
operators =
    exactly (Reserved Or) ∷ exactly (Reserved And) ∷ exactly (Reserved Is) ∷
    exactly (Punctuation Equal) ∷ exactly (Punctuation NotEqual) ∷
    exactly (Punctuation Less) ∷ exactly (Punctuation LessOrEqual) ∷
    exactly (Punctuation Greater) ∷ exactly (Punctuation GreaterOrEqual) ∷
    exactly (Punctuation Plus) ∷ exactly (Punctuation Minus) ∷
    exactly (Punctuation Star) ∷ exactly (Punctuation Slash) ∷
    exactly (Punctuation Percent) ∷ exactly (Punctuation Dot) ∷
    exactly (Unreserved Of) ∷ []

-- the classes, if the test holds
abbrev pub if_so : Bool → List Class → List Class
if_so t cs = if t then cs else []

-- the words of a table
abbrev pub words_in : {A : Type 0} → List (TokenKind × A) → List Class
words_in [] = []
words_in (e ∷ es) = exactly e.0 ∷ words_in es

-- whether a table has no word twice
abbrev pub has_no_doubles : {A : Type 0} → List (TokenKind × A) → Bool
has_no_doubles [] = true
has_no_doubles (e ∷ es) = not (in_any (words_in es) (Some e.0)) && has_no_doubles es

-- whether no entry of a table is a number
abbrev pub has_words : {A : Type 0} → List (TokenKind × A) → Bool
has_words [] = true
has_words (e ∷ es) = not (is_number e.0) && has_words es

-- the value beside the word of this kind, or None where it is none of the words
abbrev pub FindsWord : {A : Type 0} → List (TokenKind × A) → Option TokenKind → Option A → Type 0
FindsWord {A} table k None = (y : A) → StandsFor table k y → ⊥
FindsWord table k (Some x) = StandsFor table k x

-- whether a phrase may have no token
abbrev pub nullable : {A : Type 0} → Phrase A → Bool
nullable (gives x) = true
nullable (p ▹ t) = false
nullable (p ⊛ q) = nullable p && nullable q
nullable (p ∣ q) = nullable p || nullable q
nullable (many p) = true
nullable _ = false

-- the tokens that can begin it
abbrev pub first : {A : Type 0} → Phrase A → List Class
first (gives x) = []
first (p ▹ t) = first p ++ if_so (nullable p) (exactly t ∷ [])
first (p ⊛ q) = first p ++ if_so (nullable p) (first q)
first (p ∣ q) = first p ++ first q
first (listed p) = first p
first (many p) = first p
first (word_of table) = words_in table
first name = names ∷ []
first number = exactly (Number 0) ∷ []
first expr = no_star ∷ []
first sort_key_expression = no_star ∷ []
first (clause source) = no_star ∷ []

-- the tokens that can extend it
abbrev pub extends : {A : Type 0} → Phrase A → List Class
extends (p ⊛ q) = extends q ++ if_so (nullable q) (extends p)
extends (p ∣ q) = extends p ++ extends q ++ if_so (nullable q) (first p) ++ if_so (nullable p) (first q)
extends (listed p) = exactly (Punctuation Comma) ∷ extends p
extends (many p) = first p ++ extends p
extends expr = operators
extends sort_key_expression = operators
extends (clause source) = operators
extends _ = []

-- whether one token of look-ahead tells how it is read
abbrev pub is_determined : {A : Type 0} → Phrase A → Bool
is_determined (p ▹ t) = is_determined p && apart (extends p) (exactly t ∷ [])
is_determined (p ⊛ q) = is_determined p && is_determined q && apart (extends p) (first q)
is_determined (p ∣ q) = is_determined p && is_determined q && apart (first p) (first q) && not (nullable p && nullable q)
is_determined (listed p) = is_determined p && not (nullable p) && apart (extends p) (exactly (Punctuation Comma) ∷ [])
is_determined (many p) = is_determined p && not (nullable p) && apart (extends p) (first p)
is_determined (word_of table) = has_no_doubles table
is_determined _ = true

-- a token of this kind can begin the phrase
abbrev pub CanBegin : {A : Type 0} → Phrase A → Option TokenKind → Type 0
CanBegin p k = in_any (first p) k ≡ true

-- no token at n can extend the phrase
abbrev pub Ends : {A : Type 0} → Phrase A → List Lexeme → ℕ → Type 0
Ends p ts n = in_any (extends p) (kind_at ts n) ≡ false

-- x is spelled from i to before j, and whatever is spelled from i and ends where no token can extend it is this
pub record IsReading {A : Type 0} (p : Phrase A) (ts : List Lexeme) (i j : ℕ) (x : A) : Type 0 where
  pub spelled : Spells ts p i j x
  pub only : (n : ℕ) (y : A) → Spells ts p i n y → Ends p ts n → (n ≡ j) × (y ≡ x)

-- if the syntax is why, then nothing is spelled from i on and ends where no token can extend it
pub record HasNoReading {A : Type 0} (p : Phrase A) (ts : List Lexeme) (i : ℕ) (e : ParseError) : Type 0 where
  pub never : e ≡ Syntax → (n : ℕ) (y : A) → Spells ts p i n y → Ends p ts n → ⊥

-- what is read from i on: the one reading and its end, or why there is none
abbrev pub Reads : {A : Type 0} → Phrase A → List Lexeme → ℕ → Result (A × ℕ) ParseError → Type 0
Reads p ts i (Ok found) = IsReading p ts i found.1 found.0
Reads p ts i (Err e) = HasNoReading p ts i e
