-- The place at which the syntax of a text goes wrong, which is one.
use Rattle.std.specs.Prelude.{◌≡◌, ◌<◌, ◌≤◌, ◌⊎◌, ℕ, suc, ◌+◌, ◌-◌, ◌/◌, List, [], ◌∷◌, ◌++◌, length, take, Option, Some, None, Ok, Err}
use Rattle.sql_types.specs.declared.state.SqlState.TheVariants.{SyntaxError}
use Rattle.sql_lexer.specs.Lexeme.{Lexeme, kind_at}
use Rattle.sql_lexer.specs.Lexing.{Lexes}
use Rattle.sql_lexer.specs.Parentheses.{open_count}
use Rattle.expr_parser.specs.Stages.{Parses, refusal}
use Rattle.sql_parser.specs.Completions.{Words, completions}
use Rattle.sql_parser.specs.Forms.{Means, IsStatementWithinDepth}
use Rattle.sql_parser.specs.Places.{IsSpelled, place_at, rest_of}

-- the most bytes of a text in which a place is looked for
abbrev pub max_length : ℕ
max_length = 2048

-- its syntax is why a text is refused
abbrev pub IsMisread : List ℕ → Type 0
IsMisread text = Parses (Means text) IsStatementWithinDepth text (Err (refusal SyntaxError))

-- one of these words makes a statement of a text that leaves so many parentheses open
abbrev pub IsCompletedBy : List ℕ → ℕ → List Words → Type 0
IsCompletedBy text n [] = ⊥
IsCompletedBy text n (w ∷ ws) = IsSpelled (text ++ rest_of n w) ⊎ IsCompletedBy text n ws

-- what stands before the token at an index goes on to a statement
abbrev pub GoesOnToAStatement : List ℕ → List Lexeme → ℕ → Type 0
GoesOnToAStatement text ts i = IsCompletedBy (take (place_at (length text) ts i) text) (open_count (take i ts)) (completions (kind_at ts 0))

-- between two indices halving finds this one: the half is taken at whose end it holds, or else the one before
pub data Halves (Holds : ℕ → Type 0) : ℕ → ℕ → ℕ → Type 0 where
  found : {low high : ℕ} → high - low ≤ 1 → Halves Holds low high low
  raises : {low high i : ℕ} → 1 < high - low → Holds (low + (high - low) / 2) → Halves Holds (low + (high - low) / 2) high i → Halves Holds low high i
  lowers : {low high i : ℕ} → 1 < high - low → (Holds (low + (high - low) / 2) → ⊥) → Halves Holds low (low + (high - low) / 2) i → Halves Holds low high i

-- the text is refused for its syntax, and the token at that index begins at the place, or the text ends there
pub record IsWrongPlace (text : List ℕ) (place : ℕ) : Type 0 where
  pub short : length text ≤ max_length
  pub misread : IsMisread text
  pub tokens : List Lexeme
  pub lexed : Lexes text (Ok tokens)
  pub index : ℕ
  pub halves : Halves (GoesOnToAStatement text tokens) 0 (suc (length tokens)) index
  pub stands : place ≡ place_at (length text) tokens index

-- a text that is long, has a fault that is no token, or is not refused for its syntax has none
pub record HasNoPlace (text : List ℕ) : Type 0 where
  pub never : length text ≤ max_length → IsMisread text → (ts : List Lexeme) → Lexes text (Ok ts) → ⊥

abbrev pub IsSyntaxPlace : List ℕ → Option ℕ → Type 0
IsSyntaxPlace text (Some place) = IsWrongPlace text place
IsSyntaxPlace text None = HasNoPlace text
