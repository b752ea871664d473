-- What a text is answered, stage after stage, where Means says which values its tokens mean, and IsWithinDepth which of these are not too deep.
use Rattle.std.specs.Prelude.{◌≡◌, ◌<◌, ◌≤◌, ◌^◌, ℕ, Bool, false, nat_eq, if◌then◌else◌, List, length, map, Result, Ok, Err}
use Rattle.sql_types.specs.declared.state.SqlState.{SqlState}
use Rattle.sql_types.specs.declared.state.SqlState.TheVariants.{SyntaxError, NumericValueOutOfRange, ProgramLimitExceeded, OutOfMemory}
use Rattle.sql_types.specs.declared.state.Refusal.{Refusal}
use Rattle.sql_lexer.specs.Lexeme.{Lexeme}
use Rattle.sql_lexer.specs.Lexing.{Lexes}
use Rattle.sql_lexer.specs.Parentheses.{OpensTooMany}
use Rattle.sql_lexer.specs.declared.token.TokenKind.{TokenKind}
use Rattle.sql_lexer.specs.declared.token.TokenKind.TheVariants.{Number}
use Rattle.expr_parser.specs.declared.parse_error.ParseError.{ParseError}
use Rattle.expr_parser.specs.declared.parse_error.ParseError.TheVariants.{Syntax}

-- the number 2 ^ 63, which is the least BIGINT without its minus
abbrev pub is_least : TokenKind → Bool
is_least (Number n) = nat_eq n (2 ^ 63)
is_least _ = false

-- the number that stands only after a minus, made one that stands anywhere
abbrev pub zero_if_least : Lexeme → Lexeme
zero_if_least t = if is_least t.kind then record t { kind = Number 0 } else t

-- the tokens with each 2 ^ 63 made 0
abbrev pub least_as_zero : List Lexeme → List Lexeme
least_as_zero ts = map zero_if_least ts

-- the most bytes that a text may have
abbrev pub max_text_length : ℕ
max_text_length = 65536

-- if the syntax is why, then the tokens mean nothing
pub record MeansNothing {A : Type 0} (Means : List Lexeme → A → Type 0) (ts : List Lexeme) (e : ParseError) : Type 0 where
  pub never : e ≡ Syntax → (x : A) → Means ts x → ⊥

-- what is read from all tokens: a value that they mean, or why there is none
abbrev pub ReadsAll : {A : Type 0} → (List Lexeme → A → Type 0) → List Lexeme → Result A ParseError → Type 0
ReadsAll Means ts (Ok x) = Means ts x
ReadsAll Means ts (Err e) = MeansNothing Means ts e

-- the refusal with a code
abbrev pub refusal : SqlState → Refusal
refusal s = record { 0 = s }

-- what tokens are answered: a constructor for each stage, in their order
pub data Answers {A : Type 0} (Means : List Lexeme → A → Type 0) (IsWithinDepth : A → Type 0) (ts : List Lexeme) : Result A Refusal → Type 0 where
  too_many : OpensTooMany ts → Answers Means IsWithinDepth ts (Err (refusal ProgramLimitExceeded))
  ill_formed : (OpensTooMany ts → ⊥) → ((x : A) → Means ts x → ⊥) → ((x : A) → Means (least_as_zero ts) x → ⊥) → Answers Means IsWithinDepth ts (Err (refusal SyntaxError))
  out_of_range : {x : A} → (OpensTooMany ts → ⊥) → ((y : A) → Means ts y → ⊥) → Means (least_as_zero ts) x → Answers Means IsWithinDepth ts (Err (refusal NumericValueOutOfRange))
  too_deep : {x : A} → (OpensTooMany ts → ⊥) → Means ts x → (IsWithinDepth x → ⊥) → Answers Means IsWithinDepth ts (Err (refusal ProgramLimitExceeded))
  parsed : {x : A} → (OpensTooMany ts → ⊥) → Means ts x → IsWithinDepth x → Answers Means IsWithinDepth ts (Ok x)
  no_memory : Answers Means IsWithinDepth ts (Err (refusal OutOfMemory))

-- what a text is answered: its length, its tokens, and then what these are answered
pub data Parses {A : Type 0} (Means : List Lexeme → A → Type 0) (IsWithinDepth : A → Type 0) (text : List ℕ) : Result A Refusal → Type 0 where
  too_long : max_text_length < length text → Parses Means IsWithinDepth text (Err (refusal ProgramLimitExceeded))
  bad_token : {s : SqlState} → length text ≤ max_text_length → Lexes text (Err s) → Parses Means IsWithinDepth text (Err (refusal s))
  by_tokens : {ts : List Lexeme} {r : Result A Refusal} → length text ≤ max_text_length → Lexes text (Ok ts) → Answers Means IsWithinDepth ts r → Parses Means IsWithinDepth text r
  memory_refused : length text ≤ max_text_length → Parses Means IsWithinDepth text (Err (refusal OutOfMemory))

-- why tokens that mean nothing are refused
pub data Refuses {A : Type 0} (Means : List Lexeme → A → Type 0) (ts : List Lexeme) : Refusal → Type 0 where
  for_syntax : ((x : A) → Means (least_as_zero ts) x → ⊥) → Refuses Means ts (refusal SyntaxError)
  for_range : {x : A} → Means (least_as_zero ts) x → Refuses Means ts (refusal NumericValueOutOfRange)
  for_memory : Refuses Means ts (refusal OutOfMemory)
