-- What a written statement consists of, and the tokens that it has once its parameters have values.
use Rattle.std.specs.Prelude.{◌≡◌, ℕ, suc, ◌-◌, ◌==◌, ℤ, pos, negsuc, true, false, if◌then◌else◌, List, [], ◌∷◌, ◌++◌, map, codes, decimal, slice_get, Option, Some, None, Ok}
use Rattle.std.specs.List.{flat_map}
use Rattle.sql_types.specs.declared.value.Value.{Value}
use Rattle.sql_types.specs.declared.value.Value.TheVariants.{Null, Int, Text, Bool as Boolean}
use Rattle.sql_lexer.specs.Lexeme.{Lexeme}
use Rattle.sql_lexer.specs.Lexing.{Lexes}

-- a part of a written statement: a token of the language, by its bytes, or a parameter, the first of which is 1
pub data StatementPart : Type 0 where
  token : List ℕ → StatementPart
  parameter : ℕ → StatementPart

-- ---- the tokens of a value

-- in a literal each quote is written twice
abbrev pub doubled_quote : ℕ → List ℕ
doubled_quote b = if b == 39 then 39 ∷ 39 ∷ [] else b ∷ []

abbrev pub quoted_literal : List ℕ → List ℕ
quoted_literal text = 39 ∷ (flat_map doubled_quote text ++ (39 ∷ []))

-- a number below zero stands in parentheses, so that nothing is subtracted
abbrev pub number_tokens : ℤ → List (List ℕ)
number_tokens (pos n) = decimal n ∷ []
number_tokens (negsuc n) = codes "(" ∷ codes "-" ∷ decimal (suc n) ∷ codes ")" ∷ []

abbrev pub literal_tokens : Value → List (List ℕ)
literal_tokens Null = codes "NULL" ∷ []
literal_tokens (Int z) = number_tokens z
literal_tokens (Text t) = quoted_literal t ∷ []
literal_tokens (Boolean true) = codes "TRUE" ∷ []
literal_tokens (Boolean false) = codes "FALSE" ∷ []

-- ---- the tokens of a statement

-- one list behind another, where both are there
abbrev pub appended : {X : Type 0} → Option (List X) → Option (List X) → Option (List X)
appended None ys = None
appended (Some xs) None = None
appended (Some xs) (Some ys) = Some (xs ++ ys)

-- a token is itself; a parameter is a literal, if there is one of its number
abbrev pub part_tokens : List (List (List ℕ)) → StatementPart → Option (List (List ℕ))
part_tokens literals (token bytes) = Some (bytes ∷ [])
part_tokens literals (parameter n) = slice_get literals (n - 1)

abbrev pub tokens_with : List (List (List ℕ)) → List StatementPart → Option (List (List ℕ))
tokens_with literals [] = Some []
tokens_with literals (p ∷ ps) = appended (part_tokens literals p) (tokens_with literals ps)

-- the tokens of a statement with these values, if each parameter has one
abbrev pub bound_tokens : List Value → List StatementPart → Option (List (List ℕ))
bound_tokens values parts = tokens_with (map literal_tokens values) parts

-- ---- the tokens of a text

abbrev pub token_bytes : List Lexeme → List (List ℕ)
token_bytes ts = map (λ t. t.bytes) ts

-- the text has just these tokens
pub record HasExactTokens (expected : List (List ℕ)) (text : List ℕ) : Type 0 where
  pub tokens : List Lexeme
  pub lexes : Lexes text (Ok tokens)
  pub same : token_bytes tokens ≡ expected
