-- Where a text goes wrong: at the first token at which no statement goes on.
use Rattle.std.specs.Prelude.{◌≡◌, ◌<◌, ◌≤◌, ℕ, zero, suc, List, [], ◌∷◌, ◌++◌, length, take, Ok, All}
use Rattle.sql_lexer.specs.Lexeme.{ArePlaced, Lexeme, kind_at}
use Rattle.sql_lexer.specs.Lexing.{Lexes}
use Rattle.sql_lexer.specs.Parentheses.{open_count}
use Rattle.sql_ast.specs.declared.statement.Statement.{Statement}
use Rattle.sql_commands.specs.Statements.{SpellsStatement}
use Rattle.sql_parser.specs.Completions.{Words, completions}

-- the tokens of a text, all of them, spell some statement
abbrev pub SpellSome : List ℕ → List Lexeme → Type 0
SpellSome text ts = (s : Statement) × SpellsStatement text ts s

-- a text has such tokens
pub record IsSpelled (text : List ℕ) : Type 0 where
  pub tokens : List Lexeme
  pub lexed : Lexes text (Ok tokens)
  pub spelled : SpellSome text tokens

-- the tokens of a text, each with its place
pub record AreTokensOf (text : List ℕ) (ts : List Lexeme) : Type 0 where
  pub lexed : Lexes text (Ok ts)
  pub placed : ArePlaced text ts

-- a text with a fault has none
pub record HasNoTokens (text : List ℕ) : Type 0 where
  pub never : (ts : List Lexeme) → Lexes text (Ok ts) → ⊥

-- with some more a text is spelled
pub record IsBeginning (text : List ℕ) : Type 0 where
  pub rest : List ℕ
  pub whole : IsSpelled (text ++ rest)

-- so many parentheses that close
abbrev pub closed : ℕ → List ℕ
closed zero = []
closed (suc n) = closed n ++ 41 ∷ []

-- what follows a beginning that leaves so many parentheses open, from a new line on
abbrev pub rest_of : ℕ → Words → List ℕ
rest_of n words = (((10 ∷ [] ++ words.0) ++ closed n) ++ 32 ∷ []) ++ words.1

-- none of the words make a text with so many open parentheses one that is spelled
abbrev pub NoneCompletes : List ℕ → ℕ → List Words → Type 0
NoneCompletes text n table = All (λ words. IsSpelled (text ++ rest_of n words) → ⊥) table

-- where the token at an index begins, or the end where there is none
abbrev pub place_at : ℕ → List Lexeme → ℕ → ℕ
place_at end [] i = end
place_at end (t ∷ ts) zero = t.start
place_at end (t ∷ ts) (suc i) = place_at end ts i

-- the place is that of a token of the text, or the end: what stands before it begins a statement, and with the token nothing is known to
pub record IsPlaceAmong (text : List ℕ) (ts : List Lexeme) (place : ℕ) : Type 0 where
  pub index : ℕ
  pub within : index ≤ length ts
  pub stands : place ≡ place_at (length text) ts index
  pub before : 0 < index → IsBeginning (take place text)
  pub after : index < length ts → NoneCompletes (take (place_at (length text) ts (suc index)) text) (open_count (take (suc index) ts)) (completions (kind_at ts 0))

-- the whole of a text, if it has tokens, and else some front
pub record IsFront (text front : List ℕ) : Type 0 where
  pub end : ℕ
  pub within : end ≤ length text
  pub is : front ≡ take end text
  pub whole : (ts : List Lexeme) → Lexes text (Ok ts) → end ≡ length text

-- it is among the tokens of the text, or, where it has none, among those of a front
pub record GoesWrongAt (text : List ℕ) (place : ℕ) : Type 0 where
  pub front : List ℕ
  pub is : IsFront text front
  pub tokens : List Lexeme
  pub lexed : Lexes front (Ok tokens)
  pub among : IsPlaceAmong front tokens place
