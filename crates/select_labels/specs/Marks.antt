-- Tokens that are left out of others, and those that are kept.
use Rattle.std.specs.Prelude.{◌≡◌, ℕ, Bool, true, false, List, [], ◌∷◌, drop, length, Some, Ok}
use Rattle.sql_lexer.specs.Lexeme.{Lexeme}
use Rattle.sql_lexer.specs.Lexing.{Lexes}
use Rattle.select_labels.specs.declared.unlabelled.Unlabelled.{Unlabelled}
use Rattle.select_labels.specs.Labels.{TheLabel, label_tokens}
use Rattle.select_labels.specs.Unlabelled.{label_names, labels_of}
use Rattle.std.specs.Prelude.{Option}

-- the tokens that have a mark; behind the last mark none has one
abbrev pub marked : List Bool → List Lexeme → List Lexeme
marked [] ts = []
marked (m ∷ ms) [] = []
marked (true ∷ ms) (t ∷ ts) = t ∷ marked ms ts
marked (false ∷ ms) (t ∷ ts) = marked ms ts

-- the others
abbrev pub unmarked : List Bool → List Lexeme → List Lexeme
unmarked [] ts = ts
unmarked (m ∷ ms) [] = []
unmarked (true ∷ ms) (t ∷ ts) = unmarked ms ts
unmarked (false ∷ ms) (t ∷ ts) = t ∷ unmarked ms ts

-- Of the tokens of a text those of labels are left out, each AS and the name behind it. All others are the tokens of the text without its
-- labels: of the same kinds and bytes, at the same places.
pub record LeavesOutLabels (text : List ℕ) (ts : List Lexeme) (u : Unlabelled) : Type 0 where
  pub labels : List (Option TheLabel)
  pub found : labels_of (drop 1 ts) ≡ Some labels
  pub names : u.labels ≡ label_names labels
  pub marks : List Bool
  pub left_out : marked marks ts ≡ label_tokens labels
  pub kept : Lexes u.text (Ok (unmarked marks ts))
  pub as_long : length u.text ≡ length text
