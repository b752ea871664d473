-- A written text, and the texts that values make of it: its labels are left out, and each parameter is a literal.
use Rattle.std.specs.Prelude.{◌≡◌, ℕ, Bool, List, [], ◌∷◌, drop, Option, Some, None, Ok}
use Rattle.sql_types.specs.declared.value.Value.{Value}
use Rattle.sql_lexer.specs.Lexeme.{Lexeme}
use Rattle.sql_lexer.specs.Lexing.{Lexes}
use Rattle.select_labels.specs.Labels.{TheLabel, label_tokens}
use Rattle.select_labels.specs.Marks.{marked, unmarked}
use Rattle.select_labels.specs.Unlabelled.{label_names, labels_of}
use Rattle.statement_parameters.specs.Masks.{masked}
use Rattle.statement_parameters.specs.Parts.{StatementPart, bound_tokens, HasExactTokens}
use Rattle.statement_parameters.specs.Templates.{number_behind, part_by}

-- ---- the parts that tokens of a masked text are

abbrev pub with_part : Option StatementPart → Option (List StatementPart) → Option (List StatementPart)
with_part None ps = None
with_part (Some p) None = None
with_part (Some p) (Some ps) = Some (p ∷ ps)

-- a number behind the sign of a parameter is one, and any other token is itself
abbrev pub parts_by : List ℕ → List Lexeme → Option (List StatementPart)
parts_by text [] = Some []
parts_by text (t ∷ ts) = with_part (part_by (number_behind text t) t.bytes) (parts_by text ts)

-- ---- the tokens of labels

-- the marks are those of the labels of the list behind SELECT, each AS and the name behind it, and these are their names
pub record AreMarksOfLabels (names : List (Option (List ℕ))) (ts : List Lexeme) (marks : List Bool) : Type 0 where
  pub labels : List (Option TheLabel)
  pub found : labels_of (drop 1 ts) ≡ Some labels
  pub names_are : names ≡ label_names labels
  pub left_out : marked marks ts ≡ label_tokens labels

-- without labels no token has a mark
abbrev pub AreMarksOf : List (Option (List ℕ)) → List Lexeme → List Bool → Type 0
AreMarksOf [] ts marks = marked marks ts ≡ []
AreMarksOf (n ∷ ns) ts marks = AreMarksOfLabels (n ∷ ns) ts marks

-- ---- the text with values

-- Its tokens are those of the written text, less those of these labels, each parameter replaced by the tokens of its value's literal; and
-- there are no others.
pub record IsWrittenWith (text : List ℕ) (names : List (Option (List ℕ))) (values : List Value) (bound : List ℕ) : Type 0 where
  pub tokens : List Lexeme
  pub lexes : Lexes (masked text) (Ok tokens)
  pub marks : List Bool
  pub left_out : AreMarksOf names tokens marks
  pub parts : List StatementPart
  pub kept : parts_by text (unmarked marks tokens) ≡ Some parts
  pub expected : List (List ℕ)
  pub replaced : bound_tokens values parts ≡ Some expected
  pub has : HasExactTokens expected bound
