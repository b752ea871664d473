-- A text without the labels of its list.
use Rattle.std.specs.Prelude.{◌≡◌, ◌&&◌, nat_lt, not, ℕ, Bool, true, false, is_some, if◌then◌else◌, List, [], ◌∷◌, ◌++◌, map, length, drop, replicate, slice_range, Option, Some, None, Result, Ok, Err}
use Rattle.std.specs.List.{list_any}
use Rattle.std.specs.Option.{option_map}
use Rattle.sql_types.specs.declared.state.SqlState.{SqlState}
use Rattle.sql_lexer.specs.Lexeme.{Lexeme, end_of}
use Rattle.sql_lexer.specs.Lexing.{Lexes}
use Rattle.select_labels.specs.declared.unlabelled.Unlabelled.{Unlabelled}
use Rattle.select_labels.specs.Labels.{TheLabel, is_as, label_tokens, labels_in}
use Rattle.select_labels.specs.Lists.{behind_list, is_select, items_of, list_of}
use Rattle.select_labels.specs.Sorting.{sorts_by_label}

-- a text from a place on, with blanks in place of these tokens
abbrev pub blanked : List ℕ → ℕ → List Lexeme → List ℕ
blanked text at [] = drop at text
blanked text at (t ∷ ts) = slice_range text at t.start ++ (replicate (length t.bytes) 32 ++ blanked text (end_of t) ts)

abbrev pub label_names : List (Option TheLabel) → List (Option (List ℕ))
label_names ls = map (option_map (λ l. l.name)) ls

-- what the labels of a list make of a text, with the tokens behind the list
abbrev pub made_by : List ℕ → List Lexeme → Option (List (Option TheLabel)) → Option Unlabelled
made_by text behind None = None
made_by text behind (Some ls) =
    if list_any is_some ls && not (sorts_by_label ls behind) then Some (record { text = blanked text 0 (label_tokens ls); labels = label_names ls })
    else None

-- the labels of the tokens behind SELECT, unless an AS is misplaced
abbrev pub labels_of : List Lexeme → Option (List (Option TheLabel))
labels_of ts = labels_in (items_of (list_of ts))

-- a text with these tokens without its labels, if it is a SELECT that has some
abbrev pub without_labels : List ℕ → List Lexeme → Option Unlabelled
without_labels text [] = None
without_labels text (t ∷ ts) = if is_select t.kind then made_by text (behind_list ts) (labels_of ts) else None

-- a text with a fault has none
abbrev pub without_labels_if : List ℕ → Result (List Lexeme) SqlState → Option Unlabelled
without_labels_if text (Ok ts) = without_labels text ts
without_labels_if text (Err state) = None

-- what the tokens of a text make of it
pub record IsUnlabelled (text : List ℕ) (r : Option Unlabelled) : Type 0 where
  pub tokens : Result (List Lexeme) SqlState
  pub lexes : Lexes text tokens
  pub is : r ≡ without_labels_if text tokens

abbrev pub IsUnlabelledUnless : Bool → List ℕ → Option Unlabelled → Type 0
IsUnlabelledUnless true text r = r ≡ None
IsUnlabelledUnless false text r = IsUnlabelled text r

-- a text that is too long for a statement stays as it is
abbrev pub IsWithoutLabels : List ℕ → Option Unlabelled → Type 0
IsWithoutLabels text r = IsUnlabelledUnless (nat_lt 65536 (length text)) text r

-- there may be labels: the first token is SELECT, and one is AS
abbrev pub may_have_labels : List Lexeme → Bool
may_have_labels [] = false
may_have_labels (t ∷ ts) = is_select t.kind && list_any (λ u. is_as u.kind) ts
