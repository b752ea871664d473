-- Labels in ORDER BY. PostgreSQL sorts by the item of a label that is named there (PostgreSQL 15 manual, SELECT, "ORDER BY Clause"), and the
-- language by a column of that name.
use Rattle.std.specs.Prelude.{ℕ, ◌&&◌, not, Bool, true, false, if◌then◌else◌, List, [], ◌∷◌, drop, Option, Some, None}
use Rattle.std.specs.List.{list_any}
use Rattle.std.specs.Str.{bytes_eq}
use Rattle.sql_lexer.specs.declared.token.TokenKind.{TokenKind}
use Rattle.sql_lexer.specs.declared.token.TokenKind.TheVariants as kind
use Rattle.sql_lexer.specs.declared.token.Reserved.TheVariants as reserved
use Rattle.sql_lexer.specs.Content.{name_in}
use Rattle.sql_lexer.specs.Lexeme.{Lexeme}
use Rattle.select_labels.specs.Labels.{TheLabel, is_dot}

abbrev pub is_order : TokenKind → Bool
is_order (kind.Reserved reserved.Order) = true
is_order k = false

-- what stands behind the words ORDER BY
abbrev pub behind_order : List Lexeme → List Lexeme
behind_order [] = []
behind_order (t ∷ ts) = if is_order t.kind then drop 1 ts else behind_order ts

-- a label of something else than a column of this name
abbrev pub renames : List ℕ → Option TheLabel → Bool
renames n None = false
renames n (Some l) = not l.column && bytes_eq l.name n

abbrev pub is_renamed : List (Option TheLabel) → Option (List ℕ) → Bool
is_renamed ls None = false
is_renamed ls (Some n) = list_any (renames n) ls

abbrev pub begins_dot : List Lexeme → Bool
begins_dot [] = false
begins_dot (t ∷ ts) = is_dot t.kind

-- one of the tokens names such a label, and stands neither behind a dot nor before one
abbrev pub sorts_by : List (Option TheLabel) → Bool → List Lexeme → Bool
sorts_by ls dotted [] = false
sorts_by ls dotted (t ∷ ts) =
    if (not dotted && not (begins_dot ts)) && is_renamed ls (name_in t.kind t.bytes) then true else sorts_by ls (is_dot t.kind) ts

-- of the tokens behind a list
abbrev pub sorts_by_label : List (Option TheLabel) → List Lexeme → Bool
sorts_by_label ls behind = sorts_by ls false (behind_order behind)
