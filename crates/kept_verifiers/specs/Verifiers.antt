-- What a table of passwords keeps for a role.
use Rattle.std.specs.Prelude.{◌≡◌, ℕ, nat_eq, Bool, true, false, ◌&&◌, List, [], ◌∷◌, find, bytes_eq, Option, Some, None, if◌then◌else◌, Result, Ok, Err}
use Rattle.sql_types.specs.Row.{Row, value_at}
use Rattle.sql_types.specs.declared.value.Value.{Value}
use Rattle.sql_types.specs.declared.value.Value.TheVariants as value
use Rattle.sql_ast.specs.Layout.{Layout}
use Rattle.sql_ast.specs.declared.columns.Column.{Column}
use Rattle.sql_ast.specs.declared.columns.ColumnType.{ColumnType}
use Rattle.sql_ast.specs.declared.columns.ColumnType.TheVariants as column_type
use Rattle.store.specs.declared.fault.Fault.{Fault}
use Rattle.store.specs.declared.fault.Fault.TheVariants.{Memory, Device, Damaged}
use Rattle.abstract_database.specs.Lists.{TheName}
use Rattle.abstract_database.specs.Database.{Database, TableOf, Table, table_named, without_rows}
use Rattle.abstract_database.specs.Roles.{is_superuser, may_log_in}

-- ---- the table

abbrev pub is_text : ColumnType → Bool
is_text column_type.BigInt = false
is_text column_type.Text = true
is_text column_type.Boolean = false

-- two columns, both of text
abbrev pub are_two_texts : List Column → Bool
are_two_texts [] = false
are_two_texts (role ∷ []) = false
are_two_texts (role ∷ verifier ∷ []) = is_text role.column_type && is_text verifier.column_type
are_two_texts (role ∷ verifier ∷ another ∷ more) = false

-- the key is the first column alone
abbrev pub is_first_alone : List ℕ → Bool
is_first_alone [] = false
is_first_alone (index ∷ []) = nat_eq index 0
is_first_alone (index ∷ another ∷ more) = false

-- a text for each text
abbrev pub maps_texts : Layout → Bool
maps_texts layout = are_two_texts layout.columns && is_first_alone layout.key

-- the table keeps verifiers: it maps texts, and its owner is a superuser
abbrev pub keeps_verifiers : Database → TableOf → Bool
keeps_verifiers db t = is_superuser db t.owner && maps_texts t.layout

-- the rows of a table, if it keeps verifiers
abbrev pub verifier_rows : Database → Option Table → List Row
verifier_rows db None = []
verifier_rows db (Some t) = if keeps_verifiers db t.definition then t.rows else []

-- ---- its rows

abbrev pub text_in : Value → Option (List ℕ)
text_in value.Null = None
text_in (value.Int n) = None
text_in (value.Text t) = Some t
text_in (value.Bool b) = None

abbrev pub is_same_text : TheName → Option (List ℕ) → Bool
is_same_text role None = false
is_same_text role (Some t) = bytes_eq t role

-- the row is the one of this role
abbrev pub is_row_of : TheName → Row → Bool
is_row_of role row = is_same_text role (text_in (value_at row 0))

-- the text in the second column
abbrev pub second_text : Option Row → Option (List ℕ)
second_text None = None
second_text (Some row) = text_in (value_at row 1)

-- the row of a role in the table of this name, if that keeps verifiers
abbrev pub row_of_role : Database → TheName → TheName → Option Row
row_of_role db table role = find (is_row_of role) (verifier_rows db (table_named db table))

-- what the table of this name keeps for a role that may log in
abbrev pub kept_text : Database → TheName → TheName → Option (List ℕ)
kept_text db table role = if may_log_in db role then second_text (row_of_role db table role) else None

-- ---- looked up

-- what is kept was found, or an allocation or the device failed
abbrev pub IsFoundKept : Option (List ℕ) → Result (Option (List ℕ)) Fault → Type 0
IsFoundKept kept (Ok text) = text ≡ kept
IsFoundKept kept (Err Memory) = Unit {0}
IsFoundKept kept (Err Device) = Unit {0}
IsFoundKept kept (Err Damaged) = ⊥

-- no device was asked, so none failed
abbrev pub ReadsNone : Result (Option (List ℕ)) Fault → Type 0
ReadsNone (Err Device) = ⊥
ReadsNone _ = Unit {0}

-- ---- what it depends on

-- two databases agree in their definitions, and in the row of a role in the table of this name
pub record AgreeInRow (table role : TheName) (a b : Database) : Type 0 where
  pub definitions : without_rows a ≡ without_rows b
  pub row : row_of_role a table role ≡ row_of_role b table role
