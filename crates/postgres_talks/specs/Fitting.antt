-- Whether rows fit the columns that were said before them.
use Rattle.std.specs.Prelude.{◌≡◌, ℕ, Bool, true, false, List, [], ◌∷◌, Option, Some, None}
use Rattle.sql_types.specs.declared.value.Value.{Value}
use Rattle.sql_types.specs.declared.value.Value.TheVariants as value
use Rattle.postgres_messages.specs.Backend.{TheColumn, data_row, row_description}
use Rattle.postgres_messages.specs.declared.backend.DataType.{DataType}
use Rattle.postgres_messages.specs.declared.backend.DataType.TheVariants.{Int8, Text, Bool as Boolean}
use Rattle.postgres_talks.specs.Rows.{value_in}
use Rattle.postgres_talks.specs.Sayings.{Saying, message}

-- a value is null or of this type
abbrev pub has_type : DataType → Value → Bool
has_type t value.Null = true
has_type Int8 (value.Int number) = true
has_type Text (value.Text text) = true
has_type Boolean (value.Bool truth) = true
has_type t v = false

-- a field is what a value of its column's type is in its column's format
abbrev pub IsFieldOf : TheColumn → Option (List ℕ) → Type 0
IsFieldOf c field = (v : Value) × (has_type c.data_type v ≡ true) × (field ≡ value_in c.format v)

-- there are as many, one for each column
abbrev pub AreFieldsOf : List TheColumn → List (Option (List ℕ)) → Type 0
AreFieldsOf [] [] = Unit {0}
AreFieldsOf (c ∷ cs) (f ∷ fs) = IsFieldOf c f × AreFieldsOf cs fs
AreFieldsOf cs fs = ⊥

-- where no columns were said no row fits
abbrev pub FitsHead : Option (List TheColumn) → List (Option (List ℕ)) → Type 0
FitsHead None fields = ⊥
FitsHead (Some columns) fields = AreFieldsOf columns fields

-- each row fits the columns that were said last before it, at first these
abbrev pub RowsFit : Option (List TheColumn) → List Saying → Type 0
RowsFit head [] = Unit {0}
RowsFit head (message (row_description columns) ∷ said) = RowsFit (Some columns) said
RowsFit head (message (data_row fields) ∷ said) = FitsHead head fields × RowsFit head said
RowsFit head (s ∷ said) = RowsFit head said
