-- The rows of an answer, as messages.
use Rattle.std.specs.Prelude.{ℕ, ◌==◌, ◌||◌, nat_lt, take, if◌then◌else◌, Bool, ◌&&◌, true, false, List, [], ◌∷◌, ◌++◌, length, map, bytes_eq, codes, decimal, Option, Some, None}
use Rattle.std.specs.List.{list_all}
use Rattle.std.specs.Fmt.{signed_decimal}
use Rattle.std.specs.Int.{w64, cast_unsigned, to_be_bytes}
use Rattle.sql_ast.specs.declared.columns.ColumnType.{ColumnType}
use Rattle.sql_ast.specs.declared.columns.ColumnType.TheVariants as column_type
use Rattle.sql_ast.specs.declared.description.ResultColumn.{ResultColumn}
use Rattle.sql_types.specs.declared.value.Value.{Value}
use Rattle.sql_types.specs.declared.value.Value.TheVariants as value
use Rattle.postgres_messages.specs.Backend.{TheColumn, data_row, portal_suspended, row_description}
use Rattle.postgres_messages.specs.declared.backend.DataType.{DataType}
use Rattle.postgres_messages.specs.declared.backend.DataType.TheVariants.{Int8, Text, Bool as Boolean}
use Rattle.postgres_messages.specs.declared.backend.ValueFormat.{ValueFormat}
use Rattle.postgres_messages.specs.declared.backend.ValueFormat.TheVariants as format
use Rattle.postgres_talks.specs.Formats.{next_format, other_formats}
use Rattle.postgres_talks.specs.declared.moment.Mode.{Mode}
use Rattle.postgres_talks.specs.declared.moment.Mode.TheVariants as mode
use Rattle.postgres_talks.specs.Sayings.{Saying, message, complete_said}

-- a value as text: a number in decimal, a truth value as t or f; null is none
abbrev pub value_text : Value → Option (List ℕ)
value_text value.Null = None
value_text (value.Int number) = Some (signed_decimal number)
value_text (value.Text text) = Some text
value_text (value.Bool true) = Some (codes "t")
value_text (value.Bool false) = Some (codes "f")

-- in binary: a number in eight bytes, the most significant first, and a truth value in one
abbrev pub value_binary : Value → Option (List ℕ)
value_binary value.Null = None
value_binary (value.Int number) = Some (to_be_bytes w64 (cast_unsigned w64 number))
value_binary (value.Text text) = Some text
value_binary (value.Bool true) = Some (1 ∷ [])
value_binary (value.Bool false) = Some (0 ∷ [])

abbrev pub value_in : ValueFormat → Value → Option (List ℕ)
value_in format.Text v = value_text v
value_in format.Binary v = value_binary v

abbrev pub values_in : List ValueFormat → List Value → List (Option (List ℕ))
values_in fs [] = []
values_in fs (v ∷ vs) = value_in (next_format fs) v ∷ values_in (other_formats fs) vs

abbrev pub row_said : List ValueFormat → List Value → Saying
row_said fs row = message (data_row (values_in fs row))

-- the type of a column, as PostgreSQL names it
abbrev pub data_type_of : ColumnType → DataType
data_type_of column_type.BigInt = Int8
data_type_of column_type.Text = Text
data_type_of column_type.Boolean = Boolean

-- a column, whose values come so
abbrev pub described_column : ValueFormat → ResultColumn → TheColumn
described_column f c = record { name = c.name; data_type = data_type_of c.column_type; format = f }

abbrev pub described_columns : List ValueFormat → List ResultColumn → List TheColumn
described_columns fs [] = []
described_columns fs (c ∷ cs) = described_column (next_format fs) c ∷ described_columns (other_formats fs) cs

abbrev pub columns_said : List ValueFormat → List ResultColumn → Saying
columns_said fs columns = message (row_description (described_columns fs columns))

-- a value is null or of this type
abbrev pub is_value_of : ColumnType → Value → Bool
is_value_of t value.Null = true
is_value_of column_type.BigInt (value.Int number) = true
is_value_of column_type.Text (value.Text text) = true
is_value_of column_type.Boolean (value.Bool truth) = true
is_value_of t v = false

-- a row has as many values as there are columns, and each is one of its column
abbrev pub is_row_of : List ResultColumn → List Value → Bool
is_row_of [] [] = true
is_row_of (c ∷ cs) (v ∷ vs) = is_value_of c.column_type v && is_row_of cs vs
is_row_of cs vs = false

abbrev pub are_rows_of : List ResultColumn → List (List Value) → Bool
are_rows_of columns rows = list_all (is_row_of columns) rows

-- two columns have one name and one type
abbrev pub is_same_type : ColumnType → ColumnType → Bool
is_same_type column_type.BigInt column_type.BigInt = true
is_same_type column_type.Text column_type.Text = true
is_same_type column_type.Boolean column_type.Boolean = true
is_same_type s t = false

abbrev pub is_same_column : ResultColumn → ResultColumn → Bool
is_same_column c d = bytes_eq c.name d.name && is_same_type c.column_type d.column_type

abbrev pub are_same_columns : List ResultColumn → List ResultColumn → Bool
are_same_columns [] [] = true
are_same_columns (c ∷ cs) (d ∷ ds) = is_same_column c d && are_same_columns cs ds
are_same_columns cs ds = false

abbrev pub select_tag : ℕ → List ℕ
select_tag n = codes "SELECT " ++ decimal n

-- each row, and how many there are
abbrev pub rows_said : List ValueFormat → List (List Value) → List Saying
rows_said fs rows = map (row_said fs) rows ++ complete_said (select_tag (length rows)) ∷ []

-- where there are as many as are asked for at most, or more, those. 0 asks for all
abbrev pub limited_said : ℕ → List ValueFormat → List (List Value) → List Saying
limited_said most fs rows =
    if most == 0 || nat_lt (length rows) most then rows_said fs rows else map (row_said fs) (take most rows) ++ message portal_suspended ∷ []

-- rows follow their columns, but in a batch
abbrev pub headed_said : Option (List ResultColumn) → List (List Value) → List Saying
headed_said None rows = []
headed_said (Some columns) rows = columns_said [] columns ∷ rows_said [] rows

abbrev pub table_said : Mode → ℕ → List ValueFormat → Option (List ResultColumn) → List (List Value) → List Saying
table_said mode.Query most fs columns rows = headed_said columns rows
table_said t most fs columns rows = limited_said most fs rows
