-- The text of an answer. Each line ends with a newline.
use Rattle.std.specs.Prelude.{ℕ, true, false, ◌==◌, if◌then◌else◌, List, [], ◌∷◌, ◌++◌, length, flat_map, codes, decimal, Option, Some, None}
use Rattle.std.specs.Fmt.{signed_decimal}
use Rattle.sql_types.specs.declared.value.Value.{Value}
use Rattle.sql_types.specs.declared.value.Value.TheVariants.{Null, Int, Text, Bool as Boolean}
use Rattle.sql_types.specs.declared.answer.Answer.{Answer}
use Rattle.sql_types.specs.declared.answer.Answer.TheVariants.{Rows, Done, Refused}
use Rattle.sql_types.specs.declared.warning.Warning.{Warning}
use Rattle.sql_types.specs.State.{state_code, warning_code, tag_text}

abbrev pub newline : List ℕ
newline = 10 ∷ []

abbrev pub tab : List ℕ
tab = 9 ∷ []

-- ---- fields

-- backslash, tab, newline and carriage return are written with a backslash before them
abbrev pub escaped : ℕ → List ℕ
escaped byte =
    if byte == 92 then codes "\\\\"
    else if byte == 9 then codes "\\t"
    else if byte == 10 then codes "\\n"
    else if byte == 13 then codes "\\r"
    else byte ∷ []

-- null is \N, booleans are t and f, numbers in decimal
abbrev pub field_text : Value → List ℕ
field_text Null = codes "\\N"
field_text (Int number) = signed_decimal number
field_text (Text bytes) = flat_map escaped bytes
field_text (Boolean true) = codes "t"
field_text (Boolean false) = codes "f"

-- ---- rows

-- a field that is not the first of its row
abbrev pub next_field : Value → List ℕ
next_field value = tab ++ field_text value

-- the fields of a row, separated by tabs
abbrev pub fields_text : List Value → List ℕ
fields_text [] = []
fields_text (value ∷ values) = field_text value ++ flat_map next_field values

abbrev pub row_text : List Value → List ℕ
row_text row = fields_text row ++ newline

-- how many rows there are, and a line for each
abbrev pub rows_text : List (List Value) → List ℕ
rows_text rows = codes "rows " ++ decimal (length rows) ++ newline ++ flat_map row_text rows

-- ---- answers

-- an event that was carried out: without a warning, or with one
abbrev pub outcome_text : Option Warning → List ℕ
outcome_text None = codes "ok "
outcome_text (Some warning) = codes "warn " ++ warning_code warning ++ codes " "

abbrev pub count_text : Option ℕ → List ℕ
count_text None = []
count_text (Some count) = codes " " ++ decimal count

abbrev pub answer_text : Answer → List ℕ
answer_text (Rows rows) = rows_text rows
answer_text (Done tag count warning) = outcome_text warning ++ tag_text tag ++ count_text count ++ newline
answer_text (Refused state) = codes "refused " ++ state_code state ++ newline
