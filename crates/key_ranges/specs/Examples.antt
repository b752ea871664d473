-- The words of the examples: a table of number 1 with the columns k and x, and the cells of two numbers.
use Rattle.std.specs.Prelude.{ℕ, ℤ, List, [], ◌∷◌, Option, Some}
use Rattle.sql_types.specs.declared.value.Value.TheVariants.{Int}
use Rattle.sql_ast.specs.declared.columns.ColumnType.TheVariants as type
use Rattle.sql_ast.specs.declared.scope.ColumnIndex.{ColumnIndex}
use Rattle.sql_ast.specs.Term.{Term, literal, column}
use Rattle.expressions.specs.Meaning.{UserNames}
use Rattle.key_ranges.specs.declared.range.KeyRange.{KeyRange}
use Rattle.key_ranges.specs.Ranges.{range_of}

-- the range that WHERE leaves of the table with this key
abbrev pub range_where : List ℕ → UserNames → Term ColumnIndex → Option KeyRange
range_where key users condition = range_of 1 (record { columns = []; key = key }) 0 users (record { term = condition; value_type = Some type.Boolean } ∷ [])

abbrev pub k : Term ColumnIndex
k = column (record { table = 0; column = 0 })

abbrev pub x : Term ColumnIndex
x = column (record { table = 0; column = 1 })

abbrev pub number : ℤ → Term ColumnIndex
number z = literal (Int z)

-- what the keys of the table's rows begin with
abbrev pub table_one : List ℕ
table_one = 6 ∷ 0 ∷ 0 ∷ 0 ∷ 1 ∷ []

-- the cells of 1 and of -1
abbrev pub one : List ℕ
one = 128 ∷ 0 ∷ 0 ∷ 0 ∷ 0 ∷ 0 ∷ 0 ∷ 1 ∷ []

abbrev pub minus_one : List ℕ
minus_one = 127 ∷ 255 ∷ 255 ∷ 255 ∷ 255 ∷ 255 ∷ 255 ∷ 255 ∷ []
