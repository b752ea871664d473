-- The bounds that conditions set to a column where they are true.
use Rattle.std.specs.Prelude.{ℕ, Bool, true, false, not, ◌&&◌, if◌then◌else◌, nat_eq, slice_get, List, [], ◌∷◌, Option, Some, None}
use Rattle.std.specs.Borrow.{Bor}
use Rattle.std.specs.List.{list_any}
use Rattle.sql_types.specs.declared.value.Value.{Value}
use Rattle.sql_types.specs.Row.{Row, value_at}
use Rattle.sql_types.specs.declared.value.Value.TheVariants.{Null, Int, Text, Bool as Boolean}
use Rattle.sql_ast.specs.declared.expression.Comparison.{Comparison}
use Rattle.sql_ast.specs.declared.expression.Comparison.TheVariants as op
use Rattle.sql_ast.specs.declared.scope.ColumnIndex.{ColumnIndex}
use Rattle.sql_ast.specs.Term.{Term, literal, column, current_user, session_user, comparison, conjunction}
use Rattle.expressions.specs.Operators.{is_bigint}
use Rattle.expressions.specs.Meaning.{UserNames}
use Rattle.expressions.specs.Types.{TypedTerm}
use Rattle.key_ranges.specs.declared.bounds.BoundKind.{BoundKind}
use Rattle.key_ranges.specs.declared.bounds.BoundKind.TheVariants as kind

-- whether a column that compares like this to a value has it as a bound
abbrev pub sets_bound : BoundKind → Comparison → Bool
sets_bound kind.Equal op.Equal = true
sets_bound kind.Lower op.Greater = true
sets_bound kind.Lower op.GreaterOrEqual = true
sets_bound kind.Upper op.Less = true
sets_bound kind.Upper op.LessOrEqual = true
sets_bound _ _ = false

-- the comparison that holds of two values where this one holds of them in the other order
abbrev pub exchanged : Comparison → Comparison
exchanged op.Equal = op.Equal
exchanged op.NotEqual = op.NotEqual
exchanged op.Less = op.Greater
exchanged op.LessOrEqual = op.GreaterOrEqual
exchanged op.Greater = op.Less
exchanged op.GreaterOrEqual = op.LessOrEqual

-- whether a key may hold a value: no null, and no text with a zero byte
abbrev pub is_key_value : Value → Bool
is_key_value Null = false
is_key_value (Int z) = is_bigint z
is_key_value (Text t) = not (list_any (nat_eq 0) t)
is_key_value (Boolean b) = true

abbrev pub key_value : Value → Option Value
key_value v = if is_key_value v then Some v else None

abbrev pub key_value_at : Option (Bor Row) → ℕ → Option Value
key_value_at None index = None
key_value_at (Some row) index = key_value (value_at row.now index)

-- the value of a column of the first tables, of which these are the rows, where a key may hold it
abbrev pub known : List (Bor Row) → ColumnIndex → Option Value
known front c = key_value_at (slice_get front c.table) c.column

-- the value of a literal, of a user's name or of a column of the first tables, where a key may hold it
abbrev pub constant : UserNames → List (Bor Row) → Term ColumnIndex → Option Value
constant users front (literal v) = key_value v
constant users front (column c) = known front c
constant users front current_user = key_value (Text users.current)
constant users front session_user = key_value (Text users.session)
constant users front _ = None

abbrev pub is_column : ColumnIndex → Term ColumnIndex → Bool
is_column c (column d) = nat_eq d.table c.table && nat_eq d.column c.column
is_column c _ = false

-- the first that is there
abbrev pub first_of : Option Value → Option Value → Option Value
first_of None other = other
first_of (Some v) other = Some v

-- the bound that a comparison sets whose left operand is the column
abbrev pub bound_by : BoundKind → ColumnIndex → UserNames → List (Bor Row) → Comparison → Term ColumnIndex → Term ColumnIndex → Option Value
bound_by k c users front operator left right = if is_column c left && sets_bound k operator then constant users front right else None

-- the first bound that a condition sets: a comparison, or one of conditions joined by AND
abbrev pub bound_in : BoundKind → ColumnIndex → UserNames → List (Bor Row) → Term ColumnIndex → Option Value
bound_in k c users front (conjunction a b) = first_of (bound_in k c users front a) (bound_in k c users front b)
bound_in k c users front (comparison operator a b) = first_of (bound_by k c users front operator a b) (bound_by k c users front (exchanged operator) b a)
bound_in k c users front _ = None

-- the first bound that one of several conditions sets
abbrev pub bound_among : BoundKind → ColumnIndex → UserNames → List (Bor Row) → List TypedTerm → Option Value
bound_among k c users front [] = None
bound_among k c users front (t ∷ ts) = first_of (bound_in k c users front t.term) (bound_among k c users front ts)

-- the bounds of a table's columns
abbrev pub Bounds : Type 0
Bounds = BoundKind → ℕ → Option Value

-- those beside these rows of the first tables
abbrev pub bounds_of : ℕ → UserNames → List (Bor Row) → List TypedTerm → Bounds
bounds_of table users front conditions k index = bound_among k (record { table = table; column = index }) users front conditions
