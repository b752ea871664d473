-- Columns of a table whose values are known of each row of a span, and a count of rows that conditions let pass by these alone.
use Rattle.std.specs.Prelude.{◌≡◌, ℕ, zero, suc, nat_eq, Bool, true, not, ◌||◌, is_some, if◌then◌else◌, IsTrue, List, [], ◌∷◌, ◌++◌, Option, Some, None, Ok}
use Rattle.std.specs.Borrow.{Bor}
use Rattle.std.specs.List.{list_all, list_any}
use Rattle.sql_types.specs.declared.value.Value.{Value}
use Rattle.sql_types.specs.declared.value.Value.TheVariants.{Null, Bool as Boolean}
use Rattle.sql_types.specs.Row.{Row}
use Rattle.sql_types.specs.Value.{owned}
use Rattle.sql_ast.specs.declared.scope.ColumnIndex.{ColumnIndex}
use Rattle.sql_ast.specs.Fits.{FitsTable}
use Rattle.sql_ast.specs.Layout.{Layout, is_not_null_at}
use Rattle.expressions.specs.Meaning.{UserNames}
use Rattle.expressions.specs.Types.{TypedTerm}
use Rattle.abstract_database.specs.Queries.{condition_value}
use Rattle.guards.specs.declared.guard.Formula.{Formula}
use Rattle.guards.specs.declared.guard.Guard.{Guard}
use Rattle.gathering.specs.declared.query.OutputList.TheVariants.{Count}
use Rattle.gathering.specs.declared.query.Query.{Query}
use Rattle.gathering.specs.Passed.{alone}
use Rattle.gathering.specs.Queries.{terms}
use Rattle.gathering.specs.Reads.{names}
use Rattle.table_rows.specs.declared.target.Target.{Target}
use Rattle.table_rows.specs.Targets.{sees}
use Rattle.executor.specs.declared.known_columns.KnownColumn.{KnownColumn}
use Rattle.executor.specs.declared.known_columns.KnownColumns.{KnownColumns}
use Rattle.executor.specs.declared.known_columns.Unknown.{Unknown}
use Rattle.row_codec.specs.Rows.{row_key, row_prefix}
use Rattle.key_ranges.specs.declared.range.KeyRange.TheVariants.{Span}
use Rattle.key_ranges.specs.declared.spans.KeySpan.{KeySpan}
use Rattle.key_ranges.specs.Ranges.{is_inside}
use Rattle.key_ranges.specs.Spans.{is_in_spans}
use Rattle.executor.specs.Certain.{HasKnown}
use Rattle.executor.specs.FoundOrder.{GoesOnBetween, MayBeFound}

-- ---- known columns

-- the value of a column, if it is known
abbrev pub known_value : ℕ → List KnownColumn → Option Value
known_value index [] = None
known_value index (k ∷ ks) = if nat_eq k.index index then Some (owned k.value) else known_value index ks

abbrev pub or_null : Option Value → Value
or_null None = Null
or_null (Some v) = v

-- known columns as a row, with null in each other column
abbrev pub known_cell : KnownColumns → ℕ → ℕ → Value
known_cell known zero column = or_null (known_value column known.columns)
known_cell known (suc table) column = Null

-- whether the value of a column is not known
abbrev pub is_unknown : Unknown → ColumnIndex → Bool
is_unknown u c = not (nat_eq c.table 0) || not (is_some (known_value c.column u.known.now.columns))

-- more is known of a row whose columns of the key go on between start and stop
abbrev pub KnowsMore : Layout → List ℕ → List ℕ → List ℕ → KnownColumns → KnownColumns → Type 0
KnowsMore layout start stop key old new = (front : List ℕ) (row : Row) → IsTrue (list_all (is_not_null_at layout.columns) key) → GoesOnBetween layout front start stop key row → HasKnown old row → HasKnown new row

-- all that is new is known of each row of a table whose key is in a span
abbrev pub IsKnownInside : ℕ → Layout → List ℕ → List ℕ → KnownColumns → Type 0
IsKnownInside id layout start stop known = (row : Row) → FitsTable layout row → is_inside id layout (Span start stop) row ≡ true → HasKnown known row

-- ---- conditions that read no other columns

-- whether one of the conditions that are lent names a column of a kind
abbrev pub lent_name : (ColumnIndex → Bool) → List (Bor TypedTerm) → Bool
lent_name kind conditions = list_any (λ c. names kind c.now.term) conditions

abbrev pub formula_names : (ColumnIndex → Bool) → Formula → Bool
formula_names kind f = lent_name kind f.permissive || lent_name kind f.restrictive

abbrev pub formulas_name : (ColumnIndex → Bool) → List Formula → Bool
formulas_name kind fs = list_any (formula_names kind) fs

-- ---- rows that are counted

-- the guard lets the row pass, and the conditions are true of it
pub record IsLetThrough (table : Target) (users : UserNames) (conditions : List TypedTerm) (row : Row) : Type 0 where
  pub seen : sees table row ≡ Ok (Boolean true)
  pub met : condition_value users (terms conditions) (alone row) ≡ Ok (Boolean true)

-- so they do with each row of which this is known
abbrev pub AreTrue : KnownColumns → Target → UserNames → List TypedTerm → Type 0
AreTrue known table users conditions = (row : Row) → HasKnown known row → IsLetThrough table users conditions row

-- so they do with each row whose key is in a span
abbrev pub LetsSpanThrough : Target → UserNames → List TypedTerm → List ℕ → List ℕ → Type 0
LetsSpanThrough table users conditions start stop = (row : Row) → FitsTable table.columns.now row → is_inside table.id table.columns.now (Span start stop) row ≡ true → IsLetThrough table users conditions row

-- or in one of several
abbrev pub LetsSpansThrough : Target → UserNames → List TypedTerm → List KeySpan → Type 0
LetsSpansThrough table users conditions spans = (row : Row) → FitsTable table.columns.now row → is_in_spans spans (row_prefix table.id ++ row_key table.columns.now row) ≡ true → IsLetThrough table users conditions row

-- so they do with each row that the target may find
abbrev pub LetsAllThrough : Target → UserNames → List TypedTerm → Type 0
LetsAllThrough table users conditions = (row : Row) → MayBeFound table row → IsLetThrough table users conditions row

-- a query over one table counts all rows that may be found: neither a policy nor a condition leaves one out
pub record CountsFound (table : Target) (users : UserNames) (q : Query) : Type 0 where
  pub count : q.list ≡ Count
  pub pass : LetsAllThrough table users q.conditions

-- a target with this guard in place of its own
abbrev pub without : Target → Bor Guard → Target
without table guard = record { id = table.id; columns = table.columns; guard = guard; users = table.users; range = table.range }
