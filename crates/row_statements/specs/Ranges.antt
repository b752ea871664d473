-- The keys among which a statement looks for the rows of its tables.
use Rattle.std.specs.Prelude.{◌≡◌, ℕ, ◌+◌, Bool, false, not, ◌&&◌, ◌||◌, nat_lt, if◌then◌else◌, List, [], ◌∷◌, option_to_list, Option, Some, None}
use Rattle.std.specs.Borrow.{Bor}
use Rattle.std.specs.Option.{option_copied}
use Rattle.std.specs.List.{list_any}
use Rattle.sql_ast.specs.Term.{Term, column, comparison, conjunction}
use Rattle.sql_ast.specs.declared.expression.Comparison.TheVariants as op
use Rattle.sql_ast.specs.declared.scope.ColumnIndex.{ColumnIndex}
use Rattle.expressions.specs.Meaning.{UserNames}
use Rattle.expressions.specs.Types.{TypedTerm}
use Rattle.key_ranges.specs.declared.range.KeyRange.{KeyRange}
use Rattle.key_ranges.specs.Bounds.{is_column, bounds_of}
use Rattle.key_ranges.specs.Ranges.{is_first_bounded}
use Rattle.key_ranges.specs.TableRanges.{range_of_table, LosesNoRow}
use Rattle.planner.specs.declared.sources.Source.{Source}
use Rattle.row_statements.specs.declared.ranges.RangedSource.{RangedSource}

-- ---- the range in which the rows of each table are looked for

-- the range that its guard and conditions leave of this table, the one of this index in FROM, for a current role that is in these roles
abbrev pub range_left : ℕ → UserNames → List (List ℕ) → Source → List TypedTerm → Option KeyRange
range_left index users roles s conditions = range_of_table s.table.now.id s.table.now.definition.layout index users roles s.guard.existing conditions

-- UPDATE and DELETE look in the range that the guard and WHERE leave
abbrev pub range_where : UserNames → List (List ℕ) → Source → Option TypedTerm → Option KeyRange
range_where users roles s condition = range_left 0 users roles s (option_to_list condition)

-- a column of a table before this one
abbrev pub is_before : ℕ → Term ColumnIndex → Bool
is_before index (column c) = nat_lt c.table index
is_before index _ = false

-- whether a condition compares this column by = to a column of a table before
abbrev pub joins_column : ColumnIndex → Term ColumnIndex → Bool
joins_column at (conjunction a b) = joins_column at a || joins_column at b
joins_column at (comparison op.Equal a b) = (is_column at a && is_before at.table b) || (is_column at b && is_before at.table a)
joins_column at _ = false

abbrev pub any_joins : ColumnIndex → List TypedTerm → Bool
any_joins at conditions = list_any (λ c. joins_column at c.term) conditions

-- whether the first column of the key of the table of this index in FROM is compared by = to a column of a table before: then its keys may be looked up behind rows of these
abbrev pub joins_first : ℕ → List ℕ → List TypedTerm → Bool
joins_first index [] conditions = false
joins_first index (first ∷ key) conditions = any_joins (record { table = index; column = first }) conditions

-- the keys of a table may be looked up behind rows of the tables before, and no condition bounds the first column of its key without them
abbrev pub is_looked_up : UserNames → List TypedTerm → ℕ → List ℕ → Bool
is_looked_up users conditions index key = joins_first index key conditions && not (is_first_bounded (bounds_of index users [] conditions) key)

-- a SELECT looks in the range that the guard and its conditions leave of each table
abbrev pub range_among : UserNames → List (List ℕ) → List TypedTerm → ℕ → Source → Option KeyRange
range_among users roles conditions index s = range_left index users roles s conditions

-- the same of those of the tables that come from this index in FROM on
abbrev pub ranges_among : UserNames → List (List ℕ) → List TypedTerm → ℕ → List Source → List (Option KeyRange)
ranges_among users roles conditions index [] = []
ranges_among users roles conditions index (s ∷ sources) = range_among users roles conditions index s ∷ ranges_among users roles conditions (index + 1) sources

-- ---- what such ranges lose: no row that the statement concerns

-- a range, if there is one, has the keys of all rows of this table, the one of this index in FROM, that the statement concerns
abbrev pub IsRangeAmong : UserNames → List TypedTerm → ℕ → Source → Option KeyRange → Type 0
IsRangeAmong users conditions index s None = Unit {0}
IsRangeAmong users conditions index s (Some range) = LosesNoRow s.table.now.id s.table.now.definition.layout index users s.guard.existing conditions range

-- the same of an UPDATE or a DELETE with this condition
abbrev pub IsRangeWhere : UserNames → Source → Option (Bor TypedTerm) → Option KeyRange → Type 0
IsRangeWhere users s condition range = IsRangeAmong users (option_to_list (option_copied condition)) 0 s range

-- these are the tables from this index in FROM on, each with such a range
abbrev pub AreRanged : UserNames → List TypedTerm → ℕ → List Source → List RangedSource → Type 0
AreRanged users conditions index [] [] = Unit {0}
AreRanged users conditions index [] (r ∷ ranged) = ⊥
AreRanged users conditions index (s ∷ sources) [] = ⊥
AreRanged users conditions index (s ∷ sources) (r ∷ ranged) = (r.source.now ≡ s) × IsRangeAmong users conditions index s r.range × AreRanged users conditions (index + 1) sources ranged
