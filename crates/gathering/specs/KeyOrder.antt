-- Sort keys in whose order the rows of a table stand already.
use Rattle.std.specs.Prelude.{◌≡◌, ℕ, Bool, true, false, not, ◌&&◌, nat_eq, List, [], ◌∷◌, Option, Some, None}
use Rattle.std.specs.Ordering.{is_gt}
use Rattle.std.specs.declared.cmp.Ordering.{Ordering}
use Rattle.sql_ast.specs.Rows.{row_cmp}
use Rattle.sql_ast.specs.declared.scope.ColumnIndex.{ColumnIndex}
use Rattle.expressions.specs.Meaning.{UserNames}
use Rattle.abstract_database.specs.Expressions.{row_at}
use Rattle.abstract_database.specs.Lists.{Among}
use Rattle.abstract_database.specs.Queries.{Combination}
use Rattle.gathering.specs.declared.query.TypedSortKey.{TypedSortKey}
use Rattle.gathering.specs.declared.query.Query.{Query}
use Rattle.gathering.specs.Joins.{column_in}
use Rattle.gathering.specs.Queries.{answered, bound_of}

-- whether this is the first table's column of the index
abbrev pub is_own_column : ℕ → Option ColumnIndex → Bool
is_own_column index None = false
is_own_column index (Some column) = nat_eq column.table 0 && nat_eq column.column index

-- whether rows are sorted by the first table's column of the index, ascending
abbrev pub is_ascending_by : ℕ → TypedSortKey → Bool
is_ascending_by index key = not key.descending && is_own_column index (column_in key.value.term)

-- whether the sort keys are the first of these columns, each ascending
abbrev pub are_first_of : List ℕ → List TypedSortKey → Bool
are_first_of columns [] = true
are_first_of [] (key ∷ keys) = false
are_first_of (index ∷ columns) (key ∷ keys) = is_ascending_by index key && are_first_of columns keys

-- a query without its sort keys
abbrev pub unsorted : Query → Query
unsorted q = record { list = q.list; conditions = q.conditions; keys = []; limit = q.limit }

-- combinations by these columns of the first table
abbrev pub first_row_cmp : List ℕ → Combination → Combination → Ordering
first_row_cmp columns c d = row_cmp columns (row_at c 0) (row_at d 0)

-- each two elements of a list, in their order, are so
abbrev pub Pairwise : {X : Type 0} → (X → X → Type 0) → List X → Type 0
Pairwise R [] = Unit {0}
Pairwise {X} R (x ∷ xs) = ((y : X) → Among y xs → R x y) × Pairwise R xs

-- no element is behind one that comes later
abbrev pub NeverFalls : {X : Type 0} → (X → X → Ordering) → List X → Type 0
NeverFalls cmp xs = Pairwise (λ x y. is_gt (cmp x y) ≡ false) xs

-- combinations that never fall by columns are sorted by the first of them
abbrev pub KeyOrderIsSorted : Type 0
KeyOrderIsSorted = (columns : List ℕ) (users : UserNames) (q : Query) (combinations : List Combination) → are_first_of columns q.keys ≡ true → NeverFalls (first_row_cmp columns) combinations
    → answered users (bound_of q) combinations ≡ answered users (bound_of (unsorted q)) combinations
