-- The boxes of a condition: outside of all of them it is false, and does not fail.
use Rattle.std.specs.Prelude.{◌≡◌, ℕ, ◌*◌, ◌^◌, ◌-◌, min, Bool, true, false, not, ◌&&◌, ◌||◌, if◌then◌else◌, nat_eq, nat_lt, bytes_eq, slice_get, List, [], ◌∷◌, ◌++◌, map, length, Option, Some, None, Ok}
use Rattle.std.specs.Borrow.{Bor}
use Rattle.std.specs.List.{list_any, list_all}
use Rattle.std.specs.declared.cmp.Ordering.{Ordering}
use Rattle.std.specs.Ordering.{is_eq, is_lt, is_gt}
use Rattle.sql_types.specs.declared.value.Value.{Value}
use Rattle.sql_types.specs.declared.value.Value.TheVariants.{Int, Text, Bool as Boolean}
use Rattle.sql_types.specs.Value.{compare_values}
use Rattle.sql_types.specs.Row.{Row, value_at}
use Rattle.sql_ast.specs.declared.columns.Column.{Column}
use Rattle.sql_ast.specs.declared.columns.ColumnType.{ColumnType}
use Rattle.sql_ast.specs.declared.columns.ColumnType.TheVariants as type
use Rattle.sql_ast.specs.declared.expression.Comparison.{Comparison}
use Rattle.sql_ast.specs.declared.expression.Comparison.TheVariants as op
use Rattle.sql_ast.specs.declared.scope.ColumnIndex.{ColumnIndex}
use Rattle.sql_ast.specs.Layout.{Layout, IsLayout}
use Rattle.sql_ast.specs.Fits.{FitsTable}
use Rattle.sql_ast.specs.Term.{Term, literal, column, comparison, conjunction, disjunction, member_test}
use Rattle.expressions.specs.Meaning.{UserNames, value_of}
use Rattle.expressions.specs.Operators.{compared}
use Rattle.expressions.specs.Infallible.{has_no_arithmetic}
use Rattle.expressions.specs.Truths.{false_value}
use Rattle.key_ranges.specs.declared.bounds.BoundKind.{BoundKind}
use Rattle.key_ranges.specs.declared.bounds.BoundKind.TheVariants as kind
use Rattle.key_ranges.specs.Bounds.{exchanged, constant}
use Rattle.key_ranges.specs.Ranges.{IsBehind}

-- ---- boxes

-- a column is equal to a value, or not less, or not greater
pub record Bound : Type 0 where
  pub kind : BoundKind
  pub column : ℕ
  pub value : Value

-- rows that are within all of these bounds
abbrev pub Box : Type 0
Box = List Bound

abbrev pub allows : BoundKind → Ordering → Bool
allows kind.Equal o = is_eq o
allows kind.Lower o = not (is_lt o)
allows kind.Upper o = not (is_gt o)

abbrev pub allows_in : BoundKind → Option Ordering → Bool
allows_in k None = false
allows_in k (Some o) = allows k o

abbrev pub is_bounded_by : Row → Bound → Bool
is_bounded_by row b = allows_in b.kind (compare_values (value_at row b.column) b.value)

abbrev pub is_in_box : Row → Box → Bool
is_in_box row box = list_all (is_bounded_by row) box

abbrev pub is_in_boxes : Row → List Box → Bool
is_in_boxes row boxes = list_any (is_in_box row) boxes

abbrev pub everything : List Box
everything = [] ∷ []

abbrev pub nothing : List Box
nothing = []

abbrev pub same_kind : BoundKind → BoundKind → Bool
same_kind kind.Equal kind.Equal = true
same_kind kind.Lower kind.Lower = true
same_kind kind.Upper kind.Upper = true
same_kind _ _ = false

-- two bounds of a column, of which the first is one value, and the second does not allow this
abbrev pub contradicts : Bound → Bound → Bool
contradicts a b = same_kind a.kind kind.Equal && (nat_eq a.column b.column && not (allows_in b.kind (compare_values a.value b.value)))

abbrev pub contradicts_any : Box → Bound → Bool
contradicts_any box a = list_any (contradicts a) box

-- two bounds contradict one another: no row is in the box
abbrev pub is_void : Box → Bool
is_void box = list_any (contradicts_any box) box

-- the boxes of the rows that are in this one and in one of others
abbrev pub beside : Box → List Box → List Box
beside x [] = []
beside x (y ∷ ys) = if is_void (x ++ y) then beside x ys else (x ++ y) ∷ beside x ys

abbrev pub all_beside : List Box → List Box → List Box
all_beside [] ys = []
all_beside (x ∷ xs) ys = beside x ys ++ all_beside xs ys

-- how many boxes a condition has at most
abbrev pub box_limit : ℕ
box_limit = 1024

-- how many pairs there are, up to 2 ^ 64 - 1
abbrev pub pairs : List Box → List Box → ℕ
pairs xs ys = min (length xs * length ys) (2 ^ 64 - 1)

-- whether bounds, and boxes, are the same in the same order
abbrev pub same_bound : Bound → Bound → Bool
same_bound a b = same_kind a.kind b.kind && (nat_eq a.column b.column && allows_in kind.Equal (compare_values a.value b.value))

abbrev pub same_box : Box → Box → Bool
same_box [] [] = true
same_box (a ∷ x) (b ∷ y) = same_bound a b && same_box x y
same_box _ _ = false

abbrev pub same_boxes : List Box → List Box → Bool
same_boxes [] [] = true
same_boxes (x ∷ xs) (y ∷ ys) = same_box x y && same_boxes xs ys
same_boxes _ _ = false

-- the boxes of the rows that are in one of the first and in one of the second; the first alone where both are the same, and where the pairs are too many
abbrev pub both_boxes : List Box → List Box → List Box
both_boxes xs ys = if nat_lt box_limit (pairs xs ys) || same_boxes xs ys then xs else all_beside xs ys

-- ---- one box around many

abbrev pub lesser_by : Option Ordering → Value → Value → Option Value
lesser_by None v w = None
lesser_by (Some o) v w = Some (if is_gt o then w else v)

abbrev pub greater_by : Option Ordering → Value → Value → Option Value
greater_by None v w = None
greater_by (Some o) v w = Some (if is_lt o then w else v)

-- of two values the lesser, or the greater; none where one is missing, or they do not compare
abbrev pub lesser : Option Value → Option Value → Option Value
lesser (Some v) (Some w) = lesser_by (compare_values v w) v w
lesser _ _ = None

abbrev pub greater : Option Value → Option Value → Option Value
greater (Some v) (Some w) = greater_by (compare_values v w) v w
greater _ _ = None

-- a value that a column of a box does not fall below, or rise above, by the first bound of it that says so
abbrev pub lowest_in : ℕ → Box → Option Value
lowest_in index [] = None
lowest_in index (b ∷ box) = if nat_eq b.column index && not (same_kind b.kind kind.Upper) then Some b.value else lowest_in index box

abbrev pub highest_in : ℕ → Box → Option Value
highest_in index [] = None
highest_in index (b ∷ box) = if nat_eq b.column index && not (same_kind b.kind kind.Lower) then Some b.value else highest_in index box

-- the least of these values of boxes, and the greatest, if each has one
abbrev pub lowest_of : ℕ → Option Value → List Box → Option Value
lowest_of index least [] = least
lowest_of index least (x ∷ xs) = lowest_of index (lesser least (lowest_in index x)) xs

abbrev pub highest_of : ℕ → Option Value → List Box → Option Value
highest_of index greatest [] = greatest
highest_of index greatest (x ∷ xs) = highest_of index (greater greatest (highest_in index x)) xs

abbrev pub bound_if : BoundKind → ℕ → Option Value → Box
bound_if k index None = []
bound_if k index (Some v) = record { kind = k; column = index; value = v } ∷ []

-- one box that has the rows of all, by the bounds of a column
abbrev pub box_around : ℕ → Box → List Box → Box
box_around index x xs = bound_if kind.Lower index (lowest_of index (lowest_in index x) xs) ++ bound_if kind.Upper index (highest_of index (highest_in index x) xs)

-- the same, by the column that the first of them bounds first
abbrev pub around : List Box → List Box
around [] = nothing
around ([] ∷ xs) = everything
around ((b ∷ x) ∷ xs) = box_around b.column (b ∷ x) xs ∷ []

-- the boxes of the rows that are in one of the first or in one of the second; one around all where they are too many
abbrev pub either_boxes : List Box → List Box → List Box
either_boxes xs ys = if nat_lt box_limit (length (xs ++ ys)) then around (xs ++ ys) else xs ++ ys

-- ---- the boxes of a condition

abbrev pub kind_of : Comparison → Option BoundKind
kind_of op.Equal = Some kind.Equal
kind_of op.NotEqual = None
kind_of op.Less = Some kind.Upper
kind_of op.LessOrEqual = Some kind.Upper
kind_of op.Greater = Some kind.Lower
kind_of op.GreaterOrEqual = Some kind.Lower

abbrev pub has_type : ColumnType → Value → Bool
has_type type.BigInt (Int z) = true
has_type type.Text (Text t) = true
has_type type.Boolean (Boolean b) = true
has_type _ _ = false

abbrev pub column_has_type : Option Column → Value → Bool
column_has_type None v = false
column_has_type (Some c) v = has_type c.column_type v

-- whether this is a column of the key, with values of this one's type: no row has a null there, so it compares to the value in each row
abbrev pub is_comparable : Layout → ℕ → Value → Bool
is_comparable layout index v = list_any (nat_eq index) layout.key && column_has_type (slice_get layout.columns index) v

abbrev pub one_box : Layout → ℕ → BoundKind → Value → Option (List Box)
one_box layout index k v = if is_comparable layout index v then Some ((record { kind = k; column = index; value = v } ∷ []) ∷ []) else None

abbrev pub boxes_by : Layout → ℕ → Option BoundKind → Option Value → Option (List Box)
boxes_by layout index None v = None
boxes_by layout index (Some k) None = None
boxes_by layout index (Some k) (Some v) = one_box layout index k v

-- those of a comparison whose left operand is a column of the table, and whose right one is known
abbrev pub boxes_at : Layout → ℕ → UserNames → List (Bor Row) → Comparison → Term ColumnIndex → Term ColumnIndex → Option (List Box)
boxes_at layout table users front operator (column c) right = if nat_eq c.table table then boxes_by layout c.column (kind_of operator) (constant users front right) else None
boxes_at layout table users front operator _ right = None

abbrev pub is_no : Value → Bool
is_no (Boolean false) = true
is_no _ = false

-- nothing where a value that is known is false
abbrev pub boxes_if : Value → List Box
boxes_if v = if is_no v then nothing else everything

-- those of a comparison of two values that are known
abbrev pub boxes_between : Comparison → Option Value → Option Value → List Box
boxes_between operator (Some v) (Some w) = boxes_if (compared operator v w)
boxes_between operator _ _ = everything

abbrev pub boxes_or : Option (List Box) → List Box → List Box
boxes_or None other = other
boxes_or (Some boxes) other = boxes

abbrev pub boxes_compared : Layout → ℕ → UserNames → List (Bor Row) → Comparison → Term ColumnIndex → Term ColumnIndex → List Box
boxes_compared layout table users front operator a b =
    boxes_or (boxes_at layout table users front operator a b)
    (boxes_or (boxes_at layout table users front (exchanged operator) b a) (boxes_between operator (constant users front a) (constant users front b)))

-- one for each role
abbrev pub boxes_for_roles : List (List ℕ) → ℕ → List Box
boxes_for_roles roles index = map (λ role. record { kind = kind.Equal; column = index; value = Text role } ∷ []) roles

-- one around all where the roles are too many
abbrev pub boxes_of_roles : List (List ℕ) → ℕ → List Box
boxes_of_roles roles index = if nat_lt box_limit (length roles) then around (boxes_for_roles roles index) else boxes_for_roles roles index

abbrev pub boxes_of_name : UserNames → Option Value → List Box
boxes_of_name users (Some (Text name)) = boxes_if (Boolean (users.is_in name))
boxes_of_name users _ = everything

-- those of MEMBER OF a column of the table, or of a name that is known
abbrev pub boxes_of_member : Layout → ℕ → UserNames → List (List ℕ) → List (Bor Row) → Term ColumnIndex → List Box
boxes_of_member layout table users roles front (column c) =
    if nat_eq c.table table then (if is_comparable layout c.column (Text []) then boxes_of_roles roles c.column else everything) else boxes_of_name users (constant users front (column c))
boxes_of_member layout table users roles front a = boxes_of_name users (constant users front a)

-- the boxes of a condition on the rows of the table of this index in FROM, beside these rows of the tables before it, for a current role that is in these roles.
-- Of an AND whose left operand may fail the right one says nothing: it is not asked where the left one is false, and where it is, the left one may have failed
abbrev pub boxes_of : Layout → ℕ → UserNames → List (List ℕ) → List (Bor Row) → Term ColumnIndex → List Box
boxes_of layout table users roles front (conjunction a b) =
    if has_no_arithmetic a then both_boxes (boxes_of layout table users roles front a) (boxes_of layout table users roles front b) else boxes_of layout table users roles front a
boxes_of layout table users roles front (disjunction a b) = either_boxes (boxes_of layout table users roles front a) (boxes_of layout table users roles front b)
boxes_of layout table users roles front (comparison operator a b) = boxes_compared layout table users front operator a b
boxes_of layout table users roles front (member_test a) = boxes_of_member layout table users roles front a
boxes_of layout table users roles front (literal v) = boxes_if v
boxes_of layout table users roles front _ = everything

-- ---- what they say

-- these are the roles that the current one is in
abbrev pub AreRolesFor : UserNames → List (List ℕ) → Type 0
AreRolesFor users roles = (name : List ℕ) → users.is_in name ≡ list_any (bytes_eq name) roles

-- on a row outside of the boxes the condition is false: it does not fail
abbrev pub IsFalseOutside : Layout → ℕ → UserNames → (ColumnIndex → Value) → Row → Term ColumnIndex → List Box → Type 0
IsFalseOutside layout table users cell row term boxes = is_in_boxes row boxes ≡ false → value_of cell users term ≡ Ok false_value

-- so it is of each row that the table may hold, whatever the rows beside it are
abbrev pub BoxesLoseNothing : Type 0
BoxesLoseNothing = (layout : Layout) (table : ℕ) (users : UserNames) (roles : List (List ℕ)) (front : List (Bor Row)) (cell : ColumnIndex → Value) (row : Row) (term : Term ColumnIndex)
    → IsLayout layout → AreRolesFor users roles → IsBehind front cell → FitsTable layout row → ((index : ℕ) → cell (record { table = table; column = index }) ≡ value_at row index)
    → IsFalseOutside layout table users cell row term (boxes_of layout table users roles front term)

-- a row that is in one of the boxes is in the one around them
abbrev pub AroundLosesNothing : Type 0
AroundLosesNothing = (row : Row) (boxes : List Box) → is_in_boxes row boxes ≡ true → is_in_boxes row (around boxes) ≡ true
