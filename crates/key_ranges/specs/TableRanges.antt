-- The ranges of keys that the guard of a table and the conditions of a statement leave of it together.
use Rattle.std.specs.Prelude.{◌≡◌, ℕ, Bool, true, false, ◌&&◌, if◌then◌else◌, nat_eq, List, [], ◌∷◌, map, fold, Option, Some, None}
use Rattle.std.specs.List.{list_all}
use Rattle.std.specs.declared.cmp.Ordering.{Ordering}
use Rattle.std.specs.declared.cmp.Ordering.TheVariants.{Less, Greater}
use Rattle.sql_types.specs.declared.value.Value.{Value}
use Rattle.sql_types.specs.declared.value.Value.TheVariants.{Bool as Boolean}
use Rattle.sql_types.specs.Value.{compare_values}
use Rattle.sql_ast.specs.declared.scope.ColumnIndex.{ColumnIndex}
use Rattle.sql_ast.specs.Layout.{Layout, IsLayout}
use Rattle.sql_ast.specs.Term.{Term, literal, conjunction, disjunction, member_test}
use Rattle.expressions.specs.Meaning.{UserNames}
use Rattle.expressions.specs.Types.{TypedTerm}
use Rattle.abstract_database.specs.Guards.{formula}
use Rattle.guards.specs.declared.guard.Formula.{Formula}
use Rattle.guards.specs.Guards.{terms, row_guard}
use Rattle.row_codec.specs.Rows.{row_prefix}
use Rattle.key_ranges.specs.declared.bounds.BoundKind.{BoundKind}
use Rattle.key_ranges.specs.declared.bounds.BoundKind.TheVariants as kind
use Rattle.key_ranges.specs.declared.range.KeyRange.{KeyRange}
use Rattle.key_ranges.specs.Bounds.{Bounds, is_key_value}
use Rattle.key_ranges.specs.declared.range.KeyRange.TheVariants.{Point, Span, Several}
use Rattle.key_ranges.specs.Ranges.{range_after, range_of, is_first_bounded, is_inside, IsRangeOf}
use Rattle.key_ranges.specs.declared.spans.KeySpan.{KeySpan}
use Rattle.key_ranges.specs.InOrder.{by_start, least_start, merged, widest_stop}
use Rattle.key_ranges.specs.Infallible.{is_formula_infallible, are_formulas_infallible}
use Rattle.key_ranges.specs.Boxes.{Bound, Box, everything, both_boxes, boxes_of, same_kind, AreRolesFor}
use Rattle.key_ranges.specs.LeftOut.{OutsideMayBeLeftOut}

-- ---- boxes of a guard, and of conditions behind it

abbrev pub boxes_of_formula : Layout → UserNames → List (List ℕ) → Formula → List Box
boxes_of_formula layout users roles f = boxes_of layout 0 users roles [] (formula (terms f.permissive) (terms f.restrictive))

-- behind a formula that may fail the next ones say nothing
abbrev pub boxes_of_guard : Layout → UserNames → List (List ℕ) → List Formula → List Box
boxes_of_guard layout users roles [] = everything
boxes_of_guard layout users roles (f ∷ fs) =
    if is_formula_infallible f then both_boxes (boxes_of_formula layout users roles f) (boxes_of_guard layout users roles fs) else boxes_of_formula layout users roles f

-- c1 AND c2 .., grouped to the left
abbrev pub joined : List (Term ColumnIndex) → Term ColumnIndex
joined [] = literal (Boolean true)
joined (c ∷ cs) = fold conjunction c cs

-- behind a guard that may fail the conditions say nothing
abbrev pub boxes_of_table : Layout → ℕ → UserNames → List (List ℕ) → List Formula → List (Term ColumnIndex) → List Box
boxes_of_table layout table users roles fs conditions =
    if are_formulas_infallible fs then both_boxes (boxes_of_guard layout users roles fs) (boxes_of layout table users roles [] (joined conditions)) else boxes_of_guard layout users roles fs

-- ---- their ranges

-- of two values that a kind of bound has, whether the first leaves less: of lower bounds the greater, of upper bounds the lesser
abbrev pub is_tighter : BoundKind → Option Ordering → Bool
is_tighter kind.Lower (Some Greater) = true
is_tighter kind.Upper (Some Less) = true
is_tighter _ _ = false

abbrev pub tighter : BoundKind → Value → Option Value → Value
tighter k v None = v
tighter k v (Some w) = if is_tighter k (compare_values w v) then w else v

-- whether a bound is of this kind and column, with a value that a key may hold
abbrev pub sets : BoundKind → ℕ → Bound → Bool
sets k index b = same_kind k b.kind && (nat_eq b.column index && is_key_value b.value)

-- the tightest bound of this kind that a box sets to a column
abbrev pub bounds_of_box : Box → Bounds
bounds_of_box [] k index = None
bounds_of_box (b ∷ box) k index = if sets k index b then Some (tighter k b.value (bounds_of_box box k index)) else bounds_of_box box k index

abbrev pub range_of_box : ℕ → Layout → Box → KeyRange
range_of_box id layout box = range_after (bounds_of_box box) layout.key (row_prefix id)

-- whether a box bounds the first column of the key
abbrev pub bounds_first : Layout → Box → Bool
bounds_first layout box = is_first_bounded (bounds_of_box box) layout.key

abbrev pub or_else_range : Option KeyRange → Option KeyRange → Option KeyRange
or_else_range (Some range) other = Some range
or_else_range None other = other

-- a span with the keys of a range
abbrev pub span_of : KeyRange → KeySpan
span_of (Point key) = record { start = key; stop = key }
span_of (Span start stop) = record { start = start; stop = stop }
span_of (Several s) = record { start = s.start; stop = s.stop }

-- the spans of boxes
abbrev pub spans_of_boxes : ℕ → Layout → List Box → List KeySpan
spans_of_boxes id layout boxes = map (λ box. span_of (range_of_box id layout box)) boxes

-- one span around all of these
abbrev pub around_all : List KeySpan → KeySpan
around_all [] = record { start = []; stop = [] }
around_all (s ∷ ss) = record { start = least_start s.start ss; stop = widest_stop s.stop ss }

-- the range of several spans
abbrev pub several : List KeySpan → KeyRange
several spans = Several (record { start = (around_all spans).start; stop = (around_all spans).stop; spans = spans })

-- spans as one range, if there are any
abbrev pub range_of_spans : List KeySpan → Option KeyRange
range_of_spans [] = None
range_of_spans (s ∷ []) = Some (Span s.start s.stop)
range_of_spans (s ∷ t ∷ ss) = Some (several (s ∷ t ∷ ss))

-- the range of boxes: of one box its own, of several those of all in their order, as one where they touch
abbrev pub ranges_joined : ℕ → Layout → List Box → Option KeyRange
ranges_joined id layout [] = None
ranges_joined id layout (box ∷ []) = Some (range_of_box id layout box)
ranges_joined id layout (box ∷ other ∷ boxes) = range_of_spans (merged (by_start (spans_of_boxes id layout (box ∷ other ∷ boxes))))

-- the range with the keys of all boxes: none where one of them does not bound the first column of the key; a key that no row has where there is no box
abbrev pub range_of_boxes : ℕ → Layout → List Box → Option KeyRange
range_of_boxes id layout boxes = if list_all (bounds_first layout) boxes then or_else_range (ranges_joined id layout boxes) (Some (Point (row_prefix id))) else None

-- whether a condition has one box, which is found without a list: no OR, and no MEMBER OF
abbrev pub has_one_box : Term ColumnIndex → Bool
has_one_box (conjunction a b) = has_one_box a && has_one_box b
has_one_box (disjunction a b) = false
has_one_box (member_test a) = false
has_one_box _ = true

abbrev pub have_one_box : List TypedTerm → Bool
have_one_box conditions = list_all (λ c. has_one_box c.term) conditions

-- the range that conditions leave by themselves, if each has one box and none can fail
abbrev pub plain_range : ℕ → Layout → ℕ → UserNames → List Formula → List TypedTerm → Option KeyRange
plain_range id layout table users [] conditions = if have_one_box conditions then range_of id layout table users conditions else None
plain_range id layout table users (f ∷ fs) conditions = None

abbrev pub terms_of : List TypedTerm → List (Term ColumnIndex)
terms_of conditions = map (λ c. c.term) conditions

-- the range of its keys that the guard of a table and the conditions leave of it
abbrev pub range_of_table : ℕ → Layout → ℕ → UserNames → List (List ℕ) → List Formula → List TypedTerm → Option KeyRange
range_of_table id layout table users roles fs conditions =
    or_else_range (plain_range id layout table users fs conditions) (range_of_boxes id layout (boxes_of_table layout table users roles fs (terms_of conditions)))

-- ---- what it loses: nothing

-- each row outside the range may be left out of a SELECT, in which the table has this index, whatever the other tables are and whatever fails there
abbrev pub MayLeaveRest : ℕ → Layout → ℕ → UserNames → List Formula → List TypedTerm → KeyRange → Type 0
MayLeaveRest id layout table users fs conditions range = OutsideMayBeLeftOut table layout users (row_guard users fs) (terms_of conditions) (is_inside id layout range)

-- the range has keys of the table of this number alone, and each row outside it may be left out
pub record LosesNoRow (id : ℕ) (layout : Layout) (table : ℕ) (users : UserNames) (fs : List Formula) (conditions : List TypedTerm) (range : KeyRange) : Type 0 where
  pub of_table : IsRangeOf id range
  pub leaves : MayLeaveRest id layout table users fs conditions range

abbrev pub TableRangeLosesNothing : Type 0
TableRangeLosesNothing = (id : ℕ) (layout : Layout) (table : ℕ) (users : UserNames) (roles : List (List ℕ)) (fs : List Formula) (conditions : List TypedTerm) (range : KeyRange) → IsLayout layout → AreRolesFor users roles
    → range_of_table id layout table users roles fs conditions ≡ Some range → LosesNoRow id layout table users fs conditions range
