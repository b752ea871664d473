-- The ranges that a guard and conditions leave of a table lose nothing.
use Rattle.std.proofs.Common.{◌≡◌, ℕ, Bool, true, false, ◌&&◌, ◌||◌, if◌then◌else◌, nat_eq, bytes_eq, List, [], ◌∷◌, ◌++◌, map, fold, length, Option, Some, None, Ok, append-nil, refl, sym, ap, subst, ◌∙◌}
use Rattle.std.specs.Prelude.{IfSome}
use Rattle.std.specs.List.{list_all, list_any, AllByRecursion}
use Rattle.std.specs.Borrow.{Bor}
use Rattle.std.specs.declared.cmp.Ordering.{Ordering}
use Rattle.sql_types.specs.declared.value.Value.{Value}
use Rattle.sql_types.specs.declared.value.Value.TheVariants.{Null, Int, Text, Bool as Boolean}
use Rattle.sql_types.specs.Value.{compare_values}
use Rattle.sql_types.specs.Row.{Row, value_at}
use Rattle.sql_ast.specs.declared.scope.ColumnIndex.{ColumnIndex}
use Rattle.sql_ast.specs.Layout.{Layout, IsLayout}
use Rattle.sql_ast.specs.Fits.{FitsTable}
use Rattle.sql_ast.specs.Term.{Term, conjunction}
use Rattle.expressions.specs.Outcome.{Outcome}
use Rattle.expressions.specs.declared.eval.Users.{Users}
use Rattle.expressions.specs.Rows.{names_of}
use Rattle.expressions.specs.Meaning.{UserNames, value_of}
use Rattle.expressions.specs.Stages.{◌>>=◌}
use Rattle.expressions.specs.Truths.{false_value}
use Rattle.expressions.specs.Types.{TypedTerm}
use Rattle.expressions.proofs.Infallibility.{HasValue}
use Rattle.abstract_database.specs.Expressions.{cell_in, bound_value, all_of, when_true}
use Rattle.abstract_database.specs.Guards.{formula}
use Rattle.abstract_database.specs.Queries.{Combination, condition_value}
use Rattle.store.specs.Records.{has_prefix}
use Rattle.store.proofs.HeldItems.{own_prefix}
use Rattle.guards.specs.declared.guard.Formula.{Formula}
use Rattle.guards.specs.Guards.{terms, formula_value, guard_value, cells_of, row_guard}
use Rattle.guards.specs.Truths.{is_met}
use Rattle.row_codec.specs.Cells.{key_cell}
use Rattle.row_codec.specs.Rows.{row_prefix}
use Rattle.row_codec.proofs.Layouts.{and_parts}
use Rattle.key_ranges.specs.declared.bounds.BoundKind.{BoundKind}
use Rattle.key_ranges.specs.declared.bounds.BoundKind.TheVariants as kind
use Rattle.key_ranges.specs.Bounds.{Bounds, is_key_value, bounds_of}
use Rattle.key_ranges.specs.Ranges.{IsBehind, is_in, is_inside, is_first_bounded, by_value, range_after, range_of, span_after, IsRangeOf, IsSpanOf}
use Rattle.key_ranges.specs.Infallible.{is_formula_infallible, are_formulas_infallible, are_infallible}
use Rattle.stored_database.specs.RecordFormat.{row_record}
use Rattle.key_ranges.specs.Boxes.{Box, same_kind, allows_in, is_bounded_by, is_in_box, is_in_boxes, both_boxes, boxes_of, AreRolesFor}
use Rattle.key_ranges.specs.declared.range.KeyRange.{KeyRange}
use Rattle.key_ranges.specs.declared.range.KeyRange.TheVariants.{Point, Span, Several}
use Rattle.key_ranges.specs.Spans.{Spans, is_in_span, is_in_spans}
use Rattle.key_ranges.specs.Laws.{IsHarmless}
use Rattle.key_ranges.specs.BoxCode.{role_names}
use Rattle.key_ranges.specs.TableRanges.{boxes_of_formula, boxes_of_guard, joined, boxes_of_table, is_tighter, tighter, sets, bounds_of_box, range_of_box, bounds_first, span_of, spans_of_boxes, ranges_joined, or_else_range, range_of_boxes, range_of_table, have_one_box, plain_range, terms_of, MayLeaveRest, LosesNoRow, TableRangeLosesNothing}
use Rattle.key_ranges.proofs.Conditions.{IsWithin, same_number}
use Rattle.key_ranges.proofs.Infallibility.{all_infallible}
use Rattle.key_ranges.proofs.InOrders.{in_span_of}
use Rattle.key_ranges.proofs.JoinedRanges.{joined_has, joined_of, joined_some}
use Rattle.key_ranges.proofs.OutsideBoxes.{second_none, false_outside}
use Rattle.key_ranges.proofs.InfallibleGuards.{formula_there, infallible_guard}
use Rattle.key_ranges.proofs.Unchanged.{is_true, all_value, cell_there, condition_is, each_value, not_true, outcomes}
use Rattle.key_ranges.proofs.Within.{AreWithin, in_range, range_keys, range_prefix}

-- ---- a row that is in a box is in its range

allowed_in : (k : BoundKind) (x v : Value) (o : Option Ordering) → o ≡ compare_values x v → is_key_value v ≡ true → allows_in k o ≡ true → IsWithin k x v
allowed_in k x v None e key h = cc
allowed_in k x v (Some r) e key h = record { key_value = key; order = r; compared = sym e; allowed = h }

the_kind : (k l : BoundKind) → same_kind k l ≡ true → k ≡ l
the_kind kind.Equal kind.Equal h = refl
the_kind kind.Lower kind.Lower h = refl
the_kind kind.Upper kind.Upper h = refl
the_kind _ _ h = cc

tighter_within : (k : BoundKind) (x v : Value) (other : Option Value) → IsWithin k x v → ((w : Value) → other ≡ Some w → IsWithin k x w) → IsWithin k x (tighter k v other)
tighter_within k x v None within rest = within
tighter_within k x v (Some w) within rest = go (is_tighter k (compare_values w v))
  where
    go : (t : Bool) → IsWithin k x (if t then w else v)
    go true = rest w refl
    go false = within

bounds_within : (row : Row) (box : Box) → is_in_box row box ≡ true → AreWithin (bounds_of_box box) row
bounds_within row [] there k index v h = cc
bounds_within row (b ∷ box) there k index v h = go (sets k index b) refl h (λ w f. bounds_within row box parts.1 k index w f)
  where
    parts : (is_bounded_by row b ≡ true) × (is_in_box row box ≡ true)
    parts = and_parts (is_bounded_by row b) (is_in_box row box) there

    here : sets k index b ≡ true → IsWithin k (value_at row index) b.value
    here e =
        let both = and_parts (same_kind k b.kind) (nat_eq b.column index && is_key_value b.value) e in
        let rest = and_parts (nat_eq b.column index) (is_key_value b.value) both.1 in
        subst (λ c. IsWithin k (value_at row c) b.value) (same_number b.column index rest.0)
        (subst (λ l. IsWithin l (value_at row b.column) b.value) (sym (the_kind k b.kind both.0))
        (allowed_in b.kind (value_at row b.column) b.value (compare_values (value_at row b.column) b.value) refl rest.1 parts.0))

    go : (t : Bool) → t ≡ sets k index b → (if t then Some (tighter k b.value (bounds_of_box box k index)) else bounds_of_box box k index) ≡ Some v
        → ((w : Value) → bounds_of_box box k index ≡ Some w → IsWithin k (value_at row index) w) → IsWithin k (value_at row index) v
    go false e f later = later v f
    go true e f later =
        let is_v : tighter k b.value (bounds_of_box box k index) ≡ v = cc in
        subst (λ w. IsWithin k (value_at row index) w) is_v (tighter_within k (value_at row index) b.value (bounds_of_box box k index) (here (sym e)) later)

-- ---- one range for boxes

-- a range that bounds leave is not of several spans
one_span : (bounds : Bounds) (indices front : List ℕ) (s : Spans) → range_after bounds indices front ≡ Several s → ⊥
one_span bounds [] front s h = cc
one_span bounds (index ∷ indices) front s h = go (bounds kind.Equal index) (λ v e. one_span bounds indices (front ++ key_cell v) s e) h
  where
    go : (o : Option Value) → ((v : Value) → range_after bounds indices (front ++ key_cell v) ≡ Several s → ⊥) → by_value o (λ v. range_after bounds indices (front ++ key_cell v)) (span_after bounds index front) ≡ Several s → ⊥
    go None later e = cc
    go (Some v) later e = later v e

module _ (id : ℕ) (layout : Layout) where
  span_of_table : (r : KeyRange) → ((s : Spans) → r ≡ Several s → ⊥) → IsRangeOf id r → IsSpanOf id (span_of r)
  span_of_table (Point key) one h = (h, h)
  span_of_table (Span start stop) one h = h
  span_of_table (Several s) one h = absurd (one s refl)

  spans_of_table : (boxes : List Box) → AllByRecursion (IsSpanOf id) (spans_of_boxes id layout boxes)
  spans_of_table [] = tt
  spans_of_table (box ∷ boxes) =
      (span_of_table (range_of_box id layout box) (λ s e. one_span (bounds_of_box box) layout.key (row_prefix id) s e) (range_prefix id (bounds_of_box box) layout.key), spans_of_table boxes)

  module _ (is : IsLayout layout) (row : Row) (fits : FitsTable layout row) where
    abbrev own_key : List ℕ
    own_key = (row_record id layout row).0

    in_box_range : (box : Box) → is_in_box row box ≡ true → is_in (range_of_box id layout box) own_key ≡ true
    in_box_range box e = in_range layout.columns row (bounds_of_box box) fits.columns (bounds_within row box e) layout.key is.key_not_null (row_prefix id)

    in_spans : (boxes : List Box) → is_in_boxes row boxes ≡ true → is_in_spans (spans_of_boxes id layout boxes) own_key ≡ true
    in_spans [] h = cc
    in_spans (box ∷ boxes) h = go (is_in_box row box) refl h (λ e. in_spans boxes e)
      where
        first : Bool
        first = is_in_span (span_of (range_of_box id layout box)) own_key

        go : (b : Bool) → b ≡ is_in_box row box → (b || is_in_boxes row boxes) ≡ true → (is_in_boxes row boxes ≡ true → is_in_spans (spans_of_boxes id layout boxes) own_key ≡ true) → (first || is_in_spans (spans_of_boxes id layout boxes) own_key) ≡ true
        go true e f later =
            let here : first ≡ true = in_span_of (range_of_box id layout box) own_key (λ s e. one_span (bounds_of_box box) layout.key (row_prefix id) s e) (in_box_range box (sym e)) in
            ap (λ c. c || is_in_spans (spans_of_boxes id layout boxes) own_key) here
        go false e f later = behind first (later f)
          where
            behind : (c : Bool) → is_in_spans (spans_of_boxes id layout boxes) own_key ≡ true → (c || is_in_spans (spans_of_boxes id layout boxes) own_key) ≡ true
            behind true g = refl
            behind false g = g

    inside_joined : (boxes : List Box) (range : KeyRange) → ranges_joined id layout boxes ≡ Some range → is_in_boxes row boxes ≡ true → is_in range own_key ≡ true
    inside_joined [] range h there = cc
    inside_joined (box ∷ []) range h there =
        let same : range_of_box id layout box ≡ range = cc in
        subst (λ r. is_in r own_key ≡ true) same (go (is_in_box row box) refl there)
      where
        go : (b : Bool) → b ≡ is_in_box row box → (b || false) ≡ true → is_in (range_of_box id layout box) own_key ≡ true
        go true e f = in_box_range box (sym e)
        go false e f = cc
    inside_joined (box ∷ other ∷ boxes) range h there = joined_has (spans_of_boxes id layout (box ∷ other ∷ boxes)) range own_key h (in_spans (box ∷ other ∷ boxes) there)

    none_joined : (box : Box) (boxes : List Box) → ranges_joined id layout (box ∷ boxes) ≡ None → ⊥
    none_joined box [] h = cc
    none_joined box (other ∷ boxes) h = joined_some (span_of (range_of_box id layout box)) (spans_of_boxes id layout (other ∷ boxes)) h

    outside_boxes : (boxes : List Box) (range : KeyRange) → range_of_boxes id layout boxes ≡ Some range → is_inside id layout range row ≡ false → is_in_boxes row boxes ≡ false
    outside_boxes [] range h out = refl
    outside_boxes (box ∷ boxes) range h out = go (list_all (bounds_first layout) (box ∷ boxes)) (ranges_joined id layout (box ∷ boxes)) refl h
      where
        by_test : (b : Bool) → b ≡ is_in_boxes row (box ∷ boxes) → ranges_joined id layout (box ∷ boxes) ≡ Some range → is_in_boxes row (box ∷ boxes) ≡ false
        by_test false e f = sym e
        by_test true e f = let wrong : true ≡ false = sym (inside_joined (box ∷ boxes) range f (sym e)) ∙ out in cc

        go : (t : Bool) (o : Option KeyRange) → o ≡ ranges_joined id layout (box ∷ boxes) → (if t then or_else_range o (Some (Point (row_prefix id))) else None) ≡ Some range → is_in_boxes row (box ∷ boxes) ≡ false
        go false o e f = cc
        go true None e f = absurd (none_joined box boxes (sym e))
        go true (Some r) e f = by_test (is_in_boxes row (box ∷ boxes)) refl (sym e ∙ f)

  joined_of_table : (boxes : List Box) (range : KeyRange) → ranges_joined id layout boxes ≡ Some range → IsRangeOf id range
  joined_of_table [] range h = cc
  joined_of_table (box ∷ []) range h =
      let same : range_of_box id layout box ≡ range = cc in subst (λ r. IsRangeOf id r) same (range_prefix id (bounds_of_box box) layout.key)
  joined_of_table (box ∷ other ∷ boxes) range h = joined_of id (spans_of_boxes id layout (box ∷ other ∷ boxes)) range h (spans_of_table (box ∷ other ∷ boxes))

  of_boxes : (boxes : List Box) (range : KeyRange) → range_of_boxes id layout boxes ≡ Some range → IsRangeOf id range
  of_boxes boxes range h = go (list_all (bounds_first layout) boxes) (ranges_joined id layout boxes) refl h
    where
      go : (t : Bool) (o : Option KeyRange) → o ≡ ranges_joined id layout boxes → (if t then or_else_range o (Some (Point (row_prefix id))) else None) ≡ Some range → IsRangeOf id range
      go false o e f = cc
      go true None e f =
          let same : Point (row_prefix id) ≡ range = cc in
          subst (λ r. IsRangeOf id r) same (subst (λ k. has_prefix (row_prefix id) k ≡ true) (append-nil (row_prefix id)) (own_prefix (row_prefix id) []))
      go true (Some r) e f = joined_of_table boxes range (sym e ∙ f)

-- ---- a guard

-- a value that is not true
record IsHidden (o : Outcome) : Type 0 where
  pub value : Value
  pub has : o ≡ Ok value
  pub not_true : when_true value true false ≡ false

hidden_by : (v : Value) (o : Outcome) → IsHidden o → IsHidden (when_true v o (Ok v))
hidden_by Null o h = record { value = Null; has = refl; not_true = refl }
hidden_by (Int n) o h = record { value = Int n; has = refl; not_true = refl }
hidden_by (Text t) o h = record { value = Text t; has = refl; not_true = refl }
hidden_by (Boolean false) o h = record { value = false_value; has = refl; not_true = refl }
hidden_by (Boolean true) o h = h

module _ (layout : Layout) (is : IsLayout layout) (users : UserNames) (roles : List (List ℕ)) (are_roles : AreRolesFor users roles) (row : Row) (fits : FitsTable layout row) where
  nobody_behind : IsBehind [] (cell_in (row ∷ []))
  nobody_behind index r h = cc

  formula_false : (f : Formula) → is_in_boxes row (boxes_of_formula layout users roles f) ≡ false → formula_value users f (cells_of (row ∷ [])) ≡ Ok false_value
  formula_false f out = false_outside layout is 0 users roles are_roles [] (cell_in (row ∷ [])) nobody_behind row fits (λ index. refl) (formula (terms f.permissive) (terms f.restrictive)) out

  hidden_outside : (fs : List Formula) → is_in_boxes row (boxes_of_guard layout users roles fs) ≡ false → IsHidden (guard_value users fs (cells_of (row ∷ [])))
  hidden_outside [] out = cc
  hidden_outside (f ∷ fs) out = go (is_formula_infallible f) refl out (λ e. hidden_outside fs e)
    where
      at_once : is_in_boxes row (boxes_of_formula layout users roles f) ≡ false → IsHidden (guard_value users (f ∷ fs) (cells_of (row ∷ [])))
      at_once e = record { value = false_value; has = ap (λ o. o >>= λ v. when_true v (guard_value users fs (cells_of (row ∷ []))) (Ok v)) (formula_false f e); not_true = refl }

      later : is_formula_infallible f ≡ true → IsHidden (guard_value users fs (cells_of (row ∷ []))) → IsHidden (guard_value users (f ∷ fs) (cells_of (row ∷ [])))
      later infallible rest =
          let first = formula_there users f (cells_of (row ∷ [])) infallible in
          let hidden = hidden_by first.0 (guard_value users fs (cells_of (row ∷ []))) rest in
          record { value = hidden.value; has = ap (λ o. o >>= λ v. when_true v (guard_value users fs (cells_of (row ∷ []))) (Ok v)) first.1 ∙ hidden.has; not_true = hidden.not_true }

      both : is_formula_infallible f ≡ true → (b : Bool) → b ≡ is_in_boxes row (boxes_of_formula layout users roles f)
          → is_in_boxes row (both_boxes (boxes_of_formula layout users roles f) (boxes_of_guard layout users roles fs)) ≡ false
          → (is_in_boxes row (boxes_of_guard layout users roles fs) ≡ false → IsHidden (guard_value users fs (cells_of (row ∷ [])))) → IsHidden (guard_value users (f ∷ fs) (cells_of (row ∷ [])))
      both infallible false e none rest = at_once (sym e)
      both infallible true e none rest = later infallible (rest (second_none row (boxes_of_formula layout users roles f) (boxes_of_guard layout users roles fs) none (sym e)))

      go : (q : Bool) → q ≡ is_formula_infallible f
          → is_in_boxes row (if q then both_boxes (boxes_of_formula layout users roles f) (boxes_of_guard layout users roles fs) else boxes_of_formula layout users roles f) ≡ false
          → (is_in_boxes row (boxes_of_guard layout users roles fs) ≡ false → IsHidden (guard_value users fs (cells_of (row ∷ [])))) → IsHidden (guard_value users (f ∷ fs) (cells_of (row ∷ [])))
      go false e none rest = at_once none
      go true e none rest = both (sym e) (is_in_boxes row (boxes_of_formula layout users roles f)) refl none rest

-- ---- conditions

joined_from : (users : UserNames) (c : Combination) (t : Term ColumnIndex) (ts : List (Term ColumnIndex)) → all_of (map (bound_value users c) (t ∷ ts)) ≡ value_of (cell_in c) users (fold conjunction t ts)
joined_from users c t [] = refl
joined_from users c t (s ∷ ts) = joined_from users c (conjunction t s) ts

joined_is : (users : UserNames) (c : Combination) (ts : List (Term ColumnIndex)) → condition_value users ts c ≡ value_of (cell_in c) users (joined ts)
joined_is users c [] = refl
joined_is users c (t ∷ ts) = joined_from users c t ts

module _ (layout : Layout) (is : IsLayout layout) (users : UserNames) (roles : List (List ℕ)) (are_roles : AreRolesFor users roles) where
  conditions_false : (front : Combination) (row : Row) (rest : Combination) (table : ℕ) → length front ≡ table → FitsTable layout row → (conditions : List (Term ColumnIndex))
      → is_in_boxes row (boxes_of layout table users roles [] (joined conditions)) ≡ false → condition_value users conditions (front ++ row ∷ rest) ≡ Ok false_value
  conditions_false front row rest table long fits conditions out =
      joined_is users (front ++ row ∷ rest) conditions
      ∙ false_outside layout is table users roles are_roles [] (cell_in (front ++ row ∷ rest)) (λ index r h. cc) row fits (λ index. cell_there front row rest table index long) (joined conditions) out

  -- what is said of a row that is in none of the boxes
  record LeavesRow (table : ℕ) (fs : List Formula) (conditions : List (Term ColumnIndex)) (row : Row) : Type 0 where
    pub value : Value
    pub guarded : row_guard users fs row ≡ Ok value
    pub refused : when_true value true false ≡ true → is_in_boxes row (boxes_of layout table users roles [] (joined conditions)) ≡ false

  leaves_row : (table : ℕ) (fs : List Formula) (conditions : List (Term ColumnIndex)) (row : Row) → FitsTable layout row → is_in_boxes row (boxes_of_table layout table users roles fs conditions) ≡ false
      → LeavesRow table fs conditions row
  leaves_row table fs conditions row fits out = go (are_formulas_infallible fs) refl out
    where
      by_guard : is_in_boxes row (boxes_of_guard layout users roles fs) ≡ false → LeavesRow table fs conditions row
      by_guard e =
          let hidden = hidden_outside layout is users roles are_roles row fits fs e in
          record { value = hidden.value; guarded = hidden.has; refused = λ h. let wrong : true ≡ false = sym h ∙ hidden.not_true in cc }

      both : are_formulas_infallible fs ≡ true → (b : Bool) → b ≡ is_in_boxes row (boxes_of_guard layout users roles fs)
          → is_in_boxes row (both_boxes (boxes_of_guard layout users roles fs) (boxes_of layout table users roles [] (joined conditions))) ≡ false → LeavesRow table fs conditions row
      both infallible false e none = by_guard (sym e)
      both infallible true e none =
          let value = infallible_guard fs infallible users row in
          record { value = value.0; guarded = value.1; refused = λ h. second_none row (boxes_of_guard layout users roles fs) (boxes_of layout table users roles [] (joined conditions)) none (sym e) }

      go : (q : Bool) → q ≡ are_formulas_infallible fs
          → is_in_boxes row (if q then both_boxes (boxes_of_guard layout users roles fs) (boxes_of layout table users roles [] (joined conditions)) else boxes_of_guard layout users roles fs) ≡ false → LeavesRow table fs conditions row
      go false e none = by_guard none
      go true e none = both (sym e) (is_in_boxes row (boxes_of_guard layout users roles fs)) refl none

-- ---- conditions by themselves

met_is : (o : Outcome) → HasValue o → is_true o ≡ false → is_met o ≡ Ok false
met_is o h none = ap is_met h.1 ∙ ap (λ b. Ok b) (sym (ap is_true h.1) ∙ none)

module _ (id : ℕ) (layout : Layout) (table : ℕ) (users : UserNames) (conditions : List TypedTerm) (range : KeyRange) (is : IsLayout layout) where
  record IsPlain : Type 0 where
    pub infallible : are_infallible conditions ≡ true
    pub made : range ≡ range_after (bounds_of table users [] conditions) layout.key (row_prefix id)

  plain_is : range_of id layout table users conditions ≡ Some range → IsPlain
  plain_is h = go (are_infallible conditions) refl (is_first_bounded (bounds_of table users [] conditions) layout.key) h
    where
      go : (a : Bool) → a ≡ are_infallible conditions → (b : Bool) → (if a && b then Some (range_after (bounds_of table users [] conditions) layout.key (row_prefix id)) else None) ≡ Some range → IsPlain
      go true e true f = record { infallible = sym e; made = cc }
      go true e false f = cc
      go false e b f = cc

  plain_harmless : IsPlain → IsHarmless id layout table users (row_guard users []) conditions range
  plain_harmless plain = record {
    guard_infallible = λ row. (Boolean true, refl);
    infallible = all_infallible conditions plain.infallible;
    keys = λ row cell fits beside met. subst (λ r. is_inside id layout r row ≡ true) (sym plain.made) (range_keys id layout table [] users conditions is row cell fits beside (λ index r h. cc) met);
  }

  plain_leaves : IsPlain → MayLeaveRest id layout table users [] conditions range
  plain_leaves plain row fits out = record {
    value = Boolean true;
    guarded = refl;
    not_chosen = λ h front rest long.
        let c : Combination = front ++ row ∷ rest in
        let is_value = condition_is users (terms_of conditions) conditions refl c in
        ap is_met is_value
        ∙ met_is (all_of (outcomes users c conditions)) (all_value (outcomes users c conditions) (each_value users c conditions (all_infallible conditions plain.infallible)))
        (not_true id layout table users (row_guard users []) conditions range (plain_harmless plain) c row (λ index. cell_there front row rest table index long) fits out);
  }

-- ---- the law

pub table_range_loses_nothing : TableRangeLosesNothing
table_range_loses_nothing id layout table users roles fs conditions range is are_roles h = go (plain_range id layout table users fs conditions) refl h
  where
    boxes : List Box
    boxes = boxes_of_table layout table users roles fs (terms_of conditions)

    by_plain : (gs : List Formula) → plain_range id layout table users gs conditions ≡ Some range → LosesNoRow id layout table users gs conditions range
    by_plain [] e = by_boxes (have_one_box conditions) e
      where
        by_boxes : (t : Bool) → (if t then range_of id layout table users conditions else None) ≡ Some range → LosesNoRow id layout table users [] conditions range
        by_boxes false f = cc
        by_boxes true f =
            let plain = plain_is id layout table users conditions range is f in
            record {
              of_table = subst (λ r. IsRangeOf id r) (sym plain.made) (range_prefix id (bounds_of table users [] conditions) layout.key);
              leaves = plain_leaves id layout table users conditions range is plain;
            }
    by_plain (g ∷ gs) e = cc

    leaves : range_of_boxes id layout boxes ≡ Some range → MayLeaveRest id layout table users fs conditions range
    leaves e row fits out =
        let left = leaves_row layout is users roles are_roles table fs (terms_of conditions) row fits (outside_boxes id layout is row fits boxes range e out) in
        record {
          value = left.value;
          guarded = left.guarded;
          not_chosen = λ g front rest long. ap is_met (conditions_false layout is users roles are_roles front row rest table long fits (terms_of conditions) (left.refused g));
        }

    go : (o : Option KeyRange) → o ≡ plain_range id layout table users fs conditions → or_else_range o (range_of_boxes id layout boxes) ≡ Some range → LosesNoRow id layout table users fs conditions range
    go (Some r) e f = by_plain fs (sym e ∙ f)
    go None e f = record { of_table = of_boxes id layout boxes range f; leaves = leaves f }

-- users with the names of their roles
pub own_roles : (users : Users) → AreRolesFor (names_of users) (role_names users)
own_roles users name = go users.roles.now
  where
    go : (roles : List (Bor (List ℕ))) → list_any (λ role. bytes_eq name role.now) roles ≡ list_any (bytes_eq name) (map (λ role. role.now) roles)
    go [] = refl
    go (role ∷ roles) = ap (λ b. bytes_eq name role.now || b) (go roles)

pub safe_range : (id : ℕ) (layout : Layout) (table : ℕ) (users : Users) (fs : List Formula) (conditions : List TypedTerm) (range : Option KeyRange) → IsLayout layout
    → range ≡ range_of_table id layout table (names_of users) (role_names users) fs conditions → IfSome range (LosesNoRow id layout table (names_of users) fs conditions)
safe_range id layout table users fs conditions None is h = tt
safe_range id layout table users fs conditions (Some range) is h = table_range_loses_nothing id layout table (names_of users) (role_names users) fs conditions range is (own_roles users) (sym h)
