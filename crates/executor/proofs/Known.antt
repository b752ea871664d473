-- Row security and conditions that read known columns alone come to the same on each row with their values.
use Rattle.std.proofs.Common.{◌≡◌, ℕ, zero, suc, nat_eq, Bool, true, false, not, ◌||◌, is_some, ◌⊎◌, if◌then◌else◌, List, [], ◌∷◌, ◌++◌, map, fold, Option, Some, None, Result, Ok, Err, Bor, refl, sym, ap, subst, ◌∙◌, inl, inr}
use Rattle.std.specs.List.{list_all, list_any}
use Rattle.sql_types.specs.declared.value.Value.{Value}
use Rattle.sql_types.specs.declared.value.Value.TheVariants.{Null, Int, Text, Bool as Boolean}
use Rattle.sql_types.specs.declared.value.Truth.TheVariants as truth
use Rattle.sql_types.specs.Row.{Row, value_at}
use Rattle.sql_types.specs.Value.{owned}
use Rattle.sql_ast.specs.declared.columns.Column.{Column}
use Rattle.sql_ast.specs.declared.scope.ColumnIndex.{ColumnIndex}
use Rattle.sql_ast.specs.Fits.{FitsTable}
use Rattle.sql_ast.specs.Layout.{Layout, IsLayout, is_not_null_at}
use Rattle.sql_ast.specs.Term.{Term, literal, column, current_user, session_user, comparison, operation, minus, conjunction, disjunction, negation, null_test, not_null_test, member_test}
use Rattle.std.specs.Prelude.{slice_get, IfSome, OnOk}
use Rattle.expressions.specs.Meaning.{UserNames, value_of, member_value, and_then, or_else}
use Rattle.expressions.specs.Operators.{compared, calculated, negated, not_value, is_null}
use Rattle.expressions.specs.Outcome.{Outcome, with_value, with_both}
use Rattle.expressions.specs.Rows.{cell_at, value_on}
use Rattle.expressions.specs.Stages.{◌>>=◌}
use Rattle.expressions.specs.Types.{TypedTerm}
use Rattle.abstract_database.specs.Expressions.{bound_value, cell_in, when_true}
use Rattle.abstract_database.specs.Guards.{any_of, formula}
use Rattle.guards.specs.declared.guard.Formula.{Formula}
use Rattle.guards.specs.Guards.{Cells, cells_of, formula_value, guard_value, row_guard, terms as lent_terms}
use Rattle.guards.specs.Truths.{is_met, and_all}
use Rattle.gathering.specs.Passed.{alone}
use Rattle.gathering.specs.Queries.{terms}
use Rattle.gathering.specs.Reads.{names}
use Rattle.gathering.proofs.Conditions.{all_met, when_met}
use Rattle.key_ranges.proofs.Conditions.{same_number}
use Rattle.row_codec.proofs.Layouts.{and_parts}
use Rattle.table_rows.specs.declared.target.Target.{Target}
use Rattle.table_rows.specs.Targets.{sees, users_of}
use Rattle.executor.specs.declared.found_order.SharedCell.{SharedCell}
use Rattle.executor.specs.declared.known_columns.KnownColumn.{KnownColumn}
use Rattle.executor.specs.declared.known_columns.KnownColumns.{KnownColumns}
use Rattle.executor.specs.declared.known_columns.Unknown.{Unknown}
use Rattle.executor.specs.Certain.{BeginsWithCell, HasValues, IsNotBelow, IsNotAbove, HasKnown}
use Rattle.executor.specs.FoundOrder.{BeginAlike, HaveOnePrefix, IsInsideIfAny}
use Rattle.executor.specs.Known.{known_value, or_null, known_cell, is_unknown, AreTrue, IsKnownInside, IsLetThrough, KnowsMore, lent_name, formula_names, formulas_name, LetsAllThrough, LetsSpanThrough, LetsSpansThrough}
use Rattle.executor.proofs.CellBounds.{at_least, at_most}
use Rattle.executor.proofs.FoundOrder.{value_is, goes_onward, goes_behind_prefix, inside_span}
use Rattle.key_ranges.specs.declared.range.KeyRange.{KeyRange}
use Rattle.key_ranges.specs.declared.range.KeyRange.TheVariants.{Span, Several}
use Rattle.key_ranges.specs.declared.spans.KeySpan.{KeySpan}
use Rattle.key_ranges.specs.Ranges.{is_in, is_inside}
use Rattle.key_ranges.specs.Spans.{is_in_span, is_in_spans, Spans}
use Rattle.row_codec.specs.Rows.{row_key, row_prefix}
use Rattle.abstract_database.specs.Queries.{condition_value}

-- ---- expressions that name no column of a kind

neither : (a b : Bool) → (a || b) ≡ false → (a ≡ false) × (b ≡ false)
neither true b e = cc
neither false b e = (refl, e)

no_either : (a b : Bool) → a ≡ false → b ≡ false → (a || b) ≡ false
no_either a b e f = rw (e, f) refl

module _ (users : UserNames) (kind : ColumnIndex → Bool) (f g : ColumnIndex → Value) (same : (index : ColumnIndex) → kind index ≡ false → f index ≡ g index) where
  -- where the cells of the other columns agree, so does the value
  one_value : (t : Term ColumnIndex) → names kind t ≡ false → value_of f users t ≡ value_of g users t
  one_value (literal v) e = refl
  one_value (column index) e = ap (λ v. Ok v) (same index e)
  one_value current_user e = refl
  one_value session_user e = refl
  one_value (comparison op a b) e =
      let parts = neither (names kind a) (names kind b) e in
      ap (λ o. with_both o (value_of f users b) (λ x y. Ok (compared op x y))) (one_value a parts.0) ∙ ap (λ o. with_both (value_of g users a) o (λ x y. Ok (compared op x y))) (one_value b parts.1)
  one_value (operation op a b) e =
      let parts = neither (names kind a) (names kind b) e in
      ap (λ o. with_both o (value_of f users b) (λ x y. calculated op x y)) (one_value a parts.0) ∙ ap (λ o. with_both (value_of g users a) o (λ x y. calculated op x y)) (one_value b parts.1)
  one_value (minus a) e = ap (λ o. with_value o negated) (one_value a e)
  one_value (conjunction a b) e =
      let parts = neither (names kind a) (names kind b) e in
      ap (λ o. with_value o (λ x. and_then x (value_of f users b))) (one_value a parts.0) ∙ ap (λ o. with_value (value_of g users a) (λ x. and_then x o)) (one_value b parts.1)
  one_value (disjunction a b) e =
      let parts = neither (names kind a) (names kind b) e in
      ap (λ o. with_value o (λ x. or_else x (value_of f users b))) (one_value a parts.0) ∙ ap (λ o. with_value (value_of g users a) (λ x. or_else x o)) (one_value b parts.1)
  one_value (negation a) e = ap (λ o. with_value o (λ x. Ok (not_value x))) (one_value a e)
  one_value (null_test a) e = ap (λ o. with_value o (λ x. Ok (Boolean (is_null x)))) (one_value a e)
  one_value (not_null_test a) e = ap (λ o. with_value o (λ x. Ok (Boolean (not (is_null x))))) (one_value a e)
  one_value (member_test a) e = ap (λ o. with_value o (λ x. Ok (member_value users x))) (one_value a e)

-- ---- formulas

module _ (kind : ColumnIndex → Bool) where
  abbrev one_names : List (Term ColumnIndex) → Bool
  one_names ts = list_any (names kind) ts

  lent_none : (cs : List (Bor TypedTerm)) → lent_name kind cs ≡ false → one_names (lent_terms cs) ≡ false
  lent_none [] e = refl
  lent_none (c ∷ cs) e = let parts = neither (names kind c.now.term) (lent_name kind cs) e in no_either (names kind c.now.term) (one_names (lent_terms cs)) parts.0 (lent_none cs parts.1)

  and_none : (t : Term ColumnIndex) (ts : List (Term ColumnIndex)) → names kind t ≡ false → one_names ts ≡ false → names kind (fold conjunction t ts) ≡ false
  and_none t [] e l = e
  and_none t (r ∷ rs) e l = let parts = neither (names kind r) (one_names rs) l in and_none (conjunction t r) rs (no_either (names kind t) (names kind r) e parts.0) parts.1

  or_none : (t : Term ColumnIndex) (ts : List (Term ColumnIndex)) → names kind t ≡ false → one_names ts ≡ false → names kind (fold disjunction t ts) ≡ false
  or_none t [] e l = e
  or_none t (r ∷ rs) e l = let parts = neither (names kind r) (one_names rs) l in or_none (disjunction t r) rs (no_either (names kind t) (names kind r) e parts.0) parts.1

  any_none : (ts : List (Term ColumnIndex)) → one_names ts ≡ false → names kind (any_of ts) ≡ false
  any_none [] e = refl
  any_none (t ∷ ts) e = let parts = neither (names kind t) (one_names ts) e in or_none t ts parts.0 parts.1

  formula_none : (f : Formula) → formula_names kind f ≡ false → names kind (formula (lent_terms f.permissive) (lent_terms f.restrictive)) ≡ false
  formula_none f e =
      let parts = neither (lent_name kind f.permissive) (lent_name kind f.restrictive) e in
      and_none (any_of (lent_terms f.permissive)) (lent_terms f.restrictive) (any_none (lent_terms f.permissive) (lent_none f.permissive parts.0)) (lent_none f.restrictive parts.1)

  module _ (users : UserNames) (c d : Cells) (same : (index : ColumnIndex) → kind index ≡ false → cell_at c index ≡ cell_at d index) where
    guard_same : (fs : List Formula) → formulas_name kind fs ≡ false → guard_value users fs c ≡ guard_value users fs d
    guard_same [] e = refl
    guard_same (f ∷ fs) e =
        let parts = neither (formula_names kind f) (formulas_name kind fs) e in
        ap (λ o. o >>= λ v. when_true v (guard_value users fs c) (Ok v))
        (one_value users kind (cell_at c) (cell_at d) same (formula (lent_terms f.permissive) (lent_terms f.restrictive)) (formula_none f parts.0))
        ∙ ap (λ o. formula_value users f d >>= λ v. when_true v o (Ok v)) (guard_same fs parts.1)

-- ---- known columns

pub known_is : (row : Row) (ks : List KnownColumn) (index : ℕ) → HasValues row ks → is_some (known_value index ks) ≡ true → value_at row index ≡ or_null (known_value index ks)
known_is row [] index has e = cc
known_is row (k ∷ ks) index has e = go (nat_eq k.index index) refl e (λ there. known_is row ks index has.1 there)
  where
    go : (b : Bool) → nat_eq k.index index ≡ b → is_some (if b then Some (owned k.value) else known_value index ks) ≡ true
        → (is_some (known_value index ks) ≡ true → value_at row index ≡ or_null (known_value index ks)) → value_at row index ≡ or_null (if b then Some (owned k.value) else known_value index ks)
    go true is there later = ap (value_at row) (sym (same_number k.index index is)) ∙ has.0
    go false is there later = later there

not_not : (b : Bool) → not b ≡ false → b ≡ true
not_not true e = refl
not_not false e = cc

cells_same : (row : Row) (known : KnownColumns) (table index : ℕ) → HasValues row known.columns → nat_eq table 0 ≡ true → is_some (known_value index known.columns) ≡ true
    → cells_of (row ∷ []) table index ≡ known_cell known table index
cells_same row known zero index has e there = known_is row known.columns index has there
cells_same row known (suc table) index has e there = cc

module _ (row : Row) (unknown : Unknown) (has : HasValues row unknown.known.now.columns) where
  abbrev known : KnownColumns
  known = unknown.known.now

  same_cells : (index : ColumnIndex) → is_unknown unknown index ≡ false → cell_at (cells_of (row ∷ [])) index ≡ cell_at (known_cell known) index
  same_cells index e =
      let parts = neither (not (nat_eq index.table 0)) (not (is_some (known_value index.column known.columns))) e in
      cells_same row known index.table index.column has (not_not (nat_eq index.table 0) parts.0) (not_not (is_some (known_value index.column known.columns)) parts.1)

  outcomes_same : (users : UserNames) (cs : List TypedTerm) → list_any (λ c. names (is_unknown unknown) c.term) cs ≡ false → map (bound_value users (alone row)) (terms cs) ≡ map (value_on (known_cell known) users) cs
  outcomes_same users [] e = refl
  outcomes_same users (c ∷ cs) e =
      let parts = neither (names (is_unknown unknown) c.term) (list_any (λ (d : TypedTerm). names (is_unknown unknown) d.term) cs) e in
      ap (λ o. o ∷ map (bound_value users (alone row)) (terms cs)) (one_value users (is_unknown unknown) (cell_in (alone row)) (cell_at (known_cell known)) same_cells c.term parts.0)
      ∙ ap (λ (os : List Outcome). value_on (known_cell known) users c ∷ os) (outcomes_same users cs parts.1)

-- ---- conditions that are true

pub is_true_if_met : (o : Outcome) → is_met o ≡ Ok true → o ≡ Ok (Boolean true)
is_true_if_met (Ok (Boolean true)) e = refl
is_true_if_met (Ok (Boolean false)) e = cc
is_true_if_met (Ok Null) e = cc
is_true_if_met (Ok (Int n)) e = cc
is_true_if_met (Ok (Text t)) e = cc
is_true_if_met (Err code) e = cc

pub true_of_known : (table : Target) (users : UserNames) (cs : List TypedTerm) (unknown : Unknown) → formulas_name (is_unknown unknown) table.guard.now.existing ≡ false
    → list_any (λ (c : TypedTerm). names (is_unknown unknown) c.term) cs ≡ false
    → is_met (guard_value (users_of table) table.guard.now.existing (known_cell unknown.known.now)) ≡ Ok true
    → and_all truth.True (map (value_on (known_cell unknown.known.now) users) cs) ≡ Ok truth.True → AreTrue unknown.known.now table users cs
true_of_known table users cs unknown guard conditions seen met row is_known = let has = is_known.values in record {
  seen = is_true_if_met (sees table row)
      (ap is_met (guard_same (is_unknown unknown) (users_of table) (cells_of (row ∷ [])) (known_cell unknown.known.now) (same_cells row unknown has) table.guard.now.existing guard) ∙ seen);
  met = is_true_if_met _ (all_met (map (bound_value users (alone row)) (terms cs)) ∙ ap when_met (ap (and_all truth.True) (outcomes_same row unknown has users cs conditions) ∙ met));
}

-- ---- columns of a key

pub none_more : (layout : Layout) (start stop key : List ℕ) (known : KnownColumns) → KnowsMore layout start stop key known known
none_more layout start stop key known front row marked goes is_known = is_known

push_value : (row : Row) (ks : List KnownColumn) (k : KnownColumn) → HasValues row ks → value_at row k.index ≡ owned k.value → HasValues row (ks ++ k ∷ [])
push_value row [] k has is = (is, tt)
push_value row (x ∷ ks) k has is = (has.0, push_value row ks k has.1 is)

-- one column more, and then the others
pub known_more : (layout : Layout) (index : ℕ) (others : List ℕ) (c : Column) (is : slice_get layout.columns index ≡ Some c) (start stop : List ℕ) (cell : SharedCell) (old new : KnownColumns) (mid : List KnownColumn) (k : KnownColumn)
    → BeginAlike c.column_type start stop cell → k.index ≡ index → k.value ≡ cell.value → mid ≡ old.columns ++ k ∷ []
    → KnowsMore layout cell.start.now cell.stop.now others (record { columns = mid; least = old.least; greatest = old.greatest }) new
    → KnowsMore layout start stop (index ∷ others) old new
known_more layout index others c is start stop cell old new mid k alike at holds pushed later front row marked goes is_known =
    let parts = and_parts (is_not_null_at layout.columns index) (list_all (is_not_null_at layout.columns) others) marked in
    let value : value_at row k.index ≡ owned k.value =
    ap (value_at row) at ∙ value_is layout index others c is start stop cell alike front parts.0 row goes ∙ ap owned (sym holds) in
    later _ row parts.1 (goes_onward layout index others c is start stop cell alike front parts.0 row goes)
    (record { values = subst (HasValues row) (sym pushed) (push_value row old.columns k is_known.values value); least = is_known.least; greatest = is_known.greatest })

-- the bounds of a column, and no more columns
pub bounds_more : (layout : Layout) (index : ℕ) (others : List ℕ) (c : Column) (is : slice_get layout.columns index ≡ Some c) (start stop : List ℕ) (old : KnownColumns) (least greatest : Option KnownColumn)
    → IfSome least (BeginsWithCell index c.column_type start) → IfSome greatest (BeginsWithCell index c.column_type stop)
    → KnowsMore layout start stop (index ∷ others) old (record { columns = old.columns; least = least; greatest = greatest })
bounds_more layout index others c is start stop old least greatest of_least of_greatest front row marked goes is_known =
    let parts = and_parts (is_not_null_at layout.columns index) (list_all (is_not_null_at layout.columns) others) marked in
    record { values = is_known.values; least = from_below least of_least parts.0; greatest = from_above greatest of_greatest parts.0 }
  where
    from_below : (o : Option KnownColumn) → IfSome o (BeginsWithCell index c.column_type start) → is_not_null_at layout.columns index ≡ true → IsNotBelow row o
    from_below None begins m = tt
    from_below (Some k) begins m = at_least layout index others c is m front start stop row goes k begins

    from_above : (o : Option KnownColumn) → IfSome o (BeginsWithCell index c.column_type stop) → is_not_null_at layout.columns index ≡ true → IsNotAbove row o
    from_above None begins m = tt
    from_above (Some k) begins m = at_most layout index others c is m front start stop row goes k begins

-- where nothing was known before, all that is new is known of each row of a span
pub inside_known : (id : ℕ) (layout : Layout) (start stop s t : List ℕ) (old new : KnownColumns) → old ≡ record { columns = []; least = None; greatest = None } → IsLayout layout → HaveOnePrefix start stop s t
    → KnowsMore layout s t layout.key old new → IsKnownInside id layout start stop new
inside_known id layout start stop s t old new empty is_layout one knows row fits inside =
    knows (row_prefix id) row is_layout.key_not_null (goes_behind_prefix id layout start stop s t one row fits.columns inside)
    (subst (λ k. HasKnown k row) (sym empty) (record { values = tt; least = tt; greatest = tt }))

-- so the rows of the span are let through where they are by what is known of them
pub span_through : (table : Target) (users : UserNames) (cs : List TypedTerm) (start stop : List ℕ) (known : KnownColumns) → IsKnownInside table.id table.columns.now start stop known → AreTrue known table users cs → LetsSpanThrough table users cs start stop
span_through table users cs start stop known inside are_true row fits is_in = are_true row (inside row fits is_in)

-- the rows that the target may find are those of its span
pub all_of_span : (table : Target) (users : UserNames) (cs : List TypedTerm) (range : Bor KeyRange) (start stop : List ℕ) → table.range ≡ Some range → range.now ≡ Span start stop → LetsSpanThrough table users cs start stop → LetsAllThrough table users cs
all_of_span table users cs range start stop ranged is through row may = through row may.fits (inside_span table range start stop ranged is row may)

-- or of its spans
pub all_of_spans : (table : Target) (users : UserNames) (cs : List TypedTerm) (range : Bor KeyRange) (spans : Spans) (all : List KeySpan) → table.range ≡ Some range → range.now ≡ Several spans → all ≡ spans.spans → LetsSpansThrough table users cs all → LetsAllThrough table users cs
all_of_spans table users cs range spans all ranged is same through row may =
    through row may.fits
    (subst (λ (l : List KeySpan). is_in_spans l (row_prefix table.id ++ row_key table.columns.now row) ≡ true) (sym same)
    (subst (λ (r : KeyRange). is_in r (row_prefix table.id ++ row_key table.columns.now row) ≡ true) is
    (subst (λ (r : Option (Bor KeyRange)). IsInsideIfAny table.id table.columns.now r row) ranged may.inside)))

-- rows of the spans that still come, or they are let through
abbrev pub StillComes : Target → UserNames → List TypedTerm → List KeySpan → List KeySpan → Type 0
StillComes table users cs all left = (row : Row) → FitsTable table.columns.now row → is_in_spans all (row_prefix table.id ++ row_key table.columns.now row) ≡ true
    → IsLetThrough table users cs row ⊎ (is_in_spans left (row_prefix table.id ++ row_key table.columns.now row) ≡ true)

-- at first all still come
pub all_come : (table : Target) (users : UserNames) (cs : List TypedTerm) (all left : List KeySpan) → left ≡ all → StillComes table users cs all left
all_come table users cs all left same row fits inside = inr (subst (λ (l : List KeySpan). is_in_spans l (row_prefix table.id ++ row_key table.columns.now row) ≡ true) (sym same) inside)

-- those of one span are let through
pub one_through : (table : Target) (users : UserNames) (cs : List TypedTerm) (all left : List KeySpan) (s : KeySpan) (rest : List KeySpan) → left ≡ s ∷ rest → StillComes table users cs all left → LetsSpanThrough table users cs s.start s.stop
    → StillComes table users cs all rest
one_through table users cs all left s rest is come through row fits inside = go (come row fits inside)
  where
    key : List ℕ
    key = (row_prefix table.id ++ row_key table.columns.now row)

    of : (b : Bool) → is_in_span s key ≡ b → (b || is_in_spans rest key) ≡ true → IsLetThrough table users cs row ⊎ (is_in_spans rest key ≡ true)
    of true here e = inl (through row fits here)
    of false here e = inr e

    go : IsLetThrough table users cs row ⊎ (is_in_spans left key ≡ true) → IsLetThrough table users cs row ⊎ (is_in_spans rest key ≡ true)
    go (inl let_through) = inl let_through
    go (inr later) = of (is_in_span s key) refl (subst (λ (l : List KeySpan). is_in_spans l key ≡ true) is later)

-- where none still come, all are let through
pub none_come : (table : Target) (users : UserNames) (cs : List TypedTerm) (all left : List KeySpan) → left ≡ [] → StillComes table users cs all left → LetsSpansThrough table users cs all
none_come table users cs all left is come row fits inside = go (come row fits inside)
  where
    go : IsLetThrough table users cs row ⊎ (is_in_spans left (row_prefix table.id ++ row_key table.columns.now row) ≡ true) → IsLetThrough table users cs row
    go (inl let_through) = let_through
    go (inr later) = let e : is_in_spans [] (row_prefix table.id ++ row_key table.columns.now row) ≡ true = subst (λ (l : List KeySpan). is_in_spans l (row_prefix table.id ++ row_key table.columns.now row) ≡ true) is later in cc

-- where there is no guard and no condition
pub none_stops : (table : Target) (users : UserNames) (cs : List TypedTerm) → table.guard.now.existing ≡ [] → cs ≡ [] → LetsAllThrough table users cs
none_stops table users cs unguarded unconditional row may = record {
  seen = ap (λ (fs : List Formula). row_guard (users_of table) fs row) unguarded;
  met = ap (λ (cs : List TypedTerm). condition_value users (terms cs) (alone row)) unconditional;
}

pub on_ok : {X E : Type 0} (A B : Type 0) (r : Result X E) → (A → B) → OnOk r A → OnOk r B
on_ok A B (Ok x) f a = f a
on_ok A B (Err e) f a = tt
