-- What a target finds, and that what it does not find is not chosen.
use Rattle.std.proofs.Common.{◌≡◌, ℕ, Bool, true, false, if◌then◌else◌, List, [], ◌∷◌, map, filter, Option, Some, None, Result, Ok, Err, Bor, refl, sym, ap, ◌∙◌, subst}
use Rattle.std.specs.List.{AllByRecursion}
use Rattle.sql_types.specs.Row.{Row}
use Rattle.sql_types.specs.declared.state.SqlState.{SqlState}
use Rattle.sql_ast.specs.Layout.{Layout}
use Rattle.sql_ast.specs.Fits.{FitsTable}
use Rattle.expressions.specs.Meaning.{UserNames}
use Rattle.expressions.specs.Stages.{◌>>=◌}
use Rattle.expressions.specs.Types.{TypedTerm}
use Rattle.store.specs.Records.{Record, Records, IsOrdered, entries_where, has_prefix}
use Rattle.store.specs.Walks.{span}
use Rattle.store.proofs.Walking.{span_of_prefix}
use Rattle.abstract_database.specs.Guards.{Guard}
use Rattle.abstract_database.specs.Changes.{condition_on_row}
use Rattle.abstract_database.specs.Whole.{Each}
use Rattle.row_codec.specs.Rows.{row_prefix}
use Rattle.stored_database.specs.RecordFormat.{row_record}
use Rattle.key_ranges.specs.declared.range.KeyRange.{KeyRange}
use Rattle.key_ranges.specs.Ranges.{is_in, is_inside}
use Rattle.key_ranges.proofs.Records.{found_range, in_table, ranges_hold_their_rows}
use Rattle.key_ranges.proofs.LeftOut.{left_unchanged_is_not_met}
use Rattle.table_rows.specs.declared.target.Target.{Target}
use Rattle.table_rows.specs.HeldRows.{HoldsRows}
use Rattle.table_rows.specs.Targets.{users_of, sees, condition_in}
use Rattle.table_rows.specs.Choosing.{is_chosen, over_chosen}
use Rattle.table_rows.specs.Ranged.{records_found, rows_found, rows_of, FindsRows, IsOfTable, HasAllChosen, LosesNothing}
use Rattle.table_rows.proofs.Changing.{each_of, all_of_each}
use Rattle.table_rows.proofs.Visiting.{passed_over}

-- ---- the rows that a target finds

filtered : {X : Type 0} (P : X → Type 0) (q : X → Bool) (xs : List X) → AllByRecursion P xs → AllByRecursion P (filter q xs)
filtered P q [] all = tt
filtered {X} P q (x ∷ xs) all = go (q x) (filtered P q xs all.1)
  where
    go : (b : Bool) → AllByRecursion P (filter q xs) → AllByRecursion P (if b then x ∷ filter q xs else filter q xs)
    go true rest = (all.0, rest)
    go false rest = rest

pub fit_found : (id : ℕ) (layout : Layout) (range : Option (Bor KeyRange)) (rows : List Row) → Each (FitsTable layout) rows → Each (FitsTable layout) (rows_found id layout range rows)
fit_found id layout None rows fit = fit
fit_found id layout (Some range) rows fit =
    each_of (FitsTable layout) (filter (is_inside id layout range.now) rows) (filtered (FitsTable layout) (is_inside id layout range.now) rows (all_of_each (FitsTable layout) rows fit))

held_found : (id : ℕ) (layout : Layout) (range : Option (Bor KeyRange)) (records : Records) (rows : List Row) → IsOrdered records → IsOfTable id range → HoldsRows id layout records rows
    → records_found id range records ≡ map (row_record id layout) (rows_found id layout range rows)
held_found id layout None records rows o of h = h.held
held_found id layout (Some range) records rows o of h = ranges_hold_their_rows id layout range.now records rows o of h.held

-- where the records hold the rows of the table, those of the range are found
pub finds : (target : Target) (records : Records) (rows : List Row) → IsOrdered records → IsOfTable target.id target.range → HoldsRows target.id target.columns.now records rows → FindsRows target records (rows_of target rows)
finds target records rows o of h = record {
  are = held_found target.id target.columns.now target.range records rows o of h;
  fit = fit_found target.id target.columns.now target.range rows h.fit;
}

-- ---- the records that it finds

passes_test : (q : List ℕ → Bool) (es : Records) → AllByRecursion (λ e. q e.0 ≡ true) (entries_where q es)
passes_test q [] = tt
passes_test q (e ∷ es) = go (q e.0) refl (passes_test q es)
  where
    go : (b : Bool) → q e.0 ≡ b → AllByRecursion (λ e. q e.0 ≡ true) (entries_where q es) → AllByRecursion (λ e. q e.0 ≡ true) (if b then e ∷ entries_where q es else entries_where q es)
    go true is rest = (is, rest)
    go false is rest = rest

weaker : (P Q : Record → Type 0) (es : Records) → ((e : Record) → P e → Q e) → AllByRecursion P es → AllByRecursion Q es
weaker P Q [] h all = tt
weaker P Q (e ∷ es) h all = (h e all.0, weaker P Q es h all.1)

-- they are of its table
pub found_prefixed : (id : ℕ) (range : Option (Bor KeyRange)) (records : Records) → IsOrdered records → IsOfTable id range → AllByRecursion (λ e. has_prefix (row_prefix id) e.0 ≡ true) (records_found id range records)
found_prefixed id None records o of = passes_test (has_prefix (row_prefix id)) records
found_prefixed id (Some range) records o of =
    subst (AllByRecursion (λ (e : Record). has_prefix (row_prefix id) e.0 ≡ true)) (sym (found_range range.now records o))
    (weaker (λ e. is_in range.now e.0 ≡ true) (λ e. has_prefix (row_prefix id) e.0 ≡ true) (entries_where (is_in range.now) records) (λ e inside. in_table id range.now of e.0 inside) (passes_test (is_in range.now) records))

-- a walk over the prefix of the table finds them where there is no range
pub whole_span : (id : ℕ) (range : Option (Bor KeyRange)) (prefix : List ℕ) (records : Records) → range ≡ None → prefix ≡ row_prefix id → span prefix prefix records ≡ records_found id range records
whole_span id range prefix records none is =
    ap (λ (p : List ℕ). span p p records) is ∙ span_of_prefix (row_prefix id) records ∙ ap (λ (r : Option (Bor KeyRange)). records_found id r records) (sym none)

-- ---- rows that are not found are not chosen

module _ {A B : Type 0} (test : Row → Result Bool SqlState) (becomes : Row → Result B SqlState) (take : Row → B → A → A) where
  -- the choice of a row, and then of others or of more
  same_step : (row : Row) (some more : List Row) (done : A) → ((next : A) → over_chosen test becomes take next some ≡ over_chosen test becomes take next more)
      → over_chosen test becomes take done (row ∷ some) ≡ over_chosen test becomes take done (row ∷ more)
  same_step row some more done same = by_test (test row)
    where
      by_row : (r : Result B SqlState) → (r >>= λ new. over_chosen test becomes take (take row new done) some) ≡ (r >>= λ new. over_chosen test becomes take (take row new done) more)
      by_row (Ok new) = same (take row new done)
      by_row (Err code) = refl

      by_test : (r : Result Bool SqlState)
          → (r >>= λ this. if this then (becomes row >>= λ new. over_chosen test becomes take (take row new done) some) else over_chosen test becomes take done some)
          ≡ (r >>= λ this. if this then (becomes row >>= λ new. over_chosen test becomes take (take row new done) more) else over_chosen test becomes take done more)
      by_test (Ok true) = by_row (becomes row)
      by_test (Ok false) = same done
      by_test (Err code) = refl

  chosen_inside : (layout : Layout) (inside : Row → Bool) → ((row : Row) → FitsTable layout row → inside row ≡ false → test row ≡ Ok false) → (rows : List Row) → AllByRecursion (FitsTable layout) rows → (done : A)
      → over_chosen test becomes take done (filter inside rows) ≡ over_chosen test becomes take done rows
  chosen_inside layout inside skips [] fit done = refl
  chosen_inside layout inside skips (row ∷ rows) fit done = go (inside row) refl (λ next. chosen_inside layout inside skips rows fit.1 next)
    where
      go : (b : Bool) → inside row ≡ b → ((next : A) → over_chosen test becomes take next (filter inside rows) ≡ over_chosen test becomes take next rows)
          → over_chosen test becomes take done (if b then row ∷ filter inside rows else filter inside rows) ≡ over_chosen test becomes take done (row ∷ rows)
      go true is later = same_step row (filter inside rows) rows done later
      go false is later = later done ∙ sym (passed_over test becomes take done row (skips row fit.0 is) rows)

module _ {A B : Type 0} (becomes : Row → Result B SqlState) (take : Row → B → A → A) (rows : List Row) (done : A) where
  chosen_found : (id : ℕ) (layout : Layout) (users : UserNames) (guard : Guard) (condition : Option (Bor TypedTerm)) (range : Option (Bor KeyRange)) → HasAllChosen id layout users guard condition range → Each (FitsTable layout) rows
      → over_chosen (is_chosen guard (condition_on_row users (condition_in condition))) becomes take done (rows_found id layout range rows) ≡ over_chosen (is_chosen guard (condition_on_row users (condition_in condition))) becomes take done rows
  chosen_found id layout users guard condition None h fit = refl
  chosen_found id layout users guard condition (Some range) h fit =
      chosen_inside (is_chosen guard (condition_on_row users (condition_in condition))) becomes take layout (is_inside id layout range.now)
      (λ row fits outside. left_unchanged_is_not_met users guard (condition_in condition) row (h row fits outside)) rows (all_of_each (FitsTable layout) rows fit) done

  -- of the rows that are found those are chosen that are chosen of all rows
  pub all_of_target : (target : Target) (condition : Option (Bor TypedTerm)) → LosesNothing target condition → Each (FitsTable target.columns.now) rows
      → over_chosen (is_chosen (sees target) (condition_on_row (users_of target) (condition_in condition))) becomes take done (rows_of target rows)
      ≡ over_chosen (is_chosen (sees target) (condition_on_row (users_of target) (condition_in condition))) becomes take done rows
  all_of_target target condition h fit = chosen_found target.id target.columns.now (users_of target) (sees target) condition target.range h.all_chosen fit
