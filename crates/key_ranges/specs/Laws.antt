-- What lies outside a range of keys changes nothing.
use Rattle.std.specs.Prelude.{◌≡◌, ℕ, true, false, if◌then◌else◌, List, [], ◌∷◌, ◌++◌, map, filter, length, Some, None, Result, Ok}
use Rattle.std.specs.List.{AllByRecursion}
use Rattle.sql_types.specs.declared.state.SqlState.{SqlState}
use Rattle.sql_types.specs.Row.{Row}
use Rattle.sql_ast.specs.Layout.{Layout}
use Rattle.sql_ast.specs.Fits.{FitsTable}
use Rattle.expressions.specs.Meaning.{UserNames, value_of}
use Rattle.expressions.specs.Stages.{◌>>=◌, each}
use Rattle.expressions.specs.Truths.{true_value}
use Rattle.expressions.specs.Types.{TypedTerm}
use Rattle.store.specs.Records.{Records, IsOrdered}
use Rattle.store.specs.Items.{Holds}
use Rattle.abstract_database.specs.Expressions.{all_of, cell_in, passing}
use Rattle.abstract_database.specs.Guards.{Guard}
use Rattle.abstract_database.specs.Queries.{BoundQuery, Combination, Source, product, query}
use Rattle.abstract_database.specs.Changes.{choose, condition_on_row}
use Rattle.abstract_database.specs.Whole.{Each}
use Rattle.guards.specs.Truths.{is_met}
use Rattle.row_codec.specs.Rows.{row_prefix}
use Rattle.stored_database.specs.RecordFormat.{row_record}
use Rattle.key_ranges.specs.declared.range.KeyRange.{KeyRange}
use Rattle.key_ranges.specs.Infallible.{AreInfallible, GuardNeverFails}
use Rattle.key_ranges.specs.Ranges.{records_in, is_inside, is_inside_any, IsRangeOf, HasKeysOf}

-- where the records of a table are those of rows, what is found of a range is the records of the rows inside it, in the same order
abbrev pub RangesHoldTheirRows : Type 0
RangesHoldTheirRows = (id : ℕ) (layout : Layout) (range : KeyRange) (records : Records) (rows : List Row) → IsOrdered records → IsRangeOf id range
    → Holds records (row_prefix id) (row_record id layout) rows
    → records_in range records ≡ map (row_record id layout) (filter (is_inside id layout range) rows)

-- a range of the keys of a table of this index in FROM, which has those of all rows on which the conditions are true, where neither these nor the guard fail on any row
pub record IsHarmless (id : ℕ) (layout : Layout) (table : ℕ) (users : UserNames) (guard : Guard) (conditions : List TypedTerm) (range : KeyRange) : Type 0 where
  pub guard_infallible : GuardNeverFails guard
  pub infallible : AreInfallible conditions
  pub keys : HasKeysOf id layout table users conditions range

-- no guard of these tables fails on any row
abbrev pub AreGuardsInfallible : List Source → Type 0
AreGuardsInfallible sources = AllByRecursion (λ s. GuardNeverFails s.guard) sources

-- a SELECT answers of the rows inside the range, beside any rows of the tables before and after it, what it answers of all rows
abbrev pub RangesLoseNothing : Type 0
RangesLoseNothing = (id : ℕ) (layout : Layout) (users : UserNames) (before after : List Source) (guard : Guard) (conditions : List TypedTerm) (range : KeyRange) (q : BoundQuery) (rows : List Row)
    → IsHarmless id layout (length before) users guard conditions range → AreGuardsInfallible before → AreGuardsInfallible after
    → q.conditions ≡ map (λ c. c.term) conditions → Each (FitsTable layout) rows
    → query (before ++ record { guard = guard; rows = filter (is_inside id layout range) rows } ∷ after) users q ≡ query (before ++ record { guard = guard; rows = rows } ∷ after) users q

-- the ranges have the key of each row that a table may hold and that meets all conditions in a combination with these rows of the tables before it
abbrev pub HaveKeysBehind : ℕ → Layout → UserNames → List TypedTerm → List KeyRange → Combination → Type 0
HaveKeysBehind id layout users conditions ranges front = (row : Row) (rest : Combination) → FitsTable layout row
    → all_of (map (λ c. value_of (cell_in (front ++ row ∷ rest)) users c.term) conditions) ≡ Ok true_value → is_inside_any id layout ranges row ≡ true

-- ranges of the keys of a table that have those of all rows on which the conditions are true behind each combination of these rows of the tables before it
pub record AreHarmlessBehind (id : ℕ) (layout : Layout) (seen : List (List Row)) (users : UserNames) (guard : Guard) (conditions : List TypedTerm) (ranges : List KeyRange) : Type 0 where
  pub guard_infallible : GuardNeverFails guard
  pub infallible : AreInfallible conditions
  pub keys : AllByRecursion (HaveKeysBehind id layout users conditions ranges) (product seen)

-- behind tables of which these rows are seen, a SELECT answers of the rows inside the ranges that are made with these rows what it answers of all rows
abbrev pub LookUpsLoseNothing : Type 0
LookUpsLoseNothing = (id : ℕ) (layout : Layout) (users : UserNames) (before after : List Source) (seen : List (List Row)) (guard : Guard) (conditions : List TypedTerm) (ranges : List KeyRange) (q : BoundQuery) (rows : List Row)
    → AreHarmlessBehind id layout seen users guard conditions ranges → AreGuardsInfallible before → AreGuardsInfallible after → each (λ s. passing s.guard s.rows) before ≡ Ok seen
    → q.conditions ≡ map (λ c. c.term) conditions → Each (FitsTable layout) rows
    → query (before ++ record { guard = guard; rows = filter (is_inside_any id layout ranges) rows } ∷ after) users q ≡ query (before ++ record { guard = guard; rows = rows } ∷ after) users q

-- an UPDATE or a DELETE does not choose a row outside the range, whatever would become of it
abbrev pub OutsideRowsAreNotChosen : Type 0
OutsideRowsAreNotChosen = (id : ℕ) (layout : Layout) (users : UserNames) (guard : Guard) (condition : TypedTerm) (range : KeyRange) (becomes : Row → Result Row SqlState) (row : Row)
    → IsHarmless id layout 0 users guard (condition ∷ []) range → FitsTable layout row → is_inside id layout range row ≡ false
    → choose guard (condition_on_row users (Some condition.term)) becomes row ≡ Ok (record { row = row; new = None })

-- and its guard and its condition are not both true
abbrev pub OutsideRowsAreNotMet : Type 0
OutsideRowsAreNotMet = (id : ℕ) (layout : Layout) (users : UserNames) (guard : Guard) (condition : TypedTerm) (range : KeyRange) (row : Row)
    → IsHarmless id layout 0 users guard (condition ∷ []) range → FitsTable layout row → is_inside id layout range row ≡ false
    → (is_met (guard row) >>= λ visible. if visible then is_met (condition_on_row users (Some condition.term) row) else Ok false) ≡ Ok false
