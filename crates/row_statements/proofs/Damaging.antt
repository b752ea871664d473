-- A statement that answers Damaged found a record of no row where it looks for rows.
use Rattle.std.proofs.Common.{◌≡◌, ℕ, ◌+◌, List, [], ◌∷◌, map, Option, Some, None, Result, Ok, Err, Bor, refl, sym, ◌∙◌, subst}
use Rattle.std.specs.Prelude.{IfErr}
use Rattle.std.specs.Result.{IsErrAnd}
use Rattle.std.specs.Option.{option_copied}
use Rattle.sql_types.specs.Row.{Row}
use Rattle.sql_types.specs.declared.state.Refusal.{Refusal}
use Rattle.sql_types.specs.declared.state.SqlState.{SqlState}
use Rattle.sql_types.specs.declared.tag.Tag.{Tag}
use Rattle.sql_ast.specs.Layout.{Layout}
use Rattle.sql_ast.specs.declared.statement.RowStatement.{RowStatement}
use Rattle.sql_ast.specs.declared.statement.RowStatement.TheVariants as over_rows
use Rattle.store.specs.declared.fault.Fault.TheVariants.{Memory, Device, Damaged}
use Rattle.store.specs.declared.stop.StatementError.{StatementError}
use Rattle.store.specs.declared.stop.StatementError.TheVariants.{Refused, Failed}
use Rattle.store.specs.Records.{Records}
use Rattle.store.specs.StatementError.{IsStopBy}
use Rattle.expressions.specs.Meaning.{UserNames}
use Rattle.expressions.specs.Types.{TypedTerm}
use Rattle.abstract_database.specs.Queries.{query}
use Rattle.stored_database.specs.Definitions.{Definitions}
use Rattle.key_ranges.specs.declared.range.KeyRange.{KeyRange}
use Rattle.gathering.specs.Queries.{bound_of}
use Rattle.planner.specs.declared.plans.Plan.TheVariants as plan
use Rattle.planner.specs.declared.sources.Source.{Source}
use Rattle.planner.specs.declared.select.SelectPlan.{SelectPlan}
use Rattle.planner.specs.Fitting.{AreRowsOf}
use Rattle.planner.specs.Plans.{IsPlanOf}
use Rattle.planner.proofs.Fitting.{products}
use Rattle.table_rows.specs.declared.change.RowChanges.{RowChanges}
use Rattle.table_rows.specs.declared.target.Target.{Target}
use Rattle.table_rows.specs.HeldRows.{AreRecordsOf}
use Rattle.table_rows.specs.Failures.{Answers, IsDamagedFor}
use Rattle.table_rows.specs.Ranged.{records_found, FindsRows, FindsDamage}
use Rattle.executor.specs.Selected.{sources_of, FindRowsOfEach, CombinationsFitQuery}
use Rattle.row_statements.specs.declared.ranges.RangedSource.{RangedSource}
use Rattle.row_statements.specs.Ranges.{range_where, AreRanged}
use Rattle.row_statements.specs.Damage.{records_among, FindsRowsIn, FindRowsAmong, IsDamagedWhere, MeetsDamage}
use Rattle.row_statements.specs.Executed.{effect_by, answered, counted}
use Rattle.row_statements.specs.Targeted.{IsTargetOf, IsRangedTargetOf, AreTargetsOf}
use Rattle.row_statements.proofs.Meanings.{handed_on}
use Rattle.row_statements.proofs.Targeting.{AreTargetsIn}

-- ---- causes

-- what follows from a cause is one
pub damaged_by : {A : Type 0} (r : Result A StatementError) (cause more : Type 0) → (cause → more) → IfErr r (IsDamagedFor cause) → IfErr r (IsDamagedFor more)
damaged_by (Ok x) cause more f h = tt
damaged_by (Err (Refused code)) cause more f h = tt
damaged_by (Err (Failed Memory)) cause more f h = tt
damaged_by (Err (Failed Device)) cause more f h = tt
damaged_by (Err (Failed Damaged)) cause more f h = f h

-- what holds is the cause of any end
pub damaged_anyway : {A : Type 0} (r : Result A StatementError) (cause : Type 0) → cause → IfErr r (IsDamagedFor cause)
damaged_anyway (Ok x) cause holds = tt
damaged_anyway (Err (Refused code)) cause holds = tt
damaged_anyway (Err (Failed Memory)) cause holds = tt
damaged_anyway (Err (Failed Device)) cause holds = tt
damaged_anyway (Err (Failed Damaged)) cause holds = holds

stop_undamaged : (code : SqlState) (failure : StatementError) (cause : Type 0) → IsStopBy code failure → IsDamagedFor cause failure
stop_undamaged code (Refused c) cause is = tt
stop_undamaged code (Failed Memory) cause is = tt
stop_undamaged code (Failed Device) cause is = tt
stop_undamaged code (Failed Damaged) cause is = absurd is

-- the refusal of a plan is no damage, however it is handed on
pub refusal_undamaged : {A : Type 0} (cause : Type 0) (refusal : Refusal) (result : Result A StatementError) → IsErrAnd result (λ stop. IsStopBy refusal.0 stop) → IfErr result (IsDamagedFor cause)
refusal_undamaged cause refusal result is = handed_on refusal (λ r. IfErr r (IsDamagedFor cause)) result is (λ stop h. stop_undamaged refusal.0 stop cause h)

-- ---- what a target finds

same_records : (id : ℕ) (lent : Option (Bor KeyRange)) (records : Records) → records_among id (option_copied lent) records ≡ records_found id lent records
same_records id None records = refl
same_records id (Some range) records = refl

-- what is found in the range of a table is found by its target
target_finds : (users : UserNames) (s : Source) (target : Target) (range : Option KeyRange) (records : Records) (rows : List Row) → IsTargetOf users s target → option_copied target.range ≡ range → FindsRowsIn records s range rows → FindsRows target records rows
target_finds users s target range records rows is same_range found =
    subst (λ (id : ℕ). AreRecordsOf id target.columns.now rows (records_found id target.range records)) (sym is.id)
    (subst (λ (layout : Layout). AreRecordsOf s.table.now.id layout rows (records_found s.table.now.id target.range records)) (sym is.layout)
    (subst (AreRecordsOf s.table.now.id s.table.now.definition.layout rows) (same_records s.table.now.id target.range records)
    (subst (λ (o : Option KeyRange). FindsRowsIn records s o rows) (sym same_range) found)))

-- the damage that an UPDATE or a DELETE finds is where it looks
pub damaged_where : (users : UserNames) (roles : List (List ℕ)) (s : Source) (condition : Option TypedTerm) (r : RangedSource) (target : Target) (records : Records) (t : Tag) (made : Result RowChanges StatementError) (cause : Type 0)
    → (IsDamagedWhere records users roles s condition → cause) → r.source.now ≡ s → r.range ≡ range_where users roles s condition → IsRangedTargetOf users r target
    → IfErr made (IsDamagedFor (FindsDamage target records)) → IfErr (effect_by (counted t) made) (IsDamagedFor cause)
damaged_where users roles s condition r target records t (Ok x) cause found same exact is h = tt
damaged_where users roles s condition r target records t (Err (Refused code)) cause found same exact is h = tt
damaged_where users roles s condition r target records t (Err (Failed Memory)) cause found same exact is h = tt
damaged_where users roles s condition r target records t (Err (Failed Device)) cause found same exact is h = tt
damaged_where users roles s condition r target records t (Err (Failed Damaged)) cause found same exact is h =
    found (λ rows f. h rows (target_finds users s target (range_where users roles s condition) records rows (subst (λ (x : Source). IsTargetOf users x target) same is.target_of) (is.range ∙ exact) f))

-- what is found in the ranges of tables is found by their targets
all_found : (users : UserNames) (conditions : List TypedTerm) (records : Records) (index : ℕ) (sources : List Source) (ranged : List RangedSource) (targets : List Target) (lists : List (List Row))
    → AreRanged users conditions index sources ranged → AreTargetsOf users ranged targets → FindRowsAmong records sources (map (λ r. r.range) ranged) lists → FindRowsOfEach records targets lists
all_found users conditions records index [] [] [] [] are of found = tt
all_found users conditions records index [] [] [] (rows ∷ lists) are of found = absurd found
all_found users conditions records index [] [] (t ∷ targets) lists are of found = absurd of
all_found users conditions records index [] (r ∷ ranged) targets lists are of found = absurd are
all_found users conditions records index (s ∷ sources) [] targets lists are of found = absurd are
all_found users conditions records index (s ∷ sources) (r ∷ ranged) [] lists are of found = absurd of
all_found users conditions records index (s ∷ sources) (r ∷ ranged) (t ∷ targets) [] are of found = absurd found
all_found users conditions records index (s ∷ sources) (r ∷ ranged) (t ∷ targets) (rows ∷ lists) are of found = (
  target_finds users s t r.range records rows (subst (λ (x : Source). IsTargetOf users x t) are.0 of.0.target_of) of.0.range found.0,
  all_found users conditions records (index + 1) sources ranged targets lists are.2 of.1 found.1,
)

-- it is rows of the tables
all_fit : (records : Records) (sources : List Source) (ranges : List (Option KeyRange)) (lists : List (List Row)) → FindRowsAmong records sources ranges lists → AreRowsOf (map (λ s. s.table.now) sources) lists
all_fit records [] [] [] found = tt
all_fit records [] [] (rows ∷ lists) found = absurd found
all_fit records [] (range ∷ ranges) lists found = absurd found
all_fit records (s ∷ sources) [] lists found = absurd found
all_fit records (s ∷ sources) (range ∷ ranges) [] found = absurd found
all_fit records (s ∷ sources) (range ∷ ranges) (rows ∷ lists) found = (found.0.fit, all_fit records sources ranges lists found.1)

module _ (records : Records) (d : Definitions) (users : UserNames) (p : SelectPlan) (targets : List Target) where
  pub damaged_among : (r : Result (List Row) StatementError) (s : RowStatement) → IsPlanOf d users.current s (plan.Select p) → AreTargetsIn users p targets
      → ((lists : List (List Row)) → FindRowsOfEach records targets lists → CombinationsFitQuery users p.query lists → Answers r (query (sources_of targets lists) users (bound_of p.query)))
      → IfErr (effect_by answered r) (IsDamagedFor (MeetsDamage records users (plan.Select p)))
  damaged_among (Ok rows) s c are gives = tt
  damaged_among (Err (Refused code)) s c are gives = tt
  damaged_among (Err (Failed Memory)) s c are gives = tt
  damaged_among (Err (Failed Device)) s c are gives = tt
  damaged_among (Err (Failed Damaged)) (over_rows.Select s) c are gives = record {
    roles = are.of_plan.roles;
    are_roles = are.of_plan.are_roles;
    met = λ lists found.
        gives lists
        (all_found users p.query.conditions records 0 p.sources are.of_plan.ranged targets lists are.safe are.of_plan.targets_of (subst (λ (ranges : List (Option KeyRange)). FindRowsAmong records p.sources ranges lists) (sym are.of_plan.ranges) found))
        (products d users.current s p users lists c (all_fit records p.sources _ lists found));
  }
  damaged_among (Err (Failed Damaged)) s c are gives = absurd c
