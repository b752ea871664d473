-- What a statement means, in the words of its plan and of what carries the plan out.
use Rattle.std.proofs.Common.{◌≡◌, ◌⊎◌, ℕ, List, Option, Some, None, Result, Ok, Err, Bor, refl, ap, sym, ◌∙◌, subst, inl, inr}
use Rattle.std.specs.Option.{option_copied}
use Rattle.std.specs.Result.{IsErrAnd}
use Rattle.std.proofs.Math.Path.{fun_ext}
use Rattle.sql_types.specs.Row.{Row}
use Rattle.sql_types.specs.declared.state.Refusal.{Refusal}
use Rattle.sql_types.specs.declared.state.SqlState.{SqlState}
use Rattle.sql_types.specs.declared.state.SqlState.TheVariants.{OutOfMemory}
use Rattle.sql_ast.specs.declared.privilege.Action.{Action}
use Rattle.sql_ast.specs.declared.statement.RowStatement.{RowStatement}
use Rattle.sql_ast.specs.declared.statement.RowStatement.TheVariants as over_rows
use Rattle.sql_ast.specs.Layout.{Layout}
use Rattle.store.specs.declared.fault.Fault.TheVariants.{Memory, Device, Damaged}
use Rattle.store.specs.declared.stop.StatementError.{StatementError}
use Rattle.store.specs.declared.stop.StatementError.TheVariants.{Refused, Failed}
use Rattle.store.specs.Records.{Records}
use Rattle.store.specs.StatementError.{IsStopBy}
use Rattle.expressions.specs.Meaning.{UserNames}
use Rattle.expressions.specs.Stages.{◌>>=◌}
use Rattle.expressions.specs.Types.{TypedTerm}
use Rattle.abstract_database.specs.Lists.{Among}
use Rattle.abstract_database.specs.Changes.{Changed}
use Rattle.abstract_database.specs.Checks.{checked_insert, checked_update, checked_delete, checked_select}
use Rattle.abstract_database.specs.Database.{Database}
use Rattle.abstract_database.specs.Guards.{existing_guard, new_guard}
use Rattle.abstract_database.specs.Statements.{Effect, Checked, inserts, updates, deletes, selects, exec_over_rows, checked_over_rows, performed}
use Rattle.stored_database.specs.Definitions.{Definitions}
use Rattle.stored_database.specs.Valid.{Describes}
use Rattle.stored_database.specs.Records.{Shows}
use Rattle.stored_database.proofs.Wholeness.{shown_described}
use Rattle.guards.specs.Guards.{row_guard}
use Rattle.guards.specs.declared.guard.Guard.{Guard as Formulas}
use Rattle.policy_composer.specs.Guarding.{MeansGuard, existing_of, new_of}
use Rattle.planner.specs.declared.plans.Plan.{Plan}
use Rattle.planner.specs.declared.sources.Source.{Source}
use Rattle.planner.specs.Answers.{IsRefusedBy}
use Rattle.planner.specs.Changed.{where_of}
use Rattle.table_rows.specs.declared.change.RowChanges.{RowChanges}
use Rattle.table_rows.specs.declared.target.Target.{Target}
use Rattle.table_rows.specs.HeldRows.{HoldsRows}
use Rattle.table_rows.specs.NewRows.{MakesChanges}
use Rattle.table_rows.specs.Targets.{sees, admits, condition_in}
use Rattle.catalogue.specs.declared.effect.Effect.{Effect as TheEffect}
use Rattle.catalogue.specs.Executed.{Executes}
use Rattle.row_statements.specs.Targeted.{IsTargetOf}

-- ---- a statement is checked, and then performed

done_then : {C : Type 0} (made : Result C SqlState) (checked : C → Checked) (go : Checked → Result Effect SqlState) → (made >>= λ c. go (checked c)) ≡ ((made >>= λ c. Ok (checked c)) >>= go)
done_then (Ok c) checked go = refl
done_then (Err code) checked go = refl

pub staged : (db : Database) (users : UserNames) (s : RowStatement) → exec_over_rows db users s ≡ (checked_over_rows db users s >>= performed db users)
staged db users (over_rows.Insert s) = done_then (checked_insert db users s) inserts (performed db users)
staged db users (over_rows.Update s) = done_then (checked_update db users s) updates (performed db users)
staged db users (over_rows.Delete s) = done_then (checked_delete db users s) deletes (performed db users)
staged db users (over_rows.Select s) = done_then (checked_select db users s) selects (performed db users)

-- ---- refusals

refused : (records : Records) (d : Definitions) (failure : StatementError) (code : SqlState) (meant : Result Effect SqlState) → IsStopBy code failure → (code ≡ OutOfMemory) ⊎ (meant ≡ Err code)
    → Executes records d (Err failure) meant
refused records d (Refused c) code meant is (inl memory) = absurd (is.1 memory)
refused records d (Refused c) code meant is (inr e) = e ∙ ap (λ (x : SqlState). let r : Result Effect SqlState = Err x in r) (sym is.0)
refused records d (Failed Memory) code meant is h = tt
refused records d (Failed Device) code meant is h = absurd is
refused records d (Failed Damaged) code meant is h = absurd is

-- what is so however a refusal is handed on
pub handed_on : {A : Type 0} (refusal : Refusal) (Q : Result A StatementError → Type 0) (result : Result A StatementError) → IsErrAnd result (λ stop. IsStopBy refusal.0 stop) → ((stop : StatementError) → IsStopBy refusal.0 stop → Q (Err stop)) → Q result
handed_on refusal Q (Ok x) is q = absurd is
handed_on refusal Q (Err stop) is q = q stop is

-- checks that refuse a statement refuse it as a whole, however the refusal is handed on
pub plan_refused : (records : Records) (d : Definitions) (db : Database) (users : UserNames) (s : RowStatement) (refusal : Refusal) (result : Result TheEffect StatementError)
    → Shows records d db → IsErrAnd result (λ stop. IsStopBy refusal.0 stop) → IsRefusedBy checked_over_rows d users.current s refusal → Executes records d result (exec_over_rows db users s)
plan_refused records d db users s refusal result shown is by_checks =
    handed_on refusal (λ r. Executes records d r (exec_over_rows db users s)) result is (λ stop h. refused records d stop refusal.0 (exec_over_rows db users s) h (as_whole by_checks))
  where
    as_whole : IsRefusedBy checked_over_rows d users.current s refusal → (refusal.0 ≡ OutOfMemory) ⊎ (exec_over_rows db users s ≡ Err refusal.0)
    as_whole (inl memory) = inl memory
    as_whole (inr e) = inr (staged db users s ∙ ap (λ r. r >>= performed db users) (e db users (shown_described records d db shown) refl))

-- ---- the target

module _ (users : UserNames) (s : Source) (target : Target) (is : IsTargetOf users s target) where
  pub held_there : (records : Records) (rows : List Row) → HoldsRows s.table.now.id s.table.now.definition.layout records rows → HoldsRows target.id target.columns.now records rows
  held_there records rows h =
      subst (λ (layout : Layout). HoldsRows target.id layout records rows) (sym is.layout)
      (subst (λ (id : ℕ). HoldsRows id s.table.now.definition.layout records rows) (sym is.id) h)

  pub makes_here : (records : Records) (r : Result RowChanges StatementError) (rows : Result Changed SqlState) → MakesChanges target.id target.columns.now records r rows → MakesChanges s.table.now.id s.table.now.definition.layout records r rows
  makes_here records r rows m =
      subst (λ (id : ℕ). MakesChanges id s.table.now.definition.layout records r rows) is.id
      (subst (λ (layout : Layout). MakesChanges target.id layout records r rows) is.layout m)

  -- its guards are those of the definition
  module _ (d : Definitions) (db : Database) (h : Describes d db) (among : Among s.table.now d.tables) where
    pub sees_is : (a : Action) (reads : _) → MeansGuard d s.table.now users.current (existing_of a reads) s.guard.existing → existing_guard db users s.table.now.definition a reads ≡ sees target
    sees_is a reads means =
        sym (fun_ext (λ (row : Row). means db users row h among refl))
        ∙ ap (λ (g : Formulas). row_guard users g.existing) (sym is.guard)
        ∙ ap (λ (u : UserNames). row_guard u target.guard.now.existing) (sym is.who)

    pub admits_is : (a : Action) (reads : _) → MeansGuard d s.table.now users.current (new_of a reads) s.guard.new → new_guard db users s.table.now.definition a reads ≡ admits target
    admits_is a reads means =
        sym (fun_ext (λ (row : Row). means db users row h among refl))
        ∙ ap (λ (g : Formulas). row_guard users g.new) (sym is.guard)
        ∙ ap (λ (u : UserNames). row_guard u target.guard.now.new) (sym is.who)

-- the condition, lent
pub condition_is : (lent : Option (Bor TypedTerm)) (own : Option TypedTerm) → option_copied lent ≡ own → where_of own ≡ condition_in lent
condition_is None own e = ap where_of (sym e)
condition_is (Some typed) own e = ap where_of (sym e)

-- ---- a plan that is carried out

-- what is so of its kind and of the effect of its call
pub of_kind : {p kind : Plan} {result made : Result TheEffect StatementError} (P : Plan → Result TheEffect StatementError → Type 0) → p ≡ kind → result ≡ made → P kind made → P p result
of_kind {p} {kind} {result} {made} P is by h = subst (λ (x : Plan). P x result) (sym is) (subst (P kind) (sym by) h)
