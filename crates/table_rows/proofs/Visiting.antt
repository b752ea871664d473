-- A choice of rows, row by row.
use Rattle.std.proofs.Common.{◌≡◌, ℕ, Bool, true, false, if◌then◌else◌, List, ◌∷◌, Result, Ok, Err, sym, ap, ◌∙◌, subst}
use Rattle.std.specs.Result.{IsErrAnd}
use Rattle.sql_types.specs.declared.state.SqlState.{SqlState}
use Rattle.sql_types.specs.Row.{Row}
use Rattle.sql_ast.specs.Layout.{Layout}
use Rattle.sql_ast.specs.Fits.{FitsTable}
use Rattle.expressions.specs.Outcome.{Outcome}
use Rattle.expressions.specs.Stages.{◌>>=◌}
use Rattle.store.specs.declared.fault.Fault.TheVariants.{Memory, Device, Damaged}
use Rattle.store.specs.Records.{Records, IsKeySize}
use Rattle.abstract_database.specs.Guards.{Guard}
use Rattle.guards.specs.Truths.{is_met}
use Rattle.stored_database.specs.RecordFormat.{row_record}
use Rattle.store.specs.declared.stop.StatementError.{StatementError}
use Rattle.store.specs.declared.stop.StatementError.TheVariants.{Refused, Failed}
use Rattle.table_rows.specs.declared.target.Target.{Target}
use Rattle.table_rows.specs.Failures.{Gives, Answers, IsDamagedFor}
use Rattle.table_rows.specs.Ranged.{FindsRows, FindsDamage}
use Rattle.table_rows.specs.declared.visit.Flow.{Flow}
use Rattle.table_rows.specs.Visits.{AnswerAfter, Visits, VisitsAll}
use Rattle.table_rows.specs.Choosing.{is_chosen, over_chosen}
use Rattle.table_rows.proofs.MapReads.{ended}
use Rattle.table_rows.proofs.RowSizes.{key_size}

-- ---- whether a row is chosen

pub unseen : (guard : Guard) (condition : Row → Outcome) (row : Row) → is_met (guard row) ≡ Ok false → is_chosen guard condition row ≡ Ok false
unseen guard condition row e = ap (λ r. r >>= λ visible. if visible then is_met (condition row) else Ok false) e

pub seen : (guard : Guard) (condition : Row → Outcome) (row : Row) → is_met (guard row) ≡ Ok true → is_chosen guard condition row ≡ is_met (condition row)
seen guard condition row e = ap (λ r. r >>= λ visible. if visible then is_met (condition row) else Ok false) e

pub guard_failed : (guard : Guard) (condition : Row → Outcome) (row : Row) (code : SqlState) → is_met (guard row) ≡ Err code → is_chosen guard condition row ≡ Err code
guard_failed guard condition row code e = ap (λ r. r >>= λ visible. if visible then is_met (condition row) else Ok false) e

-- ---- a visit

module _ {A B : Type 0} (test : Row → Result Bool SqlState) (becomes : Row → Result B SqlState) (take : Row → B → A → A) (done : A) (row : Row) where
  abbrev step : Result Bool SqlState → List Row → Result A SqlState
  step r rest = r >>= λ this. if this then (becomes row >>= λ new. over_chosen test becomes take (take row new done) rest) else over_chosen test becomes take done rest

  pub passed_over : test row ≡ Ok false → (rest : List Row) → over_chosen test becomes take done (row ∷ rest) ≡ over_chosen test becomes take done rest
  passed_over e rest = ap (λ r. step r rest) e

  pub test_failed : (code : SqlState) → test row ≡ Err code → (rest : List Row) → over_chosen test becomes take done (row ∷ rest) ≡ Err code
  test_failed code e rest = ap (λ r. step r rest) e

  abbrev becomes_next : Result B SqlState → List Row → Result A SqlState
  becomes_next r rest = r >>= λ new. over_chosen test becomes take (take row new done) rest

  pub became_failed : (failure : StatementError) (last : AnswerAfter A) → test row ≡ Ok true → (let r : Result B StatementError = Err failure in Gives r (becomes row)) → Visits (Err failure) row (over_chosen test becomes take done) last
  became_failed (Refused code) last e b = λ rest. ap (λ r. step r rest) e ∙ ap (λ r. becomes_next r rest) b
  became_failed (Failed Memory) last e b = tt
  became_failed (Failed Device) last e b = b
  became_failed (Failed Damaged) last e b = b

  pub took : (new : B) (next : A) → test row ≡ Ok true → becomes row ≡ Ok new → next ≡ take row new done
      → (rest : List Row) → over_chosen test becomes take done (row ∷ rest) ≡ over_chosen test becomes take next rest
  took new next e b t rest =
      ap (λ r. step r rest) e ∙ ap (λ r. becomes_next r rest) b
      ∙ ap (λ (x : A). over_chosen test becomes take x rest) (sym t)

-- a row for which there is no memory ends the walk
pub no_memory : {A : Type 0} (failure : StatementError) (r : Result Flow StatementError) (row : Row) (old last : AnswerAfter A) → failure ≡ Failed Memory → IsErrAnd r (λ y. y ≡ failure) → Visits r row old last
no_memory failure r row old last e is = ended failure (λ r. Visits r row old last) r is (subst (λ (f : StatementError). Visits (Err f) row old last) (sym e) tt)

pub key_fits : (id : ℕ) (layout : Layout) (row : Row) (key : List ℕ) → FitsTable layout row → key ≡ (row_record id layout row).0 → IsKeySize key
key_fits id layout row key fits e = subst IsKeySize (sym e) (key_size id layout row fits.limits)

-- ---- a walk over a table

pub walk_failed : {A : Type 0} (failure : StatementError) (rows : List Row) (old last : AnswerAfter A) → VisitsAll (Err failure) rows old last → (let r : Result A StatementError = Err failure in Answers r (old rows))
walk_failed (Refused code) rows old last v = v
walk_failed (Failed Memory) rows old last v = tt
walk_failed (Failed Device) rows old last v = tt
walk_failed (Failed Damaged) rows old last v = v

-- a walk over a target is damaged where it does not find rows
pub walk_damaged : {A : Type 0} (failure : StatementError) (target : Target) (records : Records) (old last : AnswerAfter A) → ((rows : List Row) → FindsRows target records rows → VisitsAll (Err failure) rows old last)
    → IsDamagedFor (FindsDamage target records) failure
walk_damaged (Refused code) target records old last v = tt
walk_damaged (Failed Memory) target records old last v = tt
walk_damaged (Failed Device) target records old last v = tt
walk_damaged (Failed Damaged) target records old last v = v
