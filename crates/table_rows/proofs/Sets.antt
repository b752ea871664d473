-- An UPDATE of rows that keep their keys: what the code sets, and what the statement means.
use Rattle.std.proofs.Common.{◌≡◌, ℕ, true, List, [], map, length, Result, Ok, Err, refl, sym, ap, ◌∙◌, subst, arith}
use Rattle.std.specs.List.{AllByRecursion}
use Rattle.sql_types.specs.declared.state.SqlState.{SqlState}
use Rattle.sql_types.specs.Row.{Row, value_at}
use Rattle.sql_ast.specs.Layout.{Layout, IsLayout}
use Rattle.sql_ast.specs.Rows.{fits_record}
use Rattle.sql_ast.specs.Fits.{FitsTable}
use Rattle.expressions.specs.Outcome.{Outcome}
use Rattle.expressions.specs.Stages.{◌>>=◌, each}
use Rattle.expressions.proofs.Results.{bind_ok, bind_err, ok_inside}
use Rattle.store.specs.declared.fault.Fault.TheVariants.{Memory, Device, Damaged}
use Rattle.store.specs.Records.{Records, IsOrdered}
use Rattle.abstract_database.specs.Guards.{Guard}
use Rattle.abstract_database.specs.Changes.{Chosen, Changed, choose, checked_rows, keeps_not_null, new_rows, other_rows}
use Rattle.store.specs.declared.stop.StatementError.{StatementError}
use Rattle.store.specs.declared.stop.StatementError.TheVariants.{Refused, Failed}
use Rattle.table_rows.specs.declared.setting.SetRows.{SetRows}
use Rattle.table_rows.specs.Failures.{Answers}
use Rattle.table_rows.specs.HeldRows.{HoldsRows, ConcernRowsOf}
use Rattle.table_rows.specs.Choosing.{is_chosen, over_chosen}
use Rattle.table_rows.specs.NewRows.{new_rows_checked, GiveFittingRows, MakesChanges}
use Rattle.table_rows.specs.Setting.{verdict, nothing_set, setting}
use Rattle.table_rows.proofs.Changing.{held_rows_are_whole}
use Rattle.table_rows.proofs.Checking.{passed}
use Rattle.table_rows.proofs.Chosen.{chosen_is, rows_kept, new_of}
use Rattle.table_rows.proofs.Keeping.{all_set, checks_are, set_count, set_concern, set_held, no_new_double, all_keep}
use Rattle.table_rows.proofs.Statements.{counted, check_failed, put_done, new_rows_fit}

kept_result : (r : Result Row SqlState) → r ≡ (r >>= λ x. Ok x)
kept_result (Ok x) = refl
kept_result (Err code) = refl

module _ (id : ℕ) (layout : Layout) (existing admitting : Guard) (condition : Row → Outcome) (into : Row → Result Row SqlState) (rows : List Row) where
  abbrev all_choices : Result (List Chosen) SqlState
  all_choices = each (choose existing condition into) rows

  abbrev all_sets : Result SetRows SqlState
  all_sets = over_chosen (is_chosen existing condition) into (setting id layout admitting) nothing_set rows

  set_is : all_sets ≡ (all_choices >>= λ cs. Ok (all_set id layout admitting nothing_set cs))
  set_is = chosen_is (λ x. x) (setting id layout admitting) existing condition into into (λ row. kept_result (into row)) rows nothing_set

  -- the choices of the rows that are set
  pub record SetOf (set : SetRows) : Type 0 where
    pub cs : List Chosen
    pub each_is : all_choices ≡ Ok cs
    pub are : all_set id layout admitting nothing_set cs ≡ set

  pub set_of : (set : SetRows) → all_sets ≡ Ok set → SetOf set
  set_of set e =
      let found = bind_ok all_choices (λ cs. Ok (all_set id layout admitting nothing_set cs)) set (sym set_is ∙ e) in
      record { cs = found.0; each_is = found.1; are = ok_inside (all_set id layout admitting nothing_set found.0) set found.2 }

  -- they are of rows of the table
  pub sets_concern : (set : SetRows) → all_sets ≡ Ok set → ConcernRowsOf id set.changes
  sets_concern set e =
      let s = set_of set e in
      subst (λ (x : SetRows). ConcernRowsOf id x.changes) s.are (set_concern id layout admitting nothing_set s.cs tt)

  -- a refusal of the choice is that of the statement
  pub not_set : (records : Records) (go : List Chosen → Result Changed SqlState) (failure : StatementError) → (let r : Result SetRows StatementError = Err failure in Answers r all_sets) → MakesChanges id layout records (Err failure) (all_choices >>= go)
  not_set records go (Refused code) e = ap (λ r. r >>= go) (bind_err all_choices (all_set id layout admitting nothing_set) code (sym set_is ∙ e))
  not_set records go (Failed Memory) e = tt
  not_set records go (Failed Device) e = tt
  not_set records go (Failed Damaged) e = e

  abbrev pub checked_choices : List Chosen → Result Changed SqlState
  checked_choices cs = counted (length (new_rows cs)) (checked_rows layout admitting (other_rows cs) (new_rows cs))

  verdict_is : (set : SetRows) (s : SetOf set) → verdict set.checks ≡ new_rows_checked layout admitting (new_rows s.cs)
  verdict_is set s = ap (λ (x : SetRows). verdict x.checks) (sym s.are) ∙ checks_are id layout admitting s.cs

  pub set_refused : (records : Records) (set : SetRows) (whole : Result Changed SqlState) (code : SqlState) → whole ≡ (all_choices >>= checked_choices) → all_sets ≡ Ok set → verdict set.checks ≡ Err code
      → MakesChanges id layout records (Err (Refused code)) whole
  set_refused records set whole code meant e refused =
      let s = set_of set e in
      check_failed id layout admitting (other_rows s.cs) (new_rows s.cs) records (length (new_rows s.cs)) whole (meant ∙ ap (λ r. r >>= checked_choices) s.each_is) code
      (sym (verdict_is set s) ∙ refused)

  pub set_done : (records : Records) (set : SetRows) (whole : Result Changed SqlState) (x : Unit {0}) → IsLayout layout → IsOrdered records → HoldsRows id layout records rows
      → ((row new : Row) → into row ≡ Ok new → AllByRecursion (λ index. value_at new index ≡ value_at row index) layout.key) → GiveFittingRows layout into rows
      → whole ≡ (all_choices >>= checked_choices) → all_sets ≡ Ok set → verdict set.checks ≡ Ok x
      → MakesChanges id layout records (Ok (record { changes = set.changes; count = set.count })) whole
  set_done records set whole x is o h keeps gives meant e fine =
      let s = set_of set e in
      let held : HoldsRows id layout records (map (λ c. c.row) s.cs) = subst (HoldsRows id layout records) (sym (rows_kept existing condition into rows s.cs s.each_is)) h in
      let kept = all_keep id layout admitting existing condition into keeps rows s.cs s.each_is in
      let passes : new_rows_checked layout admitting (new_rows s.cs) ≡ Ok x = sym (verdict_is set s) ∙ fine in
      let fits = new_rows_fit layout admitting (new_rows s.cs) x
      (new_of (λ row. keeps_not_null layout.columns row ≡ true → fits_record layout row ≡ true → FitsTable layout row) existing condition into rows s.cs gives s.each_is) passes in
      let rise = (held_rows_are_whole id layout records (map (λ c. c.row) s.cs) is o held).order in
      let counts = set_count id layout admitting nothing_set s.cs in
      subst (λ (y : SetRows). MakesChanges id layout records (Ok (record { changes = y.changes; count = y.count })) whole) s.are
      (put_done id layout admitting (other_rows s.cs) (new_rows s.cs) records (length (new_rows s.cs)) whole (meant ∙ ap (λ r. r >>= checked_choices) s.each_is) x []
      (record { changes = (all_set id layout admitting nothing_set s.cs).changes; count = (all_set id layout admitting nothing_set s.cs).count }) passes
      (record {
        unique = no_new_double id layout admitting s.cs kept rise;
        held = set_held id layout admitting s.cs records is o held kept fits (passed layout admitting (new_rows s.cs) x passes).1;
        concern = λ old. set_concern id layout admitting nothing_set s.cs tt;
      }) tt (omega (arith, counts)))
