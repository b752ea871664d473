use Rattle.std.proofs.Common.{◌∙◌, ◌≤◌, List, arith, length, Result, sym, ap, subst, refl}
use Rattle.sql_types.specs.declared.state.SqlState.{SqlState}
use Rattle.sql_types.specs.Row.{Row}
use Rattle.expressions.specs.Stages.{◌>>=◌, each}
use Rattle.abstract_database.specs.Changes.{Changed, checked_rows}
use Rattle.abstract_database.proofs.ResultLemmas.{length_each}
use Rattle.store.specs.declared.stop.StatementError.TheVariants.{Refused}
use Rattle.table_rows.specs.Targets.{users_of, admits, inserted_by}
use Rattle.table_rows.specs.NewRows.{MakesChanges, inserted}
use Rattle.table_rows.proofs.MapReads.{ended}
use Rattle.table_rows.proofs.Statements.{counted, insert_is, not_made, check_failed, put_failed, put_done, inserted_fit}
use Rattle.table_rows.proofs.change.insert.Goals as goal

pub returns-in_err-rows-clause-changes : goal.returns-in_err-rows-clause-changes
returns-in_err-rows-clause-changes g c = λ s rows checked is h i f.
    let target = c.args.target.now in
    let insertion = c.args.insertion.now in
    let records = (g.M.Map.state c.args.records.now).map in
    let go : List Row → Result Changed SqlState = λ new. counted (length insertion.rows.now) (checked_rows target.columns.now (admits target) rows new) in
    subst (λ (m : Result Changed SqlState). MakesChanges target.id target.columns.now records c.from_residual.result m) (sym (insert_is target insertion checked (admits target) rows i))
    (ended c.in_err-rows.field-0.0 (λ r. MakesChanges target.id target.columns.now records r (each (inserted_by target insertion) insertion.rows.now >>= go)) c.from_residual.result c.from_residual.ensures.1
    (not_made target.id target.columns.now records (inserted_by target insertion) insertion.rows.now go c.in_err-rows.field-0.0 c.in_err-rows.ensures))

pub returns-in_err-check_new_rows-clause-changes : goal.returns-in_err-check_new_rows-clause-changes
returns-in_err-check_new_rows-clause-changes g c = λ s rows checked is h i f.
    let target = c.args.target.now in
    let insertion = c.args.insertion.now in
    let records = (g.M.Map.state c.args.records.now).map in
    let n = length insertion.rows.now in
    let meant = insert_is target insertion checked (admits target) rows i ∙ ap (λ r. r >>= λ new. counted n (checked_rows target.columns.now (admits target) rows new)) c.in_ok-rows.ensures in
    let refused = rw c.as_slice-new.ensures at c.in_err-check_new_rows.ensures.checked in
    ended (Refused c.in_err-check_new_rows.field-0.0) (λ r. MakesChanges target.id target.columns.now records r (inserted (admits target) (users_of target) checked rows))
    c.from_residual-in_err-check_new_rows.result c.from_residual-in_err-check_new_rows.ensures.1
    (check_failed target.id target.columns.now (admits target) rows c.in_ok-rows.rows records n (inserted (admits target) (users_of target) checked rows) meant c.in_err-check_new_rows.field-0.0 (sym refused))

pub returns-in_err-put_rows-clause-changes : goal.returns-in_err-put_rows-clause-changes
returns-in_err-put_rows-clause-changes g c = λ s rows checked is h i f.
    let target = c.args.target.now in
    let insertion = c.args.insertion.now in
    let records = (g.M.Map.state c.args.records.now).map in
    let n = length insertion.rows.now in
    let meant = insert_is target insertion checked (admits target) rows i ∙ ap (λ r. r >>= λ new. counted n (checked_rows target.columns.now (admits target) rows new)) c.in_ok-rows.ensures in
    let passed = rw c.as_slice-new.ensures at c.in_ok-check_new_rows.ensures.checked in
    let fit = inserted_fit target.columns.now (admits target) (inserted_by target insertion) insertion.rows.now c.in_ok-rows.rows c.in_ok-check_new_rows.field-0 f c.in_ok-rows.ensures (sym passed) in
    let put = rw (c.as_slice-new.ensures, c.new-changes.ensures) at (c.in_err-put_rows.ensures.puts s rows is) in
    ended c.in_err-put_rows.field-0.0 (λ r. MakesChanges target.id target.columns.now records r (inserted (admits target) (users_of target) checked rows))
    c.from_residual-in_err-put_rows.result c.from_residual-in_err-put_rows.ensures.1
    (put_failed target.id target.columns.now (admits target) rows c.in_ok-rows.rows records n (inserted (admits target) (users_of target) checked rows) meant c.in_ok-check_new_rows.field-0 c.in_err-put_rows.field-0.0 _ _ (sym passed) (put tt h fit))

pub returns-clause-changes : goal.returns-clause-changes
returns-clause-changes g c = λ s rows checked is h i f.
    let target = c.args.target.now in
    let insertion = c.args.insertion.now in
    let records = (g.M.Map.state c.args.records.now).map in
    let n = length insertion.rows.now in
    let meant = insert_is target insertion checked (admits target) rows i ∙ ap (λ r. r >>= λ new. counted n (checked_rows target.columns.now (admits target) rows new)) c.in_ok-rows.ensures in
    let passed = rw c.as_slice-new.ensures at c.in_ok-check_new_rows.ensures.checked in
    let fit = inserted_fit target.columns.now (admits target) (inserted_by target insertion) insertion.rows.now c.in_ok-rows.rows c.in_ok-check_new_rows.field-0 f c.in_ok-rows.ensures (sym passed) in
    let put = rw (c.as_slice-new.ensures, c.new-changes.ensures) at (c.in_ok-put_rows.ensures.puts s rows is) in
    put_done target.id target.columns.now (admits target) rows c.in_ok-rows.rows records n (inserted (admits target) (users_of target) checked rows) meant c.in_ok-check_new_rows.field-0 _ (record { changes = c.put_rows.new.changes; count = n }) (sym passed) (put tt h fit) tt refl

pub returns-in_err-rows-clause-cost : goal.returns-in_err-rows-clause-cost
returns-in_err-rows-clause-cost g c = g.M.Map.cost_within c.args.records.now c.args.records.now 0 _ (omega arith) (g.M.Map.cost_none c.args.records.now)

pub returns-in_err-check_new_rows-clause-cost : goal.returns-in_err-check_new_rows-clause-cost
returns-in_err-check_new_rows-clause-cost g c = g.M.Map.cost_within c.args.records.now c.args.records.now 0 _ (omega arith) (g.M.Map.cost_none c.args.records.now)

pub returns-in_err-put_rows-clause-cost : goal.returns-in_err-put_rows-clause-cost
returns-in_err-put_rows-clause-cost g c =
    let same = ap length c.as_slice-new.ensures ∙ length_each (inserted_by c.args.target.now c.args.insertion.now) c.args.insertion.now.rows.now c.in_ok-rows.rows c.in_ok-rows.ensures in
    g.M.Map.cost_within c.args.records.now c.put_rows.new.records (length c.as_slice-new.result.now) _ (omega (arith, same)) c.in_err-put_rows.ensures.cost

pub returns-clause-cost : goal.returns-clause-cost
returns-clause-cost g c =
    let same = ap length c.as_slice-new.ensures ∙ length_each (inserted_by c.args.target.now c.args.insertion.now) c.args.insertion.now.rows.now c.in_ok-rows.rows c.in_ok-rows.ensures in
    g.M.Map.cost_within c.args.records.now c.put_rows.new.records (length c.as_slice-new.result.now) _ (omega (arith, same)) c.in_ok-put_rows.ensures.cost
