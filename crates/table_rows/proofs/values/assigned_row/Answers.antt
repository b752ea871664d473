use Rattle.std.proofs.Common.{length, Ok}
use Rattle.expressions.specs.Rows.{names_of, value_on}
use Rattle.expressions.specs.Stages.{each}
use Rattle.row_codec.specs.InPlace.{table_cell}
use Rattle.abstract_database.specs.Expressions.{bound_value}
use Rattle.abstract_database.specs.Changes.{assigned, replaced}
use Rattle.std.specs.Prelude.{[], ◌∷◌}
use Rattle.table_rows.specs.Failures.{Gives}
use Rattle.table_rows.specs.Targets.{terms_in}
use Rattle.table_rows.proofs.MapReads.{ended}
use Rattle.table_rows.proofs.RowValues.{in_place, values_bound, first_failed, then_is, row_wide}
use Rattle.table_rows.proofs.values.assigned_row.Goals as goal

pub returns-in_err-values-clause-gives : goal.returns-in_err-values-clause-gives
returns-in_err-values-clause-gives c = λ wide.
    let users = names_of c.args.users.now in
    let row = c.args.row.now in
    let columns = c.args.assignments.now.columns.now in
    let list = c.args.assignments.now.values.now in
    ended c.in_err-values.field-0.0 (λ r. Gives r (assigned users columns (terms_in list) row)) c.from_residual.result c.from_residual.ensures.1
    (first_failed c.in_err-values.field-0.0 (each (value_on (table_cell row) users) list) (each (bound_value users (row ∷ [])) (terms_in list)) (λ values. Ok (replaced columns values row))
    (values_bound (table_cell row) users (row ∷ []) list (in_place row)) c.in_err-values.ensures)

pub returns-clause-gives : goal.returns-clause-gives
returns-clause-gives c = λ wide.
    let users = names_of c.args.users.now in
    let row = c.args.row.now in
    let columns = c.args.assignments.now.columns.now in
    let list = c.args.assignments.now.values.now in
    let made = rw (c.as_slice-width.ensures.columns, row_wide row (length c.args.columns.now.columns) wide) at c.in_ok-replaced.ensures in
    then_is (each (value_on (table_cell row) users) list) (each (bound_value users (row ∷ [])) (terms_in list)) (λ values. replaced columns values row) c.in_ok-values.values c.in_ok-replaced.field-0
    (values_bound (table_cell row) users (row ∷ []) list (in_place row)) c.in_ok-values.ensures made
