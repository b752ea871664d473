use Rattle.std.proofs.Common.{Ok, []}
use Rattle.expressions.specs.Rows.{names_of}
use Rattle.expressions.specs.Stages.{each}
use Rattle.abstract_database.specs.Expressions.{bound_value}
use Rattle.abstract_database.specs.Changes.{arranged, inserted_row}
use Rattle.table_rows.specs.Failures.{Gives}
use Rattle.table_rows.specs.Targets.{terms_in}
use Rattle.table_rows.proofs.MapReads.{ended}
use Rattle.table_rows.proofs.RowValues.{no_row, values_bound, first_failed, then_is, nothing_there, nulls_so_wide}
use Rattle.table_rows.proofs.values.inserted_row.Goals as goal

pub returns-in_err-values : goal.returns-in_err-values
returns-in_err-values c =
    let users = names_of c.args.users.now in
    let targets = c.args.targets.now in
    ended c.in_err-values.field-0.0 (λ r. Gives r (inserted_row c.args.columns.now users targets (terms_in c.args.values.now))) c.from_residual.result c.from_residual.ensures.1
    (first_failed c.in_err-values.field-0.0 _ (each (bound_value users []) (terms_in c.args.values.now)) (λ values. Ok (arranged c.args.columns.now targets values))
    (values_bound _ users [] c.args.values.now (no_row _ (nothing_there c.args.no_row.now c.requires))) c.in_err-values.ensures)

pub returns : goal.returns
returns c =
    let users = names_of c.args.users.now in
    let targets = c.args.targets.now in
    let columns = c.args.columns.now.columns in
    let made = rw (c.as_slice-width.ensures.columns, nulls_so_wide _ columns (nothing_there c.args.no_row.now c.requires)) at c.in_ok-replaced.ensures in
    then_is _ (each (bound_value users []) (terms_in c.args.values.now)) (λ values. arranged c.args.columns.now targets values) c.in_ok-values.values c.in_ok-replaced.field-0
    (values_bound _ users [] c.args.values.now (no_row _ (nothing_there c.args.no_row.now c.requires))) c.in_ok-values.ensures made
