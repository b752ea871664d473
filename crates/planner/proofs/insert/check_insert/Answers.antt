use Rattle.std.proofs.Common.{inr, rules}
use Rattle.planner.specs.Inserted.{rows_of}
use Rattle.planner.proofs.Inserting.{columns_refused, rows_refused, not_allowed, too_many, passes}
use Rattle.planner.proofs.insert.check_insert.Goals as goal

pub returns-in_err-columns : goal.returns-in_err-columns
returns-in_err-columns c = λ one.
    let m = columns_refused c.args.rights.now c.args.statement.now c.args.table.now c.columns-layout.result.now c.columns-layout.ensures c.in_err-columns.field-0.0 c.in_err-columns.ensures in
    search rules

pub returns-in_err-values : goal.returns-in_err-values
returns-in_err-values c = λ one.
    let m = rows_refused c.args.rights.now c.args.statement.now c.args.table.now c.columns-layout.result.now c.columns-layout.ensures
    one c.in_ok-columns.columns c.in_ok-columns.ensures c.as_slice.result.now c.as_slice.ensures c.as_slice-rows.result.now c.as_slice-rows.ensures c.in_err-values.field-0.0 c.in_err-values.ensures in
    search rules

pub returns-then-not-may_write : goal.returns-then-not-may_write
returns-then-not-may_write c = λ one.
    inr (not_allowed c.args.rights.now c.args.statement.now c.args.table.now c.columns-layout.result.now c.columns-layout.ensures
    one c.in_ok-columns.columns c.in_ok-columns.ensures c.as_slice.result.now c.as_slice.ensures c.as_slice-rows.result.now c.as_slice-rows.ensures (rows_of c.in_ok-values.values) c.in_ok-values.ensures c.as_slice-2.result.now c.as_slice-2.ensures c.may_write.result c.may_write.ensures c.if-not-may_write.true)

pub returns-then-rows-gt-MAX_INSERTED_ROWS : goal.returns-then-rows-gt-MAX_INSERTED_ROWS
returns-then-rows-gt-MAX_INSERTED_ROWS c = λ one.
    inr (too_many c.args.rights.now c.args.statement.now c.args.table.now c.columns-layout.result.now c.columns-layout.ensures
    one c.in_ok-columns.columns c.in_ok-columns.ensures c.as_slice.result.now c.as_slice.ensures c.as_slice-rows.result.now c.as_slice-rows.ensures (rows_of c.in_ok-values.values) c.in_ok-values.ensures c.as_slice-2.result.now c.as_slice-2.ensures c.may_write.result c.may_write.ensures c.if-not-may_write.false c.if-rows-gt-MAX_INSERTED_ROWS.true)

pub returns : goal.returns
returns c = λ one.
    passes c.args.rights.now c.args.statement.now c.args.table.now c.columns-layout.result.now c.columns-layout.ensures
    one c.in_ok-columns.columns c.in_ok-columns.ensures c.as_slice.result.now c.as_slice.ensures c.as_slice-rows.result.now c.as_slice-rows.ensures (rows_of c.in_ok-values.values) c.in_ok-values.ensures c.as_slice-2.result.now c.as_slice-2.ensures c.may_write.result c.may_write.ensures c.if-not-may_write.false c.if-rows-gt-MAX_INSERTED_ROWS.false
