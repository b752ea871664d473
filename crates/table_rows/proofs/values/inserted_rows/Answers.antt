use Rattle.std.proofs.Common.{arith}
use Rattle.expressions.specs.Rows.{names_of}
use Rattle.expressions.specs.Stages.{each}
use Rattle.expressions.proofs.Each.{begins, slice_goes_on, slice_ends}
use Rattle.abstract_database.specs.Changes.{inserted_row}
use Rattle.table_rows.specs.Failures.{Gives}
use Rattle.table_rows.specs.Targets.{terms_in}
use Rattle.table_rows.proofs.Loops.{each_failed}
use Rattle.table_rows.proofs.MapReads.{ended}
use Rattle.table_rows.proofs.values.inserted_rows.Goals as goal

pub loop-row-init : goal.loop-row-init
loop-row-init c = rw c.new-rows.ensures (begins _ _)

pub returns-in_err-inserted_row : goal.returns-in_err-inserted_row
returns-in_err-inserted_row c =
    ended c.in_err-inserted_row.field-0.0 (λ r. Gives r (each (λ row. inserted_row c.args.columns.now (names_of c.args.users.now) c.args.insertion.now.columns.now (terms_in row)) c.args.insertion.now.rows.now))
    c.from_residual.result c.from_residual.ensures.1
    (each_failed _ _ _ _ _ c.in_err-inserted_row.field-0.0 c.loop-row.invariant c.row-item.is (omega arith) (rw c.as_slice-values.ensures at c.in_err-inserted_row.ensures))

pub loop-row-preserved : goal.loop-row-preserved
loop-row-preserved c = rw c.in_ok-push.ensures.ok (slice_goes_on _ _ _ _ _ _ c.loop-row.invariant c.row-item.is (omega arith) (rw c.as_slice-values.ensures at c.in_ok-inserted_row.ensures))

pub returns : goal.returns
returns c = slice_ends _ _ _ _ c.loop-row.invariant c.loop-row-test.false
