use Rattle.std.proofs.Common.{arith, sym}
use Rattle.expressions.specs.Rows.{names_of, value_on}
use Rattle.expressions.specs.Stages.{each}
use Rattle.expressions.proofs.Each.{begins, slice_goes_on, slice_ends}
use Rattle.store.specs.declared.stop.StatementError.TheVariants.{Refused}
use Rattle.table_rows.specs.Failures.{Gives}
use Rattle.table_rows.proofs.Loops.{each_failed}
use Rattle.table_rows.proofs.MapReads.{ended}
use Rattle.table_rows.proofs.values.values_on.Goals as goal

pub loop-expression-init : goal.loop-expression-init
loop-expression-init g c = rw c.new-values.ensures (begins _ _)

pub returns-in_err-value : goal.returns-in_err-value
returns-in_err-value g c =
    ended (Refused c.in_err-value.field-0.0) (λ r. Gives r (each (value_on (g.R.RowView.cell c.args.row.now) (names_of c.args.users.now)) c.args.list.now)) c.from_residual.result c.from_residual.ensures.1
    (each_failed _ _ _ _ _ (Refused c.in_err-value.field-0.0) c.loop-expression.invariant c.expression-item.is (omega arith) (sym c.in_err-value.ensures))

pub loop-expression-preserved : goal.loop-expression-preserved
loop-expression-preserved g c = rw c.in_ok-push.ensures.ok (slice_goes_on _ _ _ _ _ _ c.loop-expression.invariant c.expression-item.is (omega arith) (sym c.in_ok-value.ensures))

pub returns : goal.returns
returns g c = slice_ends _ _ _ _ c.loop-expression.invariant c.loop-expression-test.false
