use Rattle.std.proofs.Common.{◌≡◌, ◌∙◌, arith, ap, List}
use Rattle.sql_types.specs.Value.{owned}
use Rattle.sql_types.specs.declared.value.Value.{Value}
use Rattle.abstract_database.specs.Changes.{value_beside}
use Rattle.table_rows.proofs.RowValues.{one_replaced, all_replaced}
use Rattle.table_rows.proofs.values.replaced.Goals as goal

pub loop-index-preserved : goal.loop-index-preserved
loop-index-preserved g c =
    let old = owned c.value-old.result in
    rw c.in_ok-push.ensures.ok
    (one_replaced (g.R.RowView.cell c.args.row.now 0) c.args.columns.now c.args.values.now c.loop-index.new c.loop-index.index old (owned c.value_beside-value.result) c.loop-index.invariant c.value-old.ensures
    (c.value_beside-value.ensures ∙ ap (λ (vs : List Value). value_beside c.loop-index.index c.args.columns.now vs old) c.as_slice-given.ensures))

pub returns : goal.returns
returns g c =
    let ended : c.loop-index.index ≡ c.args.width = omega arith in
    all_replaced (g.R.RowView.cell c.args.row.now) c.args.columns.now c.args.values.now c.loop-index.new c.args.width (rw (← ended) c.loop-index.invariant)
