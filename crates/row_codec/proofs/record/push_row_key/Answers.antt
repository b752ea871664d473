use Rattle.std.proofs.Common.{◌++◌, ap, ◌∙◌}
use Rattle.row_codec.specs.Cells.{key_cell}
use Rattle.sql_types.specs.Row.{value_at}
use Rattle.row_codec.proofs.RecordFormat.{appended, key_bytes-more}
use Rattle.row_codec.proofs.record.push_row_key.Goals as goal

pub loop-index-preserved : goal.loop-index-preserved
loop-index-preserved c =
    appended _ _ _ _ _ _ c.loop-index.invariant (c.in_ok-push_key_cell.ensures.ok ∙ ap (λ v. c.loop-index.out.items ++ key_cell v) c.value.ensures)
    (key_bytes-more (value_at c.args.row.now) _ _ 0 c.loop-index-test.true)
