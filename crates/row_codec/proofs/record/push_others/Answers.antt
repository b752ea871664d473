use Rattle.std.proofs.Common.{◌<◌, get_or, length, true, false, arith, sym, ap, ◌∙◌}
use Rattle.sql_types.specs.Value.{owned}
use Rattle.sql_types.specs.declared.value.Value.TheVariants.{Null}
use Rattle.sql_ast.specs.Rows.{value_cell_size}
use Rattle.row_codec.proofs.RecordFormat.{cells_grow, record_size-within}
use Rattle.row_codec.proofs.LentValues.{value_there, get_or_same}
use Rattle.row_codec.proofs.record.push_others.Goals as goal
use Rattle.row_codec.proofs.record.push_others.Goals.{then-not-is_in_key+in_ok-push_value_cell, else-not-is_in_key}

pub push_value_cell-requires : goal.push_value_cell-requires
push_value_cell-requires c =
    let v = owned c.value.result in
    let wide = c.requires.wide in
    let inside : c.loop-index.index < length c.args.row.now = omega (arith, wide, c.loop-index-test.true) in
    let within = record_size-within c.args.key.now c.args.row.now c.loop-index.index v inside (sym c.is_in_key.ensures ∙ c.if-not-is_in_key.true) in
    let at = ap value_cell_size (c.value.ensures ∙ value_there c.args.row.now c.loop-index.index v inside) in
    let small = c.requires.small in
    omega (arith, within, at, small)

pub loop-index-preserved : goal.loop-index-preserved
loop-index-preserved c =
    let wide = c.requires.wide in
    let inside : c.loop-index.index < length c.args.row.now = omega (arith, wide, c.loop-index-test.true) in
    let grow = cells_grow c.args.key.now c.args.row.now c.loop-index.index c.args.out.now.items c.loop-index.out.items c.if-not-is_in_key.out.items in
    elim c.if-not-is_in_key.branch [
      | then-not-is_in_key+in_ok-push_value_cell w ↦ grow false (owned w.value.result) inside (w.value.ensures ∙ value_there c.args.row.now c.loop-index.index (owned w.value.result) inside) (sym w.if-not-is_in_key.true ∙ c.is_in_key.ensures) c.loop-index.invariant
          (ap (λ o. o.items) w.out-is ∙ w.in_ok-push_value_cell.ensures.ok)
      | else-not-is_in_key w ↦ grow true (get_or c.args.row.now c.loop-index.index Null) inside (get_or_same c.args.row.now c.loop-index.index inside) (sym w.if-not-is_in_key.false ∙ c.is_in_key.ensures) c.loop-index.invariant
          (ap (λ o. o.items) w.out-is)
    ]
