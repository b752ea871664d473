use Rattle.std.proofs.Common.{◌≡◌, true, sym, ◌∙◌, arith}
use Rattle.std.specs.List.{list_any}
use Rattle.stored_database.specs.RecordFormat.{rows_prefix}
use Rattle.stored_database.specs.Records.{is_orphan_row, is_row_key_of}
use Rattle.catalogue_loading.proofs.KnownPrefixes.{known, row_front, taken_whole}
use Rattle.catalogue_loading.proofs.orphan_records.known_row.Goals as goal

pub slice_bounds-result-end : goal.slice_bounds-result-end
slice_bounds-result-end c =
    let owned : list_any (is_row_key_of c.args.key.now) c.args.ids.now ≡ true = sym c.is_row_of_a_table.ensures ∙ c.if-is_row_of_a_table.true in
    taken_whole (is_orphan_row c.args.ids.now) rows_prefix 5 c.args.key.now (row_front c.args.ids.now c.args.key.now owned)

pub returns-then-is_row_of_a_table : goal.returns-then-is_row_of_a_table
returns-then-is_row_of_a_table c =
    let owned : list_any (is_row_key_of c.args.key.now) c.args.ids.now ≡ true = sym c.is_row_of_a_table.ensures ∙ c.if-is_row_of_a_table.true in
    known (is_orphan_row c.args.ids.now) rows_prefix 5 c.args.key.now (row_front c.args.ids.now c.args.key.now owned) (omega arith)
