use Rattle.std.proofs.Common.{◌≡◌, true, [], sym, ◌∙◌, arith}
use Rattle.std.specs.List.{list_any}
use Rattle.stored_database.specs.Records.{is_key_of, is_orphan}
use Rattle.catalogue_loading.proofs.KnownPrefixes.{known, table_front, taken_whole}
use Rattle.catalogue_loading.proofs.orphan_records.known_definition.Goals as goal

pub slice_bounds-result-end-then-is_of_a_table : goal.slice_bounds-result-end-then-is_of_a_table
slice_bounds-result-end-then-is_of_a_table c =
    let owned : list_any (is_key_of c.args.key.now) c.args.ids.now ≡ true = sym c.is_of_a_table.ensures ∙ c.if-is_of_a_table.true in
    taken_whole (is_orphan c.args.ids.now) [] 5 c.args.key.now (table_front c.args.ids.now c.args.key.now owned)

pub returns-then-is_of_a_table : goal.returns-then-is_of_a_table
returns-then-is_of_a_table c =
    let owned : list_any (is_key_of c.args.key.now) c.args.ids.now ≡ true = sym c.is_of_a_table.ensures ∙ c.if-is_of_a_table.true in
    known (is_orphan c.args.ids.now) [] 5 c.args.key.now (table_front c.args.ids.now c.args.key.now owned) (omega arith)
