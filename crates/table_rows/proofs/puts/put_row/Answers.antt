use Rattle.std.proofs.Common.{◌≡◌, ◌≤◌, List, ℕ, length, arith, sym, subst}
use Rattle.row_codec.specs.Rows.{row_value}
use Rattle.stored_database.specs.RecordFormat.{row_record}
use Rattle.store.specs.Records.{IsKeySize}
use Rattle.table_rows.proofs.Putting.{put_concern}
use Rattle.row_codec.proofs.Lengths.{value_size}
use Rattle.table_rows.proofs.RowSizes.{key_size, record_made}
use Rattle.table_rows.proofs.puts.put_row.Goals as goal

-- the key is that of the row's record
pub put_record-requires-clause-key : goal.put_record-requires-clause-key
put_record-requires-clause-key g c =
    let long : length c.in_ok-record.record.items ≡ c.len-key_length.result = omega (arith, c.len-key_length.ensures, c.in_ok-record.record.ok) in
    let made = record_made c.push_row_value.new.out.items c.in_ok-record.record.items (row_record c.args.id c.args.columns.now c.args.row.now).0 (row_value c.args.columns.now c.args.row.now) c.len-key_length.result c.in_ok-push_row_value.ensures c.in_ok-record.ensures long in
    subst IsKeySize (sym made.front) (key_size c.args.id c.args.columns.now c.args.row.now c.requires)

-- and so is the value
pub put_record-requires-clause-value : goal.put_record-requires-clause-value
put_record-requires-clause-value g c =
    let long : length c.in_ok-record.record.items ≡ c.len-key_length.result = omega (arith, c.len-key_length.ensures, c.in_ok-record.record.ok) in
    let made = record_made c.push_row_value.new.out.items c.in_ok-record.record.items (row_record c.args.id c.args.columns.now c.args.row.now).0 (row_value c.args.columns.now c.args.row.now) c.len-key_length.result c.in_ok-push_row_value.ensures c.in_ok-record.ensures long in
    subst (λ (value : List ℕ). length value ≤ 1200) (sym made.rest) (value_size c.args.columns.now c.args.row.now c.requires)

pub returns-clause-concern : goal.returns-clause-concern
returns-clause-concern g c =
    let long : length c.in_ok-record.record.items ≡ c.len-key_length.result = omega (arith, c.len-key_length.ensures, c.in_ok-record.record.ok) in
    let made = record_made c.push_row_value.new.out.items c.in_ok-record.record.items (row_record c.args.id c.args.columns.now c.args.row.now).0 (row_value c.args.columns.now c.args.row.now) c.len-key_length.result c.in_ok-push_row_value.ensures c.in_ok-record.ensures long in
    put_concern c.args.id c.args.columns.now c.args.row.now _ _ c.args.changes.now _ c.in_ok-put_record.ensures.ok made.front
