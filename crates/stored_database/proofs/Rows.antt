-- Each row has a record of its own.
use Rattle.std.proofs.Common.{◌≡◌, ℕ, refl, ap}
use Rattle.std.proofs.lemmas.List.{append_cancel_left}
use Rattle.sql_types.specs.Row.{Row}
use Rattle.sql_ast.specs.Layout.{Layout, IsLayout}
use Rattle.sql_ast.specs.Fits.{FitsTable}
use Rattle.store.specs.Records.{Record}
use Rattle.row_codec.specs.Rows.{row_prefix, row_key, row_value}
use Rattle.row_codec.proofs.Unique.{same_row_spelled}
use Rattle.stored_database.specs.RecordFormat.{row_record}

pub one_row : (id : ℕ) (layout : Layout) → IsLayout layout → (a b : Row) → FitsTable layout a → FitsTable layout b → row_record id layout a ≡ row_record id layout b → a ≡ b
one_row id layout is a b p q h =
    let keys : row_key layout a ≡ row_key layout b = append_cancel_left (row_prefix id) (row_key layout a) (row_key layout b) (ap (λ (e : Record). e.0) h) in
    let values : row_value layout a ≡ row_value layout b = ap (λ (e : Record). e.1) h in
    same_row_spelled layout (row_key layout a) (row_value layout a) a b is
    (record { fits = p; key_spelled = refl; value_spelled = refl }) (record { fits = q; key_spelled = keys; value_spelled = values })
