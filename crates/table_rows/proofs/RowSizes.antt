-- The sizes of the records of rows.
use Rattle.std.proofs.Common.{◌≡◌, ◌∙◌, ◌≤◌, ℕ, List, ◌++◌, length, take, drop, ap, arith, length-append}
use Rattle.std.proofs.lemmas.List.{take_at, drop_at}
use Rattle.sql_types.specs.Row.{Row}
use Rattle.sql_ast.specs.Layout.{Layout}
use Rattle.sql_ast.specs.Rows.{KeepsLimits}
use Rattle.store.specs.Records.{IsKeySize}
use Rattle.row_codec.specs.Rows.{row_prefix, row_key}
use Rattle.row_codec.proofs.Lengths.{row_key_long}
use Rattle.stored_database.specs.RecordFormat.{row_record}
use Rattle.stored_database.proofs.Lengths.{prefix_long}

-- the key of a row that keeps to the limits is one that a store takes
pub key_size : (id : ℕ) (layout : Layout) (row : Row) → KeepsLimits layout row → IsKeySize (row_record id layout row).0
key_size id layout row h =
    let one = length-append (row_prefix id) (row_key layout row) in
    let long = prefix_long id in
    let key = h.key in
    (omega (arith, one), omega (arith, one, long, key, row_key_long layout row))

-- bytes of a record, of which so many are its key
pub record AreRecord (bytes : List ℕ) (n : ℕ) (key value : List ℕ) : Type 0 where
  pub inside : n ≤ length bytes
  pub front : take n bytes ≡ key
  pub rest : drop n bytes ≡ value

-- a value that is appended to its key
pub record_made : (bytes front key value : List ℕ) (n : ℕ) → bytes ≡ front ++ value → front ≡ key → length front ≡ n → AreRecord bytes n key value
record_made bytes front key value n whole is long = record {
  inside = let one = length-append front value in let all = ap (λ (xs : List ℕ). length xs) whole in omega (arith, one, all, long);
  front = ap (λ (xs : List ℕ). take n xs) whole ∙ take_at front value n long ∙ is;
  rest = ap (λ (xs : List ℕ). drop n xs) whole ∙ drop_at front value n long;
}
