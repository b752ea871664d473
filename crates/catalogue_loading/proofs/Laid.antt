-- What the records of tables spell.
use Rattle.std.proofs.Common.{◌≡◌, ◌<◌, ◌^◌, ◌+◌, ℕ, Bool, List, ◌∷◌, ◌++◌, flat_map, length, ap, sym, ◌∙◌, subst, arith}
use Rattle.byteorder.specs.Endian.{big_bytes}
use Rattle.sql_types.specs.Name.{IsUtf8Name}
use Rattle.sql_ast.specs.declared.columns.Column.{Column}
use Rattle.sql_ast.specs.Layout.{Layout, IsLayout}
use Rattle.store.specs.Records.{Record}
use Rattle.stored_database.specs.Definitions.{TableDefinition}
use Rattle.stored_database.specs.RecordFormat.{ended, flag, column_bytes, layout_bytes, table_flags, table_record}
use Rattle.catalogue_loading.specs.Decoding.{IsSpelled, IsFront, IsOnlyFront}
use Rattle.catalogue_loading.specs.RecordParts.{AreParts, HasName, IsStoredLayout, IsTableAlone, key_bytes}

abbrev layout_with : List Column → List ℕ → Layout
layout_with columns key = record { columns = columns; key = key }

-- a layout of the columns and the key that were read
pub layout_whole : (bytes rest after : List ℕ) (count : ℕ) (columns : List Column) (key : List ℕ) (layout : Layout) → bytes ≡ count ∷ rest
    → IsFront (AreParts HasName count) (flat_map column_bytes) rest columns after → key_bytes key ≡ after → IsLayout (layout_with columns key) → layout ≡ layout_with columns key
    → IsSpelled IsStoredLayout layout_bytes bytes layout
layout_whole bytes rest after count columns key layout parts front key_is is_layout is =
    subst (λ (l : Layout). IsSpelled IsStoredLayout layout_bytes bytes l) (sym is)
    (record { valid = record { layout = is_layout; names = front.valid.valid }; spelled = spelled })
  where
    spelled : length columns ∷ (flat_map column_bytes columns ++ key_bytes key) ≡ bytes
    spelled =
        ap (λ (n : ℕ). n ∷ (flat_map column_bytes columns ++ key_bytes key)) front.valid.counted
        ∙ ap (λ (zs : List ℕ). count ∷ (flat_map column_bytes columns ++ zs)) key_is
        ∙ ap (λ (zs : List ℕ). count ∷ zs) (sym front.spelled)
        ∙ sym parts

-- after the number and the owner of a table stand its flags and its layout
pub after_owner : (entry : Record) (value rest owner after : List ℕ) (id : ℕ) → value ≡ entry.1
    → ((n : ℕ) (other : List ℕ) → n < 2 ^ 32 → value ≡ big_bytes 4 n ++ other → (id ≡ n) × (rest ≡ other)) → IsOnlyFront IsUtf8Name ended rest owner after
    → (t : TableDefinition) → IsSpelled IsTableAlone table_record entry t → after ≡ table_flags t.definition ∷ layout_bytes t.definition.layout
after_owner entry value rest owner after id value_is only next t is =
    let behind : List ℕ = table_flags t.definition ∷ layout_bytes t.definition.layout in
    let first = only t.id (ended t.definition.owner ++ behind) (omega (arith, is.valid.stored.id)) (value_is ∙ sym (ap (λ (e : Record). e.1) is.spelled)) in
    (next t.definition.owner behind (record { valid = is.valid.stored.owner; spelled = first.1 })).1

-- flags that are those of no table
pub no_flags : (entry : Record) (value rest owner after : List ℕ) (id flags : ℕ) (layout : List ℕ) → value ≡ entry.1
    → ((n : ℕ) (other : List ℕ) → n < 2 ^ 32 → value ≡ big_bytes 4 n ++ other → (id ≡ n) × (rest ≡ other)) → IsOnlyFront IsUtf8Name ended rest owner after
    → after ≡ flags ∷ layout → ((enabled forced : Bool) → flag enabled 1 + flag forced 2 ≡ flags → ⊥)
    → (t : TableDefinition) → IsSpelled IsTableAlone table_record entry t → ⊥
no_flags entry value rest owner after id flags layout value_is only next parts none t is =
    none t.definition.row_security t.definition.forced (heads (sym (after_owner entry value rest owner after id value_is only next t is) ∙ parts))
  where
    heads : {a b : ℕ} {x y : List ℕ} → a ∷ x ≡ b ∷ y → a ≡ b
    heads h = cc
