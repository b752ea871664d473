-- Each table has a record of its own.
use Rattle.std.proofs.Common.{◌≡◌, ◌<◌, ◌≤◌, ◌^◌, ℕ, ◌+◌, ◌/◌, ◌%◌, nat_eq, Bool, true, false, if◌then◌else◌, List, [], ◌∷◌, ◌++◌, flat_map, length, refl, ap, sym, ◌∙◌, append_assoc, arith}
use Rattle.sql_types.specs.Name.{IsUtf8Name}
use Rattle.sql_ast.specs.declared.columns.Column.{Column}
use Rattle.sql_ast.specs.declared.columns.ColumnType.{ColumnType}
use Rattle.sql_ast.specs.declared.columns.ColumnType.TheVariants as type
use Rattle.sql_ast.specs.Layout.{Layout}
use Rattle.store.specs.Records.{Record}
use Rattle.abstract_database.specs.Lists.{TheName}
use Rattle.abstract_database.specs.Database.{TableOf}
use Rattle.abstract_database.specs.Whole.{Each, max_tables}
use Rattle.stored_database.specs.Definitions.{TableDefinition}
use Rattle.stored_database.specs.RecordFormat.{ended, flag, bit, type_number, column_bytes, layout_bytes, table_flags, table_record}
use Rattle.stored_database.specs.Items.{IsStoredTable}
use Rattle.stored_database.proofs.Lists.{SameFront, same_cons, first_of_each, rest_of_each}
use Rattle.stored_database.proofs.Names.{no_zero_of, same_ended, same_bit, same_number}

-- ---- columns

abbrev type_at : ℕ → ColumnType
type_at n = if nat_eq n 1 then type.BigInt else if nat_eq n 2 then type.Text else type.Boolean

type_read : (t : ColumnType) → type_at (type_number t) ≡ t
type_read type.BigInt = refl
type_read type.Text = refl
type_read type.Boolean = refl

abbrev column_with : TheName → ColumnType → Bool → Column
column_with name kind not_null = record { name = name; column_type = kind; not_null = not_null }

same_column : (a b : Column) → a.name ≡ b.name → type_number a.column_type ≡ type_number b.column_type → bit a.not_null ≡ bit b.not_null → a ≡ b
same_column a b p q r = all p (sym (type_read a.column_type) ∙ ap type_at q ∙ type_read b.column_type) (same_bit a.not_null b.not_null r) where
  all : {n m : TheName} {s t : ColumnType} {x y : Bool} → n ≡ m → s ≡ t → x ≡ y → column_with n s x ≡ column_with m t y
  all p q r = cc

abbrev IsNamed : Column → Type 0
IsNamed c = IsUtf8Name c.name

-- the bytes of a column and what follows
one_by_one : (c : Column) (cs : List Column) (r : List ℕ)
    → flat_map column_bytes (c ∷ cs) ++ r ≡ ended c.name ++ (type_number c.column_type ∷ bit c.not_null ∷ (flat_map column_bytes cs ++ r))
one_by_one c cs r =
    append_assoc (column_bytes c) (flat_map column_bytes cs) r
    ∙ append_assoc (ended c.name) (type_number c.column_type ∷ bit c.not_null ∷ []) (flat_map column_bytes cs ++ r)

same_columns : (xs ys : List Column) (r s : List ℕ) → Each IsNamed xs → Each IsNamed ys → length xs ≡ length ys
    → flat_map column_bytes xs ++ r ≡ flat_map column_bytes ys ++ s → SameFront xs ys r s
same_columns [] [] r s p q n h = record { item = refl; rest = h }
same_columns [] (d ∷ ds) r s p q n h = absurd (omega (arith, n))
same_columns (c ∷ cs) [] r s p q n h = absurd (omega (arith, n))
same_columns (c ∷ cs) (d ∷ ds) r s p q n h =
    let front = sym (one_by_one c cs r) ∙ h ∙ one_by_one d ds s in
    let parts = same_ended c.name d.name _ _ (no_zero_of c.name (first_of_each IsNamed c cs p)) (no_zero_of d.name (first_of_each IsNamed d ds q)) front in
    let tail : type_number c.column_type ∷ bit c.not_null ∷ (flat_map column_bytes cs ++ r) ≡ type_number d.column_type ∷ bit d.not_null ∷ (flat_map column_bytes ds ++ s) = parts.rest in
    let types : type_number c.column_type ≡ type_number d.column_type = cc in
    let bits : bit c.not_null ≡ bit d.not_null = cc in
    let later : flat_map column_bytes cs ++ r ≡ flat_map column_bytes ds ++ s = cc in
    let more = same_columns cs ds r s (rest_of_each IsNamed c cs p) (rest_of_each IsNamed d ds q) (omega (arith, n)) later in
    record { item = same_cons (same_column c d parts.item types bits) more.item; rest = more.rest }

abbrev layout_with : List Column → List ℕ → Layout
layout_with columns key = record { columns = columns; key = key }

same_layout : (a b : Layout) → Each IsNamed a.columns → Each IsNamed b.columns → layout_bytes a ≡ layout_bytes b → a ≡ b
same_layout a b p q h =
    let widths : length a.columns ≡ length b.columns = cc in
    let tails : flat_map column_bytes a.columns ++ length a.key ∷ a.key ≡ flat_map column_bytes b.columns ++ length b.key ∷ b.key = cc in
    let same = same_columns a.columns b.columns (length a.key ∷ a.key) (length b.key ∷ b.key) p q widths tails in
    let last : length a.key ∷ a.key ≡ length b.key ∷ b.key = same.rest in
    let keys : a.key ≡ b.key = cc in
    both same.item keys
  where
    both : {cs ds : List Column} {k l : List ℕ} → cs ≡ ds → k ≡ l → layout_with cs k ≡ layout_with ds l
    both p q = cc

-- ---- tables

abbrev flags_of : Bool → Bool → ℕ
flags_of s f = flag s 1 + flag f 2

secured_read : (s f : Bool) → nat_eq (flags_of s f % 2) 1 ≡ s
secured_read true true = refl
secured_read true false = refl
secured_read false true = refl
secured_read false false = refl

forced_read : (s f : Bool) → nat_eq (flags_of s f / 2) 1 ≡ f
forced_read true true = refl
forced_read true false = refl
forced_read false true = refl
forced_read false false = refl

abbrev table_of : TheName → TheName → Layout → Bool → Bool → TableOf
table_of name owner layout secured forced = record { name = name; owner = owner; layout = layout; row_security = secured; forced = forced }

same_definition : (a b : TableOf) → a.name ≡ b.name → a.owner ≡ b.owner → a.layout ≡ b.layout → table_flags a ≡ table_flags b → a ≡ b
same_definition a b p q r s = all p q r
    (sym (secured_read a.row_security a.forced) ∙ ap (λ (n : ℕ). nat_eq (n % 2) 1) s ∙ secured_read b.row_security b.forced)
    (sym (forced_read a.row_security a.forced) ∙ ap (λ (n : ℕ). nat_eq (n / 2) 1) s ∙ forced_read b.row_security b.forced) where
      all : {n m o l : TheName} {c d : Layout} {x y x' y' : Bool} → n ≡ m → o ≡ l → c ≡ d → x ≡ y → x' ≡ y' → table_of n o c x x' ≡ table_of m l d y y'
      all p q r s t = cc

pub small_id : (id : ℕ) → id ≤ max_tables → id < 256 ^ 4
small_id id h = omega (arith, h)

pub one_table : (a b : TableDefinition) → IsStoredTable a → IsStoredTable b → table_record a ≡ table_record b → (a.id ≡ b.id) × (a.definition ≡ b.definition)
one_table a b p q h =
    let keys : 3 ∷ a.definition.name ≡ 3 ∷ b.definition.name = ap (λ (e : Record). e.0) h in
    let names : a.definition.name ≡ b.definition.name = cc in
    let ids = same_number 4 a.id b.id _ _ (small_id a.id p.id) (small_id b.id q.id) (ap (λ (e : Record). e.1) h) in
    let parts = same_ended a.definition.owner b.definition.owner _ _ (no_zero_of a.definition.owner p.owner) (no_zero_of b.definition.owner q.owner) ids.rest in
    let tail : table_flags a.definition ∷ layout_bytes a.definition.layout ≡ table_flags b.definition ∷ layout_bytes b.definition.layout = parts.rest in
    let flags : table_flags a.definition ≡ table_flags b.definition = cc in
    let layouts : layout_bytes a.definition.layout ≡ layout_bytes b.definition.layout = cc in
    (ids.item, same_definition a.definition b.definition names parts.item (same_layout a.definition.layout b.definition.layout p.columns q.columns layouts) flags)
