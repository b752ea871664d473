use Rattle.std.proofs.Common.{◌≡◌, ◌∙◌, ap, refl, inr, Bor, true, false, map, length, flat_map, bytes_eq, rules}
use Rattle.std.specs.List.{list_any, list_all}
use Rattle.sql_ast.specs.declared.statement.ColumnDefinition.{ColumnDefinition}
use Rattle.sql_ast.specs.Layout.{Layout}
use Rattle.abstract_database.specs.Lists.{TheName}
use Rattle.abstract_database.specs.Definitions.{definitions_of, key_names, column_of, index_of, layout_of}
use Rattle.schema_statements.proofs.LayoutLemmas.{columns_double, unfound, too_many, made, once_of, key_once_of, places_of, few_of, handed_on, whole_layout}
use Rattle.schema_statements.proofs.new_columns.new_columns.Goals as goal

pub returns-then-branch : goal.returns-then-branch
returns-then-branch c some =
    let ds : map (λ (d : Bor ColumnDefinition). d.now) c.deref.result.now ≡ definitions_of c.args.elements.now = ap (map (λ (d : Bor ColumnDefinition). d.now)) c.deref.ensures.value ∙ c.in_ok-definitions.ensures in
    inr (columns_double c.args.elements.now c.args.table_count (once_of c.args.elements.now c.deref.result.now _ true ds c.in_ok-has_double_column.ensures c.if-branch.true))

pub returns-in_err-indexes : goal.returns-in_err-indexes
returns-in_err-indexes c some =
    let elements = c.args.elements.now in
    let ds : map (λ (d : Bor ColumnDefinition). d.now) c.deref.result.now ≡ definitions_of elements = ap (map (λ (d : Bor ColumnDefinition). d.now)) c.deref.ensures.value ∙ c.in_ok-definitions.ensures in
    let ks : map (λ (n : Bor TheName). n.now) c.deref-2.result.now ≡ key_names elements = ap (map (λ (n : Bor TheName). n.now)) c.deref-2.ensures.value ∙ c.in_ok-key.ensures in
    let ds3 : map (λ (d : Bor ColumnDefinition). d.now) c.deref-3.result.now ≡ definitions_of elements = ap (map (λ (d : Bor ColumnDefinition). d.now)) c.deref-3.ensures.value ∙ c.in_ok-definitions.ensures in
    let ks4 : map (λ (n : Bor TheName). n.now) c.deref-4.result.now ≡ key_names elements = ap (map (λ (n : Bor TheName). n.now)) c.deref-4.ensures.value ∙ c.in_ok-key.ensures in
    let once = once_of elements c.deref.result.now _ false ds c.in_ok-has_double_column.ensures c.if-branch.false in
    let key_once = key_once_of elements c.deref-2.result.now _ false ks c.in_ok-has_double.ensures c.if-branch-2.false in
    handed_on _ c.from_residual-in_err-indexes.result c.in_err-indexes.field-0.0 _ c.from_residual-in_err-indexes.ensures.1
    (unfound elements c.args.table_count c.in_err-indexes.field-0.0 once key_once (rw (← ds3, ← ks4) c.in_err-indexes.ensures))

pub returns-then-not-has_room : goal.returns-then-not-has_room
returns-then-not-has_room c some =
    let elements = c.args.elements.now in
    let ds : map (λ (d : Bor ColumnDefinition). d.now) c.deref.result.now ≡ definitions_of elements = ap (map (λ (d : Bor ColumnDefinition). d.now)) c.deref.ensures.value ∙ c.in_ok-definitions.ensures in
    let ks : map (λ (n : Bor TheName). n.now) c.deref-2.result.now ≡ key_names elements = ap (map (λ (n : Bor TheName). n.now)) c.deref-2.ensures.value ∙ c.in_ok-key.ensures in
    let ds3 : map (λ (d : Bor ColumnDefinition). d.now) c.deref-3.result.now ≡ definitions_of elements = ap (map (λ (d : Bor ColumnDefinition). d.now)) c.deref-3.ensures.value ∙ c.in_ok-definitions.ensures in
    let ks4 : map (λ (n : Bor TheName). n.now) c.deref-4.result.now ≡ key_names elements = ap (map (λ (n : Bor TheName). n.now)) c.deref-4.ensures.value ∙ c.in_ok-key.ensures in
    let once = once_of elements c.deref.result.now _ false ds c.in_ok-has_double_column.ensures c.if-branch.false in
    let key_once = key_once_of elements c.deref-2.result.now _ false ks c.in_ok-has_double.ensures c.if-branch-2.false in
    let resolved = places_of c.in_ok-indexes.indexes (λ v. v.items) (flat_map (index_of (map (λ (d : Bor ColumnDefinition). d.now) c.deref-3.result.now)) (map (λ (n : Bor TheName). n.now) c.deref-4.result.now)) _ c.in_ok-indexes.ensures in
    let found : list_all (λ name. list_any (λ d. bytes_eq d.column name) (definitions_of elements)) (key_names elements) ≡ true = rw (← ds3, ← ks4) resolved.0 in
    let count : c.len.result ≡ length c.in_ok-definitions.definitions.items = search rules in
    let full = few_of elements c.in_ok-definitions.definitions.items c.len.result c.args.table_count c.has_room.result c.in_ok-definitions.ensures count c.has_room.ensures in
    inr (too_many elements c.args.table_count once key_once found (full ∙ c.if-not-has_room.true))

pub returns-in-Some : goal.returns-in-Some
returns-in-Some c some =
    let elements = c.args.elements.now in
    let ds : map (λ (d : Bor ColumnDefinition). d.now) c.deref.result.now ≡ definitions_of elements = ap (map (λ (d : Bor ColumnDefinition). d.now)) c.deref.ensures.value ∙ c.in_ok-definitions.ensures in
    let ks : map (λ (n : Bor TheName). n.now) c.deref-2.result.now ≡ key_names elements = ap (map (λ (n : Bor TheName). n.now)) c.deref-2.ensures.value ∙ c.in_ok-key.ensures in
    let ds3 : map (λ (d : Bor ColumnDefinition). d.now) c.deref-3.result.now ≡ definitions_of elements = ap (map (λ (d : Bor ColumnDefinition). d.now)) c.deref-3.ensures.value ∙ c.in_ok-definitions.ensures in
    let ks4 : map (λ (n : Bor TheName). n.now) c.deref-4.result.now ≡ key_names elements = ap (map (λ (n : Bor TheName). n.now)) c.deref-4.ensures.value ∙ c.in_ok-key.ensures in
    let once = once_of elements c.deref.result.now _ false ds c.in_ok-has_double_column.ensures c.if-branch.false in
    let key_once = key_once_of elements c.deref-2.result.now _ false ks c.in_ok-has_double.ensures c.if-branch-2.false in
    let resolved = places_of c.in_ok-indexes.indexes (λ v. v.items) (flat_map (index_of (map (λ (d : Bor ColumnDefinition). d.now) c.deref-3.result.now)) (map (λ (n : Bor TheName). n.now) c.deref-4.result.now)) _ c.in_ok-indexes.ensures in
    let found : list_all (λ name. list_any (λ d. bytes_eq d.column name) (definitions_of elements)) (key_names elements) ≡ true = rw (← ds3, ← ks4) resolved.0 in
    let count : c.len.result ≡ length c.in_ok-definitions.definitions.items = search rules in
    let full = few_of elements c.in_ok-definitions.definitions.items c.len.result c.args.table_count c.has_room.result c.in_ok-definitions.ensures count c.has_room.ensures in
    let ds5 : map (λ (d : Bor ColumnDefinition). d.now) c.deref-5.result.now ≡ definitions_of elements = ap (map (λ (d : Bor ColumnDefinition). d.now)) c.deref-5.ensures.value ∙ c.in_ok-definitions.ensures in
    let ks6 : map (λ (n : Bor TheName). n.now) c.deref-6.result.now ≡ key_names elements = ap (map (λ (n : Bor TheName). n.now)) c.deref-6.ensures.value ∙ c.in_ok-key.ensures in
    let columns : c.in_ok-columns.columns ≡ map (column_of (key_names elements)) (definitions_of elements) = c.in_ok-columns.ensures ∙ rw (ds5, ks6) refl in
    let key : c.from_vec.result ≡ flat_map (index_of (definitions_of elements)) (key_names elements) = rw (c.from_vec.ensures, resolved.1, ds3, ks4) refl in
    let is : ◌≡◌ {A = Layout} (record { columns = c.in_ok-columns.columns; key = c.from_vec.result }) (layout_of elements) = rw (columns, key) refl in
    rw (made elements c.args.table_count once key_once found (full ∙ c.if-not-has_room.false)) (c.in-Some.ensures.1 ∙ is)

pub returns : goal.returns
returns c some =
    let elements = c.args.elements.now in
    let ds : map (λ (d : Bor ColumnDefinition). d.now) c.deref.result.now ≡ definitions_of elements = ap (map (λ (d : Bor ColumnDefinition). d.now)) c.deref.ensures.value ∙ c.in_ok-definitions.ensures in
    let ks : map (λ (n : Bor TheName). n.now) c.deref-2.result.now ≡ key_names elements = ap (map (λ (n : Bor TheName). n.now)) c.deref-2.ensures.value ∙ c.in_ok-key.ensures in
    let ds3 : map (λ (d : Bor ColumnDefinition). d.now) c.deref-3.result.now ≡ definitions_of elements = ap (map (λ (d : Bor ColumnDefinition). d.now)) c.deref-3.ensures.value ∙ c.in_ok-definitions.ensures in
    let ks4 : map (λ (n : Bor TheName). n.now) c.deref-4.result.now ≡ key_names elements = ap (map (λ (n : Bor TheName). n.now)) c.deref-4.ensures.value ∙ c.in_ok-key.ensures in
    let once = once_of elements c.deref.result.now _ false ds c.in_ok-has_double_column.ensures c.if-branch.false in
    let key_once = key_once_of elements c.deref-2.result.now _ false ks c.in_ok-has_double.ensures c.if-branch-2.false in
    let resolved = places_of c.in_ok-indexes.indexes (λ v. v.items) (flat_map (index_of (map (λ (d : Bor ColumnDefinition). d.now) c.deref-3.result.now)) (map (λ (n : Bor TheName). n.now) c.deref-4.result.now)) _ c.in_ok-indexes.ensures in
    let found : list_all (λ name. list_any (λ d. bytes_eq d.column name) (definitions_of elements)) (key_names elements) ≡ true = rw (← ds3, ← ks4) resolved.0 in
    let count : c.len.result ≡ length c.in_ok-definitions.definitions.items = search rules in
    let full = few_of elements c.in_ok-definitions.definitions.items c.len.result c.args.table_count c.has_room.result c.in_ok-definitions.ensures count c.has_room.ensures in
    let ds5 : map (λ (d : Bor ColumnDefinition). d.now) c.deref-5.result.now ≡ definitions_of elements = ap (map (λ (d : Bor ColumnDefinition). d.now)) c.deref-5.ensures.value ∙ c.in_ok-definitions.ensures in
    let ks6 : map (λ (n : Bor TheName). n.now) c.deref-6.result.now ≡ key_names elements = ap (map (λ (n : Bor TheName). n.now)) c.deref-6.ensures.value ∙ c.in_ok-key.ensures in
    let columns : c.in_ok-columns.columns ≡ map (column_of (key_names elements)) (definitions_of elements) = c.in_ok-columns.ensures ∙ rw (ds5, ks6) refl in
    let key : c.from_vec.result ≡ flat_map (index_of (definitions_of elements)) (key_names elements) = rw (c.from_vec.ensures, resolved.1, ds3, ks4) refl in
    let is : ◌≡◌ {A = Layout} (record { columns = c.in_ok-columns.columns; key = c.from_vec.result }) (layout_of elements) = rw (columns, key) refl in
    absurd (c.in-None.ensures (rw is (whole_layout elements c.args.table_count some once key_once found (full ∙ c.if-not-has_room.false))))
