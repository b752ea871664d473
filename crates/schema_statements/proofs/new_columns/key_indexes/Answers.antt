use Rattle.std.proofs.Common.{◌≡◌, ◌∙◌, sym, ap, refl, inr, bytes_eq, Bor, true, false, map, take, Bool, [], ◌∷◌}
use Rattle.std.specs.List.{list_any, list_all}
use Rattle.std.specs.Option.{option_to_list}
use Rattle.std.proofs.lemmas.List.{map_more}
use Rattle.std.proofs.lemmas.Grind.{flat_map-append}
use Rattle.abstract_database.specs.Definitions.{index_of}
use Rattle.sql_ast.specs.declared.statement.ColumnDefinition.{ColumnDefinition}
use Rattle.abstract_database.specs.Lists.{TheName}
use Rattle.catalogue.proofs.NameLemmas.{any_map}
use Rattle.schema_statements.proofs.ColumnLemmas.{position_map, any_placed, any_unplaced, all_map, fails_at, found_more}
use Rattle.schema_statements.proofs.new_columns.key_indexes.Goals as goal

pub returns-in-None : goal.returns-in-None
returns-in-None c =
    let key = c.args.key.now in
    let definitions = map (λ (d : Bor ColumnDefinition). d.now) c.args.definitions.now in
    let found : TheName → Bool = λ name. list_any (λ d. bytes_eq d.column name) definitions in
    let name : Bor TheName = c.name-item.result in
    let missing : found name.now ≡ false = any_map (λ d. bytes_eq d.column name.now) (λ (d : Bor ColumnDefinition). d.now) c.args.definitions.now ∙ any_unplaced (λ (d : Bor ColumnDefinition). bytes_eq d.now.column name.now) c.args.definitions.now (sym c.in-None.ensures) in
    let none : list_all found (map (λ (n : Bor TheName). n.now) key) ≡ false =
    all_map found (λ (n : Bor TheName). n.now) key ∙ fails_at (λ (n : Bor TheName). found n.now) key c.loop-name.name-index name c.loop-name-test.true (rw (← c.name-item.is) missing) in
    inr (rw none refl)

pub loop-name-preserved : goal.loop-name-preserved
loop-name-preserved c =
    let key = c.args.key.now in
    let i = c.loop-name.name-index in
    let definitions = map (λ (d : Bor ColumnDefinition). d.now) c.args.definitions.now in
    let found : TheName → Bool = λ name. list_any (λ d. bytes_eq d.column name) definitions in
    let name : Bor TheName = c.name-item.result in
    let before = map (λ (n : Bor TheName). n.now) (take i key) in
    let there : found name.now ≡ true =
    any_map (λ d. bytes_eq d.column name.now) (λ (d : Bor ColumnDefinition). d.now) c.args.definitions.now
    ∙ any_placed (λ (d : Bor ColumnDefinition). bytes_eq d.now.column name.now) c.args.definitions.now c.in-Some.index (sym c.in-Some.ensures) in
    let resolved : index_of definitions name.now ≡ c.in-Some.index ∷ [] =
    ap option_to_list (position_map (λ d. bytes_eq d.column name.now) (λ (d : Bor ColumnDefinition). d.now) c.args.definitions.now ∙ sym c.in-Some.ensures) in (
      rw (map_more (λ (n : Bor TheName). n.now) key i name c.loop-name-test.true, ← c.name-item.is, flat_map-append (index_of definitions) before (name.now ∷ []), resolved, c.in_ok-push-in-Some.ensures.items, c.loop-name.invariant.0) refl,
      rw (map_more (λ (n : Bor TheName). n.now) key i name c.loop-name-test.true, ← c.name-item.is) (found_more found before name.now c.loop-name.invariant.1 there),
    )
