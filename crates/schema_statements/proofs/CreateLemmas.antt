-- CREATE TABLE in each database of the definitions.
use Rattle.std.proofs.Common.{◌≡◌, ◌<◌, ◌+◌, ◌++◌, ℕ, zero, suc, true, List, [], ◌∷◌, length, find, is_none, IsSome, Option, Some, None, Result, Ok, Err, refl, sym, ap, ◌∙◌, subst, inl, inr, arith, length-append}
use Rattle.std.proofs.lemmas.List.Sums.{sum_by-cons}
use Rattle.std.specs.Prelude.{sum_by, count_by}
use Rattle.std.specs.List.{AllByRecursion, list_any}
use Rattle.std.specs.Option.{option_map}
use Rattle.sql_types.specs.Row.{Row}
use Rattle.sql_types.specs.declared.answer.Answer.TheVariants.{Done}
use Rattle.sql_types.specs.declared.tag.Tag.TheVariants as tag
use Rattle.sql_types.specs.declared.state.Refusal.{Refusal}
use Rattle.sql_types.specs.declared.state.SqlState.{SqlState}
use Rattle.sql_types.specs.declared.state.SqlState.TheVariants.{DuplicateTable}
use Rattle.sql_ast.specs.declared.statement.DatabaseStatement.TheVariants as on_database
use Rattle.sql_ast.specs.declared.statement.DefiningStatement.TheVariants as defining
use Rattle.sql_ast.specs.declared.statement.CreateTable.{CreateTable}
use Rattle.sql_ast.specs.declared.statement.TableElement.{TableElement}
use Rattle.sql_ast.specs.declared.statement.TableElement.TheVariants as element
use Rattle.sql_ast.specs.declared.statement.ColumnConstraint.{ColumnConstraint}
use Rattle.sql_ast.specs.declared.statement.ColumnConstraint.TheVariants.{NotNull, PrimaryKey}
use Rattle.sql_ast.specs.Layout.{Layout}
use Rattle.sql_ast.specs.Read.{is_primary_key, primary_keys_in, IsReadElement, IsReadCreateTable}
use Rattle.expressions.specs.Meaning.{UserNames}
use Rattle.expressions.specs.Stages.{◌>>=◌, require}
use Rattle.abstract_database.specs.Lists.{TheName}
use Rattle.abstract_database.specs.Database.{Table, Database, is_role_named, table_named}
use Rattle.abstract_database.specs.Definitions.{is_key_mark, key_names_in, key_names, with_table}
use Rattle.abstract_database.specs.Checks.{checked_layout, checked_create_table}
use Rattle.abstract_database.specs.Statements.{done, create_table}
use Rattle.abstract_database.specs.Whole.{IsRoleOf, max_tables}
use Rattle.stored_database.specs.Definitions.{TableDefinition, Definitions, tables_with, ids_of}
use Rattle.stored_database.specs.Valid.{Describes}
use Rattle.stored_database.proofs.Wholeness.{described_whole}
use Rattle.database_laws.proofs.OrderLemmas.{ordered}
use Rattle.database_laws.proofs.WholeRoles.{whole_of}
use Rattle.database_laws.proofs.WholeTables.{create_table_whole}
use Rattle.catalogue.specs.Lookups.{is_definition_named}
use Rattle.catalogue.specs.Numbers.{IsLeastFree}
use Rattle.catalogue_changes.specs.Carried.{IsCurrent, Refuses}
use Rattle.catalogue.specs.declared.change.SchemaChange.TheVariants as change
use Rattle.catalogue_changes.specs.StatementChanges.{Makes, new_table}
use Rattle.catalogue_changes.proofs.NewTableLemmas.{create_table_done, room_for_table}
use Rattle.schema_statements.specs.Refusing.{IsRightRefusal, Refines}
use Rattle.schema_statements.proofs.TableCarrying.{IsMade}
use Rattle.schema_statements.proofs.Owning.{found_alike}

-- ---- a table that may be read has a key

marked : (cs : List ColumnConstraint) → 0 < count_by is_primary_key cs → list_any is_key_mark cs ≡ true
marked [] h = absurd (omega arith)
marked (PrimaryKey ∷ cs) h = refl
marked (NotNull ∷ cs) h = marked cs h

key_in : (x : TableElement) → IsReadElement x → 0 < primary_keys_in x → 0 < length (key_names_in x)
key_in (element.Column c) read h = rw (marked c.constraints h) (omega arith)
key_in (element.PrimaryKey names) read h = read.some

first_or_rest : (x : TableElement) (xs : List TableElement) (n : ℕ) → IsReadElement x → primary_keys_in x ≡ n → 0 < n + sum_by primary_keys_in xs
    → (0 < sum_by primary_keys_in xs → 0 < length (key_names xs)) → 0 < length (key_names_in x ++ key_names xs)
first_or_rest x xs zero read is h rest = omega (arith, rest (omega arith), length-append (key_names_in x) (key_names xs))
first_or_rest x xs (suc n) read is h rest = omega (arith, key_in x read (omega arith), length-append (key_names_in x) (key_names xs))

no_sum : 0 < sum_by primary_keys_in [] → ⊥
no_sum g = omega arith

keys_listed : (es : List TableElement) → AllByRecursion IsReadElement es → 0 < sum_by primary_keys_in es → 0 < length (key_names es)
keys_listed [] read h = absurd (no_sum h)
keys_listed (x ∷ xs) read h = first_or_rest x xs (primary_keys_in x) read.0 refl (omega (arith, sum_by-cons primary_keys_in x xs, h)) (λ g. keys_listed xs read.1 g)

pub declares_key : (s : CreateTable) → IsReadCreateTable s → 0 < length (key_names s.elements)
declares_key s read = keys_listed s.elements read.elements.each (omega (arith, read.one_key))

-- ---- what is meant of the layout

pub meant_is : {A : Type 0} (v : A) (r : Result A SqlState) → Refines (λ x meant. x ≡ meant) (Ok v) r → r ≡ Ok v
meant_is v (Ok x) same = ap (λ y. Ok y) (sym same)
meant_is v (Err code) same = absurd same

module _ (d : Definitions) (s : CreateTable) (elements : List TableElement) (tables : List TableDefinition) (same : elements ≡ s.elements) (same_tables : tables ≡ d.tables) where
  keyed : IsReadCreateTable s → 0 < length (key_names elements)
  keyed read = subst (λ (es : List TableElement). 0 < length (key_names es)) (sym same) (declares_key s read)

  meant_alike : checked_layout elements (length tables) ≡ checked_layout s.elements (length d.tables)
  meant_alike = ap (λ (es : List TableElement). checked_layout es (length tables)) same ∙ ap (λ (ts : List TableDefinition). checked_layout s.elements (length ts)) same_tables

  pub right_alike : (refusal : Refusal) → (0 < length (key_names elements) → IsRightRefusal refusal (checked_layout elements (length tables))) → IsReadCreateTable s → IsRightRefusal refusal (checked_layout s.elements (length d.tables))
  right_alike refusal right read = subst (λ (r : Result Layout SqlState). IsRightRefusal refusal r) meant_alike (right (keyed read))

  pub layout_alike : (layout : Layout) → (0 < length (key_names elements) → Refines {A = Layout} (λ x meant. x ≡ meant) (Ok layout) (checked_layout elements (length tables))) → IsReadCreateTable s → checked_layout s.elements (length d.tables) ≡ Ok layout
  layout_alike layout refines read = sym meant_alike ∙ meant_is layout (checked_layout elements (length tables)) (refines (keyed read))

-- ---- the checks

none_mapped : {X Y : Type 0} (f : X → Y) (o : Option X) → is_none (option_map f o) ≡ is_none o
none_mapped f None = refl
none_mapped f (Some x) = refl

many_tables : (ts : List TableDefinition) (rows : List (List Row)) → length rows ≡ length ts → length (tables_with ts rows) ≡ length ts
many_tables [] rows e = refl
many_tables (t ∷ ts) [] e = cc
many_tables (t ∷ ts) (r ∷ rows) e = ap suc (many_tables ts rows (one_less (length rows) (length ts) e)) where
  one_less : (m n : ℕ) → suc m ≡ suc n → m ≡ n
  one_less m n h = omega (arith, h)

module _ (d : Definitions) (current : TheName) (s : CreateTable) where
  abbrev checks : Option TableDefinition → Result Layout SqlState
  checks o = require (is_none o) DuplicateTable >>= λ named. checked_layout s.elements (length d.tables)

  checked_alike : (o : Option TableDefinition) → find (is_definition_named s.table) d.tables ≡ o → (db : Database) (users : UserNames) → Describes d db → checked_create_table db users s ≡ checks o
  checked_alike o is db users h =
      let named : is_none (table_named db s.table) ≡ is_none o =
      sym (none_mapped (λ (t : Table). t.definition) (table_named db s.table)) ∙ ap is_none (found_alike d db s.table h) ∙ none_mapped (λ (t : TableDefinition). t.definition) (find (is_definition_named s.table) d.tables) ∙ ap is_none is in
      let count : length db.tables ≡ length d.tables = ap (λ (x : Database). length x.tables) h.is ∙ many_tables d.tables h.rows h.each_table in
      ap (λ b. require b DuplicateTable >>= λ named. checked_layout s.elements (length db.tables)) named
      ∙ ap (λ n. require (is_none o) DuplicateTable >>= λ named. checked_layout s.elements n) count

  create_alike : (o : Option TableDefinition) → find (is_definition_named s.table) d.tables ≡ o → (db : Database) (users : UserNames) → Describes d db →
      create_table db users s ≡ (checks o >>= λ layout. Ok (done tag.CreateTable (with_table s.table users.current layout db)))
  create_alike o is db users h = ap (λ (r : Result Layout SqlState). r >>= λ layout. Ok (done tag.CreateTable (with_table s.table users.current layout db))) (checked_alike o is db users h)

  pub refused_known : (t : TableDefinition) → find (is_definition_named s.table) d.tables ≡ Some t → (db : Database) (users : UserNames) → Describes d db → users.current ≡ current → create_table db users s ≡ Err DuplicateTable
  refused_known t is db users h by = create_alike (Some t) is db users h

  module _ (none : find (is_definition_named s.table) d.tables ≡ None) where
    pub refused_columns : (refusal : Refusal) → IsRightRefusal refusal (checked_layout s.elements (length d.tables)) → Refuses (IsCurrent current) (λ db users. create_table db users s) d refusal
    refused_columns refusal (inl memory) = inl memory
    refused_columns refusal (inr e) = inr (λ db users h by.
        create_alike None none db users h ∙ ap (λ (r : Result Layout SqlState). r >>= λ layout. Ok (done tag.CreateTable (with_table s.table users.current layout db))) e)

    module _ (layout : Layout) (checked : checked_layout s.elements (length d.tables) ≡ Ok layout) where
      pub creates : (id : ℕ) → IsLeastFree (ids_of d.tables) id → IsReadCreateTable s → IsRoleOf d.roles current → (db : Database) (users : UserNames) → Describes d db → users.current ≡ current →
          IsMade (λ db users. create_table db users s) (change.PutTable (new_table id s.table current layout)) d (Done tag.CreateTable None None) db users
      creates id free read role db users h by =
          let after = with_table s.table users.current layout db in
          let is : create_table db users s ≡ Ok (done tag.CreateTable after) =
          create_alike None none db users h ∙ ap (λ (r : Result Layout SqlState). r >>= λ layout. Ok (done tag.CreateTable (with_table s.table users.current layout db))) checked in
          let owner : IsRoleOf db.roles users.current =
          ap (λ (x : Database). list_any (is_role_named users.current) x.roles) h.is ∙ ap (λ (n : TheName). list_any (is_role_named n) d.roles) by ∙ role in
          let whole = described_whole d db h in
          record {
            after = after;
            effects = is;
            makes = subst (λ (n : TheName). Makes (change.PutTable (new_table id s.table n layout)) d db after) by
                (create_table_done d db users s layout id h (checked_alike None none db users h ∙ checked) free (done tag.CreateTable after) is);
            whole = whole_of after (ordered db users (on_database.Defining (defining.CreateTable s)) (done tag.CreateTable after) is whole.definitions.order)
                (create_table_whole db (record { current = users.current; session = users.current; is_in = users.is_in }) s read whole (record { current = owner; session = owner }) (done tag.CreateTable after) is);
          }

-- ---- where each number is taken

no_some : {P : Type 0} → IsSome {T = ℕ} None → P
no_some e = cc

pub refused_full : (d : Definitions) (current : TheName) (s : CreateTable) (layout : Layout) → find (is_definition_named s.table) d.tables ≡ None → checked_layout s.elements (length d.tables) ≡ Ok layout →
    (tables : List TableDefinition) → tables ≡ d.tables → (o : Option ℕ) → (length tables < max_tables → IsSome o) → o ≡ None → (refusal : Refusal) → Refuses (IsCurrent current) (λ db users. create_table db users s) d refusal
refused_full d current s layout none checked tables same o some is refusal = inr (λ db users h by.
    let room = room_for_table d db users s layout h (checked_alike d current s None none db users h ∙ checked) in
    no_some (subst (λ (x : Option ℕ). IsSome x) is (some (subst (λ n. n < max_tables) (ap length (sym same)) room))))
