-- CREATE TABLE, as a change.
use Rattle.std.proofs.Common.{◌<◌, suc, not, ◌&&◌, nat_le, nat_lt, arith, ◌≡◌, ◌⊎◌, ℕ, Bool, true, false, nat_eq, cond, length, List, [], ◌∷◌, map, filter, find, Some, None, is_none, Ok, refl, ap, sym, ◌∙◌, subst, inl, inr}
use Rattle.std.specs.Ordering.{nat_cmp, ordering_then}
use Rattle.std.specs.Option.{option_cmp}
use Rattle.std.specs.List.{list_any, list_all}
use Rattle.std.specs.Cmp.Lexicographic.{slice_cmp}
use Rattle.std.specs.declared.cmp.Ordering.{Ordering}
use Rattle.std.specs.declared.cmp.Ordering.TheVariants.{Greater}
use Rattle.std.proofs.lemmas.Bool.{both_ways, false_from_ne_true, eq-eqb, ltb-true, and_parts}
use Rattle.sql_types.specs.declared.state.SqlState.TheVariants.{DuplicateTable, DuplicateColumn, UndefinedColumn, ProgramLimitExceeded}
use Rattle.sql_types.specs.Row.{Row}
use Rattle.sql_ast.specs.declared.statement.TableElement.{TableElement}
use Rattle.sql_ast.specs.declared.statement.ColumnDefinition.{ColumnDefinition}
use Rattle.sql_ast.specs.declared.privilege.Action.{Action}
use Rattle.sql_ast.specs.declared.privilege.Action.TheVariants as action
use Rattle.sql_ast.specs.declared.privilege.Descriptor.{Descriptor}
use Rattle.sql_ast.specs.declared.statement.CreateTable.{CreateTable}
use Rattle.sql_ast.specs.Layout.{Layout}
use Rattle.expressions.specs.Meaning.{UserNames}
use Rattle.expressions.specs.Stages.{require}
use Rattle.store.proofs.Changes.{itself}
use Rattle.abstract_database.specs.Lists.{TheName, Among, has_double}
use Rattle.abstract_database.specs.Database.{TableOf, Table, Database, is_table_named, table_named, descriptor_cmp, action_number}
use Rattle.abstract_database.specs.Definitions.{definitions_of, key_names, with_table}
use Rattle.abstract_database.specs.Privileges.{all_actions, owner_descriptor, owner_descriptors, with_option_of, with_descriptors}
use Rattle.abstract_database.specs.Checks.{is_column_of, checked_layout, checked_create_table}
use Rattle.abstract_database.specs.Statements.{create_table}
use Rattle.abstract_database.specs.Whole.{IsWhole, max_tables}
use Rattle.abstract_database.proofs.ListLemmas.{bytes_same, same_bytes}
use Rattle.abstract_database.proofs.ElementLemmas.{any_holds}
use Rattle.abstract_database.proofs.ResultLemmas.{bind_ok, ok_inside, require_ok}
use Rattle.stored_database.specs.Definitions.{TableDefinition, Definitions, ids_of, tables_with}
use Rattle.stored_database.specs.Valid.{Describes}
use Rattle.stored_database.proofs.Lists.{of_map, into_map}
use Rattle.stored_database.proofs.Wholeness.{described_whole}
use Rattle.catalogue.specs.Numbers.{IsLeastFree}
use Rattle.catalogue.specs.declared.change.SchemaChange.TheVariants as change
use Rattle.catalogue_changes.specs.SchemaChanges.{HasTable, FitsAmong}
use Rattle.catalogue_changes.specs.StatementChanges.{Makes, IsDoneBy, new_table}
use Rattle.catalogue_changes.proofs.TableListLemmas.{filter_none}
use Rattle.catalogue_changes.proofs.PutListLemmas.{put_last}
use Rattle.catalogue_changes.proofs.DescriptorPutLemmas.{is_for_table, AreFor, others_stay, own_granted}
use Rattle.catalogue_changes.proofs.TableBridgeLemmas.{is_of_table, put_new_table, rows_there}
use Rattle.catalogue_changes.proofs.RoleBridgeLemmas.{done_by}

-- ---- the owner's descriptors

module _ (name owner : TheName) where
  abbrev owned : Action → Descriptor
  owned a = owner_descriptor name owner a

  pub owners_are_for : AreFor name (owner_descriptors name owner)
  owners_are_for e among = let a = of_map owned all_actions e among in ap (λ (x : Descriptor). x.table) (sym a.2)

  -- they are in the order of their actions
  later : (a b : Action) → nat_cmp (action_number a) (action_number b) ≡ Greater → descriptor_cmp (owned a) (owned b) ≡ Greater
  later a b c = ap (λ (o : Ordering). ordering_then o (rest (nat_cmp (action_number a) (action_number b)))) (itself name) ∙ ap rest c where
    rest : Ordering → Ordering
    rest o = ordering_then o (ordering_then (option_cmp nat_cmp None None) (ordering_then (slice_cmp nat_cmp [] []) (slice_cmp nat_cmp owner owner)))

  behind : (a : Action) (before : List Action) → ((b : Action) → Among b before → nat_cmp (action_number a) (action_number b) ≡ Greater) → (y : Descriptor) → Among y (map owned before) → descriptor_cmp (owned a) y ≡ Greater
  behind a before greater y among = let b = of_map owned before y among in subst (λ (z : Descriptor). descriptor_cmp (owned a) z ≡ Greater) b.2 (later a b.0 (greater b.0 b.1))

  after_select : (b : Action) → Among b (action.Select ∷ []) → nat_cmp 2 (action_number b) ≡ Greater
  after_select b (inl is) = ap (λ (a : Action). nat_cmp 2 (action_number a)) (sym is)
  after_select b (inr h) = absurd h

  after_insert : (b : Action) → Among b (action.Select ∷ action.Insert ∷ []) → nat_cmp 3 (action_number b) ≡ Greater
  after_insert b (inl is) = ap (λ (a : Action). nat_cmp 3 (action_number a)) (sym is)
  after_insert b (inr (inl is)) = ap (λ (a : Action). nat_cmp 3 (action_number a)) (sym is)
  after_insert b (inr (inr h)) = absurd h

  after_update : (b : Action) → Among b (action.Select ∷ action.Insert ∷ action.Update ∷ []) → nat_cmp 4 (action_number b) ≡ Greater
  after_update b (inl is) = ap (λ (a : Action). nat_cmp 4 (action_number a)) (sym is)
  after_update b (inr (inl is)) = ap (λ (a : Action). nat_cmp 4 (action_number a)) (sym is)
  after_update b (inr (inr (inl is))) = ap (λ (a : Action). nat_cmp 4 (action_number a)) (sym is)
  after_update b (inr (inr (inr h))) = absurd h

  pub owners_alone : with_descriptors (owner_descriptors name owner) [] ≡ owner_descriptors name owner
  owners_alone =
      ap (with_descriptors (owned action.Update ∷ owned action.Delete ∷ []))
      (put_last descriptor_cmp with_option_of (owned action.Insert) (map owned (action.Select ∷ [])) (behind action.Insert (action.Select ∷ []) after_select))
      ∙ ap (with_descriptors (owned action.Delete ∷ []))
      (put_last descriptor_cmp with_option_of (owned action.Update) (map owned (action.Select ∷ action.Insert ∷ [])) (behind action.Update (action.Select ∷ action.Insert ∷ []) after_insert))
      ∙ put_last descriptor_cmp with_option_of (owned action.Delete) (map owned (action.Select ∷ action.Insert ∷ action.Update ∷ []))
      (behind action.Delete (action.Select ∷ action.Insert ∷ action.Update ∷ []) after_update)

-- ---- a new name

none_here : {X : Type 0} (test : X → Bool) (xs : List X) → is_none (find test xs) ≡ true → (x : X) → Among x xs → test x ≡ true → ⊥
none_here test [] e x h passes = absurd h
none_here {X} test (y ∷ ys) e x h passes = go (test y) refl e h (λ f k. none_here test ys f x k passes) where
  go : (b : Bool) → test y ≡ b → is_none (cond b (Some y) (find test ys)) ≡ true → (y ≡ x) ⊎ Among x ys → (is_none (find test ys) ≡ true → Among x ys → ⊥) → ⊥
  go true c f k later = cc
  go false c f (inl is) later = both_ways (test y) c (ap test is ∙ passes)
  go false c f (inr among) later = later f among

module _ (d : Definitions) (db : Database) (users : UserNames) (s : CreateTable) (layout : Layout) (id : ℕ) (described : Describes d db) (checked : checked_create_table db users s ≡ Ok layout) (free : IsLeastFree (ids_of d.tables) id) where
  abbrev t : TableDefinition
  t = new_table id s.table users.current layout

  none : (x : Table) → Among x db.tables → x.definition.name ≡ s.table → ⊥
  none x among same =
      let steps = bind_ok (require (is_none (table_named db s.table)) DuplicateTable) (λ (u : Unit {0}). checked_layout s.elements (length db.tables)) layout checked in
      none_here (is_table_named s.table) db.tables (require_ok (is_none (table_named db s.table)) DuplicateTable steps.0 steps.1) x among (same_bytes x.definition.name s.table same)

  whole : IsWhole db
  whole = described_whole d db described

  no_number : (u : TableDefinition) → Among u d.tables → u.id ≡ id → ⊥
  no_number u among same = both_ways (list_any (nat_eq id) (ids_of d.tables)) free.free
      (any_holds (nat_eq id) (ids_of d.tables) u.id (into_map (λ (v : TableDefinition). v.id) d.tables u among) (eq-eqb id u.id (sym same)))

  no_name : (u : TableDefinition) → Among u d.tables → u.definition.name ≡ s.table → ⊥
  no_name u among same =
      let x = rows_there d.tables described.rows u described.each_table among in
      none x.0 (subst (λ (z : Database). Among x.0 z.tables) (sym described.is) x.1) (ap (λ (n : TableOf). n.name) x.2 ∙ same)

  fits : FitsAmong t d
  fits = record {
    numbered = record {
      least = free.from;
      most = free.to;
      descriptors = owners_are_for s.table users.current;
      policies = λ p h. absurd h;
    };
    alike = λ u among. record {
      by_number = λ same. absurd (no_number u among same);
      by_name = λ same. absurd (no_name u among same);
      layout = λ same. absurd (no_name u among same);
    };
    conditions = λ c h. absurd h;
  }

  no_descriptors : filter (is_for_table s.table) db.descriptors ≡ []
  no_descriptors = filter_none (is_for_table s.table) db.descriptors (λ e among. false_from_ne_true (is_for_table s.table e) (λ h.
      let x = whole.definitions.descriptors.for_tables e among in none x.0 x.1 (sym x.2.table ∙ bytes_same e.table s.table h)))

  no_policies : filter (is_of_table s.table) db.policies ≡ []
  no_policies = filter_none (is_of_table s.table) db.policies (λ p among. false_from_ne_true (is_of_table s.table p) (λ h.
      let x = whole.definitions.policies.of_tables p among in none x.0 x.1 (sym x.2.table ∙ bytes_same p.table s.table h)))

  has : HasTable t db (with_table s.table users.current layout db)
  has = record {
    roles = refl;
    memberships = refl;
    tables = put_new_table t.definition db.tables none;
    descriptors = record {
      these_pass = own_granted s.table (owner_descriptors s.table users.current) db.descriptors (owners_are_for s.table users.current) whole.definitions.order.descriptors
          ∙ ap (with_descriptors (owner_descriptors s.table users.current)) no_descriptors ∙ owners_alone s.table users.current;
      others = others_stay s.table (owner_descriptors s.table users.current) db.descriptors (owners_are_for s.table users.current);
    };
    policies = record { these_pass = no_policies; others = refl };
  }

  pub create_table_done : IsDoneBy (change.PutTable t) d db (create_table db users s)
  create_table_done = done_by (change.PutTable t) d db (checked_create_table db users s) _ (λ l is.
      subst (λ (k : Layout). Makes (change.PutTable t) d db (with_table s.table users.current k db)) (ok_inside layout l (sym checked ∙ is)) (record { fits = fits; is = has }))

-- ---- room

many_tables : (ts : List TableDefinition) (rows : List (List Row)) → length rows ≡ length ts → length (tables_with ts rows) ≡ length ts
many_tables [] rows many = refl
many_tables (t ∷ ts) [] many = absurd (omega (arith, many))
many_tables (t ∷ ts) (r ∷ rows) many = ap suc (many_tables ts rows (omega (arith, many)))

few_before : (elements : List TableElement) (count : ℕ) (layout : Layout) → checked_layout elements count ≡ Ok layout → count < 1024
few_before elements count layout e =
    let once = bind_ok (require (not (has_double (map (λ (x : ColumnDefinition). x.column) (definitions_of elements)))) DuplicateColumn) _ layout e in
    let key_once = bind_ok (require (not (has_double (key_names elements))) DuplicateColumn) _ layout once.2 in
    let key_found = bind_ok (require (list_all (is_column_of (definitions_of elements)) (key_names elements)) UndefinedColumn) _ layout key_once.2 in
    let few = bind_ok (require (nat_le (length (definitions_of elements)) 16 && nat_lt count 1024) ProgramLimitExceeded) _ layout key_found.2 in
    ltb-true count 1024 (and_parts (nat_le (length (definitions_of elements)) 16) (nat_lt count 1024) (require_ok (nat_le (length (definitions_of elements)) 16 && nat_lt count 1024) ProgramLimitExceeded few.0 few.1)).1

-- a table that may be made has a number
pub room_for_table : (d : Definitions) (db : Database) (users : UserNames) (s : CreateTable) (layout : Layout) → Describes d db → checked_create_table db users s ≡ Ok layout → length d.tables < max_tables
room_for_table d db users s layout described checked =
    let steps = bind_ok (require (is_none (table_named db s.table)) DuplicateTable) (λ (u : Unit {0}). checked_layout s.elements (length db.tables)) layout checked in
    subst (λ (n : ℕ). n < 1024) (ap (λ (z : Database). length z.tables) described.is ∙ many_tables d.tables described.rows described.each_table) (few_before s.elements (length db.tables) layout steps.2)
