-- What is proved of the statements that define tables: databases stay whole, among the rest.
use Rattle.std.proofs.Common.{◌≡◌, ℕ, suc, ◌<◌, ◌≤◌, Bool, true, false, not, ◌&&◌, nat_le, nat_lt, List, [], ◌∷◌, map, length, is_none, bytes_eq, Option, Some, None, IfSome, Ok, refl, sym, ap, ◌∙◌, subst, inl, inr, arith}
use Rattle.std.specs.List.{list_all}
use Rattle.std.proofs.lemmas.Bool.{and_parts, both_ways, not-true, ltb-true, leb-true}
use Rattle.sql_types.specs.Name.{IsUtf8Name}
use Rattle.sql_types.specs.declared.state.SqlState.TheVariants.{DuplicateTable, DuplicateColumn, UndefinedColumn, ProgramLimitExceeded}
use Rattle.sql_types.specs.declared.tag.Tag.TheVariants as tag
use Rattle.sql_ast.specs.declared.columns.Column.{Column}
use Rattle.sql_ast.specs.declared.columns.ColumnType.TheVariants.{Boolean}
use Rattle.sql_ast.specs.declared.role.Role.{Role}
use Rattle.sql_ast.specs.declared.privilege.Descriptor.{Descriptor}
use Rattle.sql_ast.specs.declared.policy.Policy.{Policy}
use Rattle.sql_ast.specs.declared.policy.PolicyClause.{PolicyClause}
use Rattle.sql_ast.specs.declared.statement.DatabaseStatement.TheVariants as on_database
use Rattle.sql_ast.specs.declared.statement.CreateTable.{CreateTable}
use Rattle.sql_ast.specs.declared.statement.DropTable.{DropTable}
use Rattle.sql_ast.specs.declared.statement.AlterTable.{AlterTable}
use Rattle.sql_ast.specs.declared.statement.ColumnDefinition.{ColumnDefinition}
use Rattle.sql_ast.specs.declared.statement.RowSecurityChange.{RowSecurityChange}
use Rattle.sql_ast.specs.declared.statement.RowSecurityChange.TheVariants as change
use Rattle.sql_ast.specs.Layout.{Layout, IsLayout, all_differ, same_name}
use Rattle.sql_ast.specs.Read.{IsReadCreateTable}
use Rattle.expressions.specs.Meaning.{UserNames}
use Rattle.abstract_database.specs.Lists.{TheName, Among, put, the_new, change_first, drop_where, has_double}
use Rattle.abstract_database.specs.Chains.{by_start, by_step}
use Rattle.abstract_database.specs.Database.{TableOf, Table, Database, without_its_rows, is_table_named, table_named, table_cmp, descriptor_cmp, policy_cmp, without_rows}
use Rattle.abstract_database.specs.Privileges.{IsSupported, privilege_of, is_for, is_same_role, owner_descriptor, owner_descriptors, all_actions, with_descriptors}
use Rattle.abstract_database.specs.Definitions.{definitions_of, key_names, layout_of, with_table, without_table, with_table_changed, with_row_security, row_security_changed}
use Rattle.abstract_database.specs.Statements.{done, create_table, drop_table, alter_table}
use Rattle.abstract_database.specs.Whole.{Each, OneOf, IsRoleOf, IsWholeTable, AreWholeRows, max_tables, IsDescriptorOf, HasOwnerDescriptors, IsConditionOf, IsPolicyOf, HasWholeRows, IsWhole, AreRolesOf}
use Rattle.abstract_database.proofs.ListLemmas.{same_bytes}
use Rattle.abstract_database.proofs.ResultLemmas.{Every, every_bind, every_ok, require_ok}
use Rattle.database_laws.proofs.WholeLists.{PutFrom, fresh, there, merged, of_put, put_old, put_new, put_length, of_change_first, into_change_first, change_first_length, of_drop, into_drop, drop_length, of_map, find_none}
use Rattle.database_laws.proofs.WholeRoles.{names_same}
use Rattle.database_laws.proofs.WholeSets.{descriptors_same, owners_grantable, owners_table, MayBeGranted, AreGranted, all_granted, all_for_tables}
use Rattle.database_laws.proofs.WholePrivileges.{owners_stay}
use Rattle.database_laws.proofs.HoldingLemmas.{is_one_for}
use Rattle.abstract_database.specs.Checks.{is_column_of, checked_create_table, checked_drop_table, checked_alter_table, find_definition, checked_layout}
use Rattle.expressions.specs.Parts.{check_type}
use Rattle.expressions.specs.Stages.{require}
use Rattle.database_laws.proofs.WholeLayouts.{new_layout, new_column_names}
use Rattle.sql_ast.specs.declared.statement.DefiningStatement.TheVariants as defining
use Rattle.sql_ast.specs.declared.statement.TableElement.{TableElement}
use Rattle.abstract_database.proofs.ValueTypes.{new_names_differ}
use Rattle.std.proofs.lemmas.List.{length-map}
use Rattle.database_laws.proofs.Defining.{IsWholeAside, WholeAfter, IsDefinition, definition}
use Rattle.database_laws.proofs.EffectLemmas.{done_answers}
use Rattle.abstract_database.proofs.RisingPuts.{put_rises}
use Rattle.database_laws.proofs.RisingLemmas.{tables_total, the_new_alike, dropped_rise, changed_rise, with_security_alike, with_descriptors_rise}
use Rattle.database_laws.proofs.TableLemmas.{no_double, new_table, fewer_tables, altered_table}
use Rattle.database_laws.proofs.WholeTexts.{fewer_known}
use Rattle.database_laws.proofs.RightLemmas.{then, owner_checked}
use Rattle.database_laws.proofs.NotRefusedLemmas.{Spares, spares_ok, spares_bind, spares_other, spares_table, spares_owner, there_already, doubled, lost_column, limited}
use Rattle.database_laws.proofs.StageLemmas.{then_same, bare, is_none_bare, put_bare, drop_bare, change_bare, found_same}

-- ---- a table in place of another

-- what the rest of a database sees of a table
pub record IsAlike (t u : TableOf) : Type 0 where
  pub name : u.name ≡ t.name
  pub owner : u.owner ≡ t.owner
  pub layout : u.layout ≡ t.layout

table_alike : (all : List Role) (t u : TableOf) → IsAlike t u → IsWholeTable all t → IsWholeTable all u
table_alike all t u a w = record {
  name = subst IsUtf8Name (sym a.name) w.name;
  owner = subst (IsRoleOf all) (sym a.owner) w.owner;
  layout = subst IsLayout (sym a.layout) w.layout;
  columns = subst (λ (l : Layout). Each (λ (c : Column). IsUtf8Name c.name) l.columns) (sym a.layout) w.columns;
}

owners_alike : (set : List Descriptor) (t u : TableOf) → IsAlike t u → HasOwnerDescriptors set t → HasOwnerDescriptors set u
owners_alike set t u a o =
    subst (λ n. Each (λ (d : Descriptor). Among d set) (owner_descriptors n u.owner)) (sym a.name)
    (subst (λ m. Each (λ (d : Descriptor). Among d set) (owner_descriptors t.name m)) (sym a.owner) o)

descriptor_alike : (t u : TableOf) → IsAlike t u → (d : Descriptor) → IsDescriptorOf t d → IsDescriptorOf u d
descriptor_alike t u a d k = record {
  table = k.table ∙ sym a.name;
  column = subst (λ (l : Layout). IfSome d.column (λ index. index < length l.columns)) (sym a.layout) k.column;
  action = k.action;
  system = λ s. subst (λ n. Among d (owner_descriptors n u.owner)) (sym a.name) (subst (λ m. Among d (owner_descriptors t.name m)) (sym a.owner) (k.system s));
}

condition_alike : (t u : TableOf) → IsAlike t u → (o : Option PolicyClause) → IfSome o (IsConditionOf t) → IfSome o (IsConditionOf u)
condition_alike t u a None k = tt
condition_alike t u a (Some c) k =
    subst (λ n. check_type (record { scope = record { name = n; columns = u.layout.columns } ∷ []; term = c.expression; expected = Some Boolean }) ≡ Ok tt) (sym a.name)
    (subst (λ (l : Layout). check_type (record { scope = record { name = t.name; columns = l.columns } ∷ []; term = c.expression; expected = Some Boolean }) ≡ Ok tt) (sym a.layout) k)

policy_alike : (t u : TableOf) → IsAlike t u → (p : Policy) → IsPolicyOf t p → IsPolicyOf u p
policy_alike t u a p k = record { table = k.table ∙ sym a.name; using = condition_alike t u a p.using k.using; check = condition_alike t u a p.check k.check }

-- ---- one table changed

module _ (db : Database) (w : IsWhole db) (name : TheName) (changed : Table → Table) (alike : (t : Table) → IsAlike t.definition (changed t).definition) where
  -- what holds of a table's definition, and of those alike, holds after
  definition_after : (P : TableOf → Type 0) → ((t u : TableOf) → IsAlike t u → P t → P u) → Each (λ (t : Table). P t.definition) db.tables → Each (λ (t : Table). P t.definition) (change_first (is_table_named name) changed db.tables)
  definition_after P go each t h = elim (of_change_first (is_table_named name) changed db.tables t h) [
    | inl stays ↦ each t stays
    | inr at ↦ subst (λ (u : Table). P u.definition) at.3 (go at.0.definition (changed at.0).definition (alike at.0) (each at.0 at.1))
  ]

  one_after : (P : TableOf → Type 0) → ((t u : TableOf) → IsAlike t u → P t → P u) → OneOf (λ (t : Table). P t.definition) db.tables → OneOf (λ (t : Table). P t.definition) (change_first (is_table_named name) changed db.tables)
  one_after P go one = elim (into_change_first (is_table_named name) changed db.tables one.0 one.1) [
    | inl stays ↦ (one.0, stays, one.2)
    | inr at ↦ (changed one.0, at, go one.0.definition (changed one.0).definition (alike one.0) one.2)
  ]

  pub changed_whole : HasWholeRows (with_table_changed name changed db) → IsWholeAside (with_table_changed name changed db)
  changed_whole rows = record {
    roles = record { roles = w.definitions.roles.roles; memberships = w.definitions.roles.memberships };
    tables = record {
      tables = definition_after (IsWholeTable db.roles) (table_alike db.roles) w.definitions.tables.tables;
      few = subst (λ n. n ≤ max_tables) (sym (change_first_length (is_table_named name) changed db.tables)) w.definitions.tables.few;
    };
    descriptors = record {
      descriptors = w.definitions.descriptors.descriptors;
      for_tables = λ d h. one_after (λ t. IsDescriptorOf t d) (λ t u a k. descriptor_alike t u a d k) (w.definitions.descriptors.for_tables d h);
      owners = definition_after (HasOwnerDescriptors db.descriptors) (owners_alike db.descriptors) w.definitions.descriptors.owners;
    };
    policies = record {
      policies = w.definitions.policies.policies;
      of_tables = λ p h. one_after (λ t. IsPolicyOf t p) (λ t u a k. policy_alike t u a p k) (w.definitions.policies.of_tables p h);
    };
    rows = rows;
  }

-- ---- ALTER TABLE

security_alike : (c : RowSecurityChange) (t : TableOf) → IsAlike t (row_security_changed c t)
security_alike change.Enable t = record { name = refl; owner = refl; layout = refl }
security_alike change.Disable t = record { name = refl; owner = refl; layout = refl }
security_alike change.Force t = record { name = refl; owner = refl; layout = refl }
security_alike change.NoForce t = record { name = refl; owner = refl; layout = refl }

rows_altered : (db : Database) → IsWhole db → (name : TheName) (c : RowSecurityChange) → HasWholeRows (with_table_changed name (with_row_security c) db)
rows_altered db w name c t h = elim (of_change_first (is_table_named name) (with_row_security c) db.tables t h) [
  | inl stays ↦ w.rows t stays
  | inr at ↦ subst (λ (u : Table). AreWholeRows u.definition.layout u.rows) at.3
      (subst (λ (l : Layout). AreWholeRows l at.0.rows) (sym (security_alike c at.0.definition).layout) (w.rows at.0 at.1))
]

pub alter_table_whole : (db : Database) (users : UserNames) (s : AlterTable) → IsWhole db → Every WholeAfter (alter_table db users s)
alter_table_whole db users s w =
    every_bind WholeAfter (checked_alter_table db users s) _ (λ free free-is.
    every_ok WholeAfter (done tag.AlterTable (with_table_changed s.table (with_row_security s.change) db))
    (changed_whole db w s.table (with_row_security s.change) (λ t. security_alike s.change t.definition) (rows_altered db w s.table s.change)))

-- ---- DROP TABLE

supported_elsewhere : (set : List Descriptor) (table : TheName) (d : Descriptor) → IsSupported set d → bytes_eq d.table table ≡ false → IsSupported (drop_where (λ (x : Descriptor). bytes_eq x.table table) set) d
supported_elsewhere set table d (by_start x h e) other = by_start d (into_drop (λ (x : Descriptor). bytes_eq x.table table) set d h other) e
supported_elsewhere set table d (by_step p x c h e) other =
    let parts = and_parts (is_for d.table (privilege_of d) p && p.grantable) (is_same_role p.grantee d.grantor) e in
    let front = and_parts (is_for d.table (privilege_of d) p) p.grantable parts.0 in
    let same : p.table ≡ d.table = (is_one_for d.table (privilege_of d) p front.0).table in
    by_step p d (supported_elsewhere set table p c (ap (λ n. bytes_eq n table) same ∙ other)) (into_drop (λ (x : Descriptor). bytes_eq x.table table) set d h other) e

module _ (db : Database) (w : IsWhole db) (name : TheName) where
  still_there : (t : Table) → Among t db.tables → (n : TheName) → n ≡ t.definition.name → bytes_eq n name ≡ false → Among t (drop_where (is_table_named name) db.tables)
  still_there t h n same other = into_drop (is_table_named name) db.tables t h (ap (λ m. bytes_eq m name) (sym same) ∙ other)

  pub dropped_whole : IsWholeAside (without_table name db)
  dropped_whole = record {
    roles = record { roles = w.definitions.roles.roles; memberships = w.definitions.roles.memberships };
    tables = record {
      tables = λ t h. w.definitions.tables.tables t (of_drop (is_table_named name) db.tables t h).0;
      few = at_most (drop_length (is_table_named name) db.tables) w.definitions.tables.few;
    };
    descriptors = record {
      descriptors = λ d h.
          let at = of_drop (λ (x : Descriptor). bytes_eq x.table name) db.descriptors d h in
          let was = w.definitions.descriptors.descriptors d at.0 in
          record { grantor = was.grantor; grantee = was.grantee; supported = supported_elsewhere db.descriptors name d was.supported at.1 };
      for_tables = λ d h.
          let at = of_drop (λ (x : Descriptor). bytes_eq x.table name) db.descriptors d h in
          let one = w.definitions.descriptors.for_tables d at.0 in
          (one.0, still_there one.0 one.1 d.table one.2.table at.1, one.2);
      owners = λ t h d k.
          let at = of_drop (is_table_named name) db.tables t h in
          into_drop (λ (x : Descriptor). bytes_eq x.table name) db.descriptors d (w.definitions.descriptors.owners t at.0 d k)
          (ap (λ n. bytes_eq n name) (owners_table t.definition.name t.definition.owner d k) ∙ at.1);
    };
    policies = record {
      policies = λ p h. w.definitions.policies.policies p (of_drop (λ (x : Policy). bytes_eq x.table name) db.policies p h).0;
      of_tables = λ p h.
          let at = of_drop (λ (x : Policy). bytes_eq x.table name) db.policies p h in
          let one = w.definitions.policies.of_tables p at.0 in
          (one.0, still_there one.0 one.1 p.table one.2.table at.1, one.2);
    };
    rows = λ t h. w.rows t (of_drop (is_table_named name) db.tables t h).0;
  } where
    at_most : {m n k : ℕ} → m ≤ n → n ≤ k → m ≤ k
    at_most a b = omega (arith, a, b)

pub drop_table_whole : (db : Database) (users : UserNames) (s : DropTable) → IsWhole db → Every WholeAfter (drop_table db users s)
drop_table_whole db users s w =
    every_bind WholeAfter (checked_drop_table db users s) _ (λ free free-is.
    every_ok WholeAfter (done tag.DropTable (without_table s.table db)) (dropped_whole db w s.table))

-- ---- CREATE TABLE

none_of_option : {X : Type 0} (o : Option X) → is_none o ≡ true → o ≡ None
none_of_option None e = refl
none_of_option (Some x) e = cc

module _ (db : Database) (w : IsWhole db) (new : TableOf) (whole : IsWholeTable db.roles new) (unused : (t : Table) → Among t db.tables → t.definition.name ≡ new.name → ⊥) (room : length db.tables < max_tables) where
  abbrev the_table : Table
  the_table = record { definition = new; rows = [] }

  abbrev tables_after : List Table
  tables_after = put table_cmp the_new the_table db.tables

  abbrev set_after : List Descriptor
  set_after = with_descriptors (owner_descriptors new.name new.owner) db.descriptors

  new_there : Among the_table tables_after
  new_there = elim (put_new table_cmp the_new the_table db.tables) [ inl h ↦ h | inr at ↦ at.3 ]

  old_there : (t : Table) → Among t db.tables → Among t tables_after
  old_there t h = elim (put_old table_cmp the_new the_table db.tables t h) [
    | inl stays ↦ stays
    | inr joins ↦ absurd (unused t h (sym (names_same new.name t.definition.name joins.0)))
  ]

  each_after : (P : Table → Type 0) → P the_table → Each P db.tables → Each P tables_after
  each_after P first each t h = from (of_put table_cmp the_new the_table db.tables t h) where
    from : PutFrom table_cmp the_new the_table db.tables t → P t
    from (fresh is) = subst P is first
    from (there k) = each t k
    from (merged y k e is) = subst P is first

  one_more_table : (P : Table → Type 0) → OneOf P db.tables → OneOf P tables_after
  one_more_table P one = (one.0, old_there one.0 one.1, one.2)

  owner_may : Each (MayBeGranted db.roles db.descriptors) (owner_descriptors new.name new.owner)
  owner_may d h =
      let from = of_map (owner_descriptor new.name new.owner) all_actions d h in
      subst (MayBeGranted db.roles db.descriptors) from.2 (record { grantor = tt; grantee = whole.owner; backed = inl refl })

  owner_for_table : Each (λ (d : Descriptor). OneOf (λ (t : Table). IsDescriptorOf t.definition d) tables_after) (owner_descriptors new.name new.owner)
  owner_for_table d h =
      let from = of_map (owner_descriptor new.name new.owner) all_actions d h in
      subst (λ (x : Descriptor). OneOf (λ (t : Table). IsDescriptorOf t.definition x) tables_after) from.2
      (the_table, new_there, record { table = refl; column = tt; action = λ e. refl; system = λ s. subst (λ (x : Descriptor). Among x (owner_descriptors new.name new.owner)) (sym from.2) h })

  granted_to_owner : AreGranted db.roles w.definitions.roles.roles db.descriptors (owner_descriptors new.name new.owner) set_after
  granted_to_owner = all_granted db.roles w.definitions.roles.roles (owner_descriptors new.name new.owner) db.descriptors w.definitions.descriptors.descriptors owner_may

  new_owner_has : HasOwnerDescriptors set_after new
  new_owner_has d h =
      let at = granted_to_owner.new d h in
      let option : d.grantable ≡ true = owners_grantable new.name new.owner d h in
      subst (λ (x : Descriptor). Among x set_after) (descriptors_same d at.0 at.2.key (at.2.option option ∙ sym option)) at.1

  pub created_whole : IsWholeAside (record db { tables = tables_after; descriptors = set_after })
  created_whole = record {
    roles = record { roles = w.definitions.roles.roles; memberships = w.definitions.roles.memberships };
    tables = record {
      tables = each_after (λ (t : Table). IsWholeTable db.roles t.definition) whole w.definitions.tables.tables;
      few = one_more (put_length table_cmp the_new the_table db.tables) room;
    };
    descriptors = record {
      descriptors = granted_to_owner.whole;
      for_tables = all_for_tables tables_after (owner_descriptors new.name new.owner) db.descriptors
          (λ d h. one_more_table (λ (t : Table). IsDescriptorOf t.definition d) (w.definitions.descriptors.for_tables d h)) owner_for_table;
      owners = each_after (λ (t : Table). HasOwnerDescriptors set_after t.definition) new_owner_has
          (λ t h. owners_stay db.descriptors set_after granted_to_owner.old t.definition (w.definitions.descriptors.owners t h));
    };
    policies = record {
      policies = w.definitions.policies.policies;
      of_tables = λ p h. one_more_table (λ (t : Table). IsPolicyOf t.definition p) (w.definitions.policies.of_tables p h);
    };
    rows = each_after (λ (t : Table). AreWholeRows t.definition.layout t.rows) (record { fit = λ r h. absurd h; order = tt }) w.rows;
  } where
    one_more : {m n k : ℕ} → m ≤ suc n → n < k → m ≤ k
    one_more a b = omega (arith, a, b)

-- what CREATE TABLE was checked for
record CreateFacts (db : Database) (s : CreateTable) (layout : Layout) : Type 0 where
  is_layout : IsLayout layout
  names : Each (λ (c : Column). IsUtf8Name c.name) layout.columns
  unused : (t : Table) → Among t db.tables → t.definition.name ≡ s.table → ⊥
  room : length db.tables < max_tables

create_facts : (db : Database) (users : UserNames) (s : CreateTable) → IsReadCreateTable s → Every (CreateFacts db s) (checked_create_table db users s)
create_facts db users s read =
    every_bind (CreateFacts db s) (require (is_none (table_named db s.table)) DuplicateTable) _ (λ named named-is.
    every_bind (CreateFacts db s) (require (not (has_double (map (λ (d : ColumnDefinition). d.column) (definitions_of s.elements)))) DuplicateColumn) _ (λ once once-is.
    every_bind (CreateFacts db s) (require (not (has_double (key_names s.elements))) DuplicateColumn) _ (λ key_once key_once-is.
    every_bind (CreateFacts db s) (require (list_all (is_column_of (definitions_of s.elements)) (key_names s.elements)) UndefinedColumn) _ (λ key_found key_found-is.
    every_bind (CreateFacts db s) (require (nat_le (length (definitions_of s.elements)) 16 && nat_lt (length db.tables) 1024) ProgramLimitExceeded) _ (λ few few-is.
    let limits = and_parts (nat_le (length (definitions_of s.elements)) 16) (nat_lt (length db.tables) 1024) (require_ok (nat_le (length (definitions_of s.elements)) 16 && nat_lt (length db.tables) 1024) ProgramLimitExceeded few few-is) in
    every_ok (CreateFacts db s) (layout_of s.elements) (record {
      is_layout = new_layout s read
          (not-true (has_double (map (λ (d : ColumnDefinition). d.column) (definitions_of s.elements))) (require_ok (not (has_double (map (λ (d : ColumnDefinition). d.column) (definitions_of s.elements)))) DuplicateColumn once once-is))
          (not-true (has_double (key_names s.elements)) (require_ok (not (has_double (key_names s.elements))) DuplicateColumn key_once key_once-is))
          (require_ok (list_all (is_column_of (definitions_of s.elements)) (key_names s.elements)) UndefinedColumn key_found key_found-is)
          (leb-true (length (definitions_of s.elements)) 16 limits.0);
      names = new_column_names s read;
      unused = λ t h same. both_ways (is_table_named s.table t) (find_none (is_table_named s.table) db.tables t (none_of_option (table_named db s.table) (require_ok (is_none (table_named db s.table)) DuplicateTable named named-is)) h) (same_bytes t.definition.name s.table same);
      room = ltb-true (length db.tables) 1024 limits.1;
    }))))))

pub create_table_whole : (db : Database) (users : UserNames) (s : CreateTable) → IsReadCreateTable s → IsWhole db → AreRolesOf db users → Every WholeAfter (create_table db users s)
create_table_whole db users s read w are =
    every_bind WholeAfter (checked_create_table db users s) _ (λ layout layout-is.
    let f = create_facts db users s read layout layout-is in
    every_ok WholeAfter (done tag.CreateTable (with_table s.table users.current layout db))
    (created_whole db w (record { name = s.table; owner = users.current; layout = layout; row_security = false; forced = false })
    (record { name = read.table; owner = are.current; layout = f.is_layout; columns = f.names }) f.unused f.room))

-- ---- the checks of CREATE TABLE

-- the columns of a new table have names that differ
abbrev HasDifferentNames : Layout → Type 0
HasDifferentNames layout = all_differ same_name layout.columns ≡ true

created_differ : (db : Database) (users : UserNames) (s : CreateTable) → Every HasDifferentNames (checked_create_table db users s)
created_differ db users s =
    every_bind HasDifferentNames (require (is_none (table_named db s.table)) DuplicateTable) _ (λ named named-is.
    every_bind HasDifferentNames (require (not (has_double (map (λ d. d.column) (definitions_of s.elements)))) DuplicateColumn) _ (λ once once-is.
    every_bind HasDifferentNames (require (not (has_double (key_names s.elements))) DuplicateColumn) _ (λ key_once key_once-is.
    every_bind HasDifferentNames (require (list_all (is_column_of (definitions_of s.elements)) (key_names s.elements)) UndefinedColumn) _ (λ key_found key_found-is.
    every_bind HasDifferentNames (require (nat_le (length (definitions_of s.elements)) 16 && nat_lt (length db.tables) 1024) ProgramLimitExceeded) _ (λ few few-is.
    every_ok HasDifferentNames (layout_of s.elements)
    (new_names_differ (key_names s.elements) (definitions_of s.elements)
    (no_double (has_double (map (λ d. d.column) (definitions_of s.elements))) (require_ok (not (has_double (map (λ d. d.column) (definitions_of s.elements)))) DuplicateColumn once once-is))))))))

spares_layout : (elements : List TableElement) (count : ℕ) → Spares (checked_layout elements count)
spares_layout elements count =
    let once = not (has_double (map (λ (d : ColumnDefinition). d.column) (definitions_of elements))) in
    let key_once = not (has_double (key_names elements)) in
    let key_found = list_all (is_column_of (definitions_of elements)) (key_names elements) in
    let few = nat_le (length (definitions_of elements)) 16 && nat_lt count 1024 in
    spares_bind (require once DuplicateColumn) _ (spares_other once DuplicateColumn doubled) (λ a a-is.
    spares_bind (require key_once DuplicateColumn) _ (spares_other key_once DuplicateColumn doubled) (λ b b-is.
    spares_bind (require key_found UndefinedColumn) _ (spares_other key_found UndefinedColumn lost_column) (λ c c-is.
    spares_bind (require few ProgramLimitExceeded) _ (spares_other few ProgramLimitExceeded limited) (λ d d-is. spares_ok (layout_of elements)))))

module _ (db : Database) (users : UserNames) where
  create_table_checks : (s : CreateTable) → checked_create_table (without_rows db) users s ≡ checked_create_table db users s
  create_table_checks s =
      then_same (require (is_none (table_named (without_rows db) s.table)) DuplicateTable) (require (is_none (table_named db s.table)) DuplicateTable)
      (λ named. checked_layout s.elements (length (bare db.tables))) (λ named. checked_layout s.elements (length db.tables))
      (ap (λ (b : Bool). require b DuplicateTable) (is_none_bare db s.table))
      (λ named. ap (checked_layout s.elements) (length-map db.tables without_its_rows))

  -- ---- what is proved of these statements

  pub create_table_definition : (s : CreateTable) → IsDefinition db users (defining.CreateTable s)
  create_table_definition s = definition db users (defining.CreateTable s)
      (λ d. checked_create_table d users s) (λ d layout. done tag.CreateTable (with_table s.table users.current layout d)) (record {
        is = λ d. refl;
        lawful = λ layout layout-is. record {
          answers = done_answers tag.CreateTable (with_table s.table users.current layout db);
          ordered = λ o. record {
            roles = o.roles;
            memberships = o.memberships;
            tables = put_rises table_cmp tables_total the_new (the_new_alike table_cmp tables_total) _ db.tables o.tables;
            descriptors = with_descriptors_rise (owner_descriptors s.table users.current) db.descriptors o.descriptors;
            policies = o.policies;
          };
          tables = new_table db (record { definition = record { name = s.table; owner = users.current; layout = layout; row_security = false; forced = false }; rows = [] }) refl (created_differ db users s layout layout-is);
          known = λ c h. inl h;
        };
        whole = λ read w are. create_table_whole db users s read w are;
        may = λ layout layout-is. tt;
        spared = λ may.
            spares_bind (require (is_none (table_named db s.table)) DuplicateTable) _ (spares_other _ DuplicateTable there_already) (λ named named-is.
            spares_layout s.elements (length db.tables));
        same_checks = create_table_checks s;
        same_effect = λ layout. ap (λ l. done tag.CreateTable (record (with_table s.table users.current layout db) { tables = l }))
            (put_bare (record { definition = record { name = s.table; owner = users.current; layout = layout; row_security = false; forced = false }; rows = [] }) db.tables);
      })

  pub drop_table_definition : (s : DropTable) → IsDefinition db users (defining.DropTable s)
  drop_table_definition s = definition db users (defining.DropTable s)
      (λ d. checked_drop_table d users s) (λ d free. done tag.DropTable (without_table s.table d)) (record {
        is = λ d. refl;
        lawful = λ free free-is. record {
          answers = done_answers tag.DropTable (without_table s.table db);
          ordered = λ o. record {
            roles = o.roles;
            memberships = o.memberships;
            tables = dropped_rise table_cmp (is_table_named s.table) db.tables o.tables;
            descriptors = dropped_rise descriptor_cmp (λ d. bytes_eq d.table s.table) db.descriptors o.descriptors;
            policies = dropped_rise policy_cmp (λ p. bytes_eq p.table s.table) db.policies o.policies;
          };
          tables = fewer_tables db (is_table_named s.table);
          known = fewer_known db (on_database.Defining (defining.DropTable s)) (λ (p : Policy). bytes_eq p.table s.table);
        };
        whole = λ read w are. drop_table_whole db users s w;
        may = then _ (find_definition db s.table) _ (λ t t-is u e. owner_checked db users s.table t u t-is e);
        spared = λ may.
            spares_bind (find_definition db s.table) _ (spares_table db users s.table) (λ t t-is.
            spares_owner db users s.table may t t-is);
        same_checks = found_same db s.table _;
        same_effect = λ free. ap (λ l. done tag.DropTable (record (without_table s.table db) { tables = l })) (drop_bare s.table db.tables);
      })

  pub alter_table_definition : (s : AlterTable) → IsDefinition db users (defining.AlterTable s)
  alter_table_definition s = definition db users (defining.AlterTable s)
      (λ d. checked_alter_table d users s) (λ d free. done tag.AlterTable (with_table_changed s.table (with_row_security s.change) d)) (record {
        is = λ d. refl;
        lawful = λ free free-is. record {
          answers = done_answers tag.AlterTable (with_table_changed s.table (with_row_security s.change) db);
          ordered = λ o. record {
            roles = o.roles;
            memberships = o.memberships;
            tables = changed_rise table_cmp (is_table_named s.table) (with_row_security s.change) (with_security_alike s.change) db.tables o.tables;
            descriptors = o.descriptors;
            policies = o.policies;
          };
          tables = altered_table db s.table s.change;
          known = λ c h. inl h;
        };
        whole = λ read w are. alter_table_whole db users s w;
        may = then _ (find_definition db s.table) _ (λ t t-is u e. owner_checked db users s.table t u t-is e);
        spared = λ may.
            spares_bind (find_definition db s.table) _ (spares_table db users s.table) (λ t t-is.
            spares_owner db users s.table may t t-is);
        same_checks = found_same db s.table _;
        same_effect = λ free. ap (λ l. done tag.AlterTable (record db { tables = l })) (change_bare s.table (with_row_security s.change) (λ t. refl) db.tables);
      })
