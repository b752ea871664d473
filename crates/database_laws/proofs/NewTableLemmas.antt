-- What CREATE TABLE, DROP TABLE and ALTER TABLE leave.
use Rattle.std.proofs.Common.{◌≡◌, ◌⊎◌, ◌↔◌, ◌∙◌, ◌&&◌, nat_le, nat_lt, length, is_none, map, cond, Bool, true, false, not, List, [], ◌∷◌, find, bytes_eq, Option, Some, None, Ok, refl, sym, ap, subst, inl, inr, Ordering, Less, Equal, Greater}
use Rattle.std.specs.List.{list_all}
use Rattle.std.specs.Option.{option_map, option_cmp}
use Rattle.std.specs.Ordering.{nat_cmp, ordering_then}
use Rattle.std.proofs.lemmas.Bool.{both_ways, false_from_ne_true}
use Rattle.sql_types.specs.declared.state.SqlState.TheVariants.{DuplicateTable, DuplicateColumn, UndefinedColumn, ProgramLimitExceeded}
use Rattle.sql_types.specs.declared.tag.Tag.TheVariants as tag
use Rattle.sql_ast.specs.declared.privilege.Action.{Action}
use Rattle.sql_ast.specs.declared.privilege.Action.TheVariants as action
use Rattle.sql_ast.specs.declared.privilege.Descriptor.{Descriptor}
use Rattle.sql_ast.specs.declared.policy.Policy.{Policy}
use Rattle.sql_ast.specs.declared.statement.CreateTable.{CreateTable}
use Rattle.sql_ast.specs.declared.statement.RowSecurityChange.{RowSecurityChange}
use Rattle.sql_ast.specs.declared.statement.RowSecurityChange.TheVariants as change
use Rattle.sql_ast.specs.declared.statement.ColumnDefinition.{ColumnDefinition}
use Rattle.sql_ast.specs.Layout.{Layout}
use Rattle.expressions.specs.Meaning.{UserNames}
use Rattle.expressions.specs.Stages.{require}
use Rattle.abstract_database.specs.Lists.{TheName, Among, name_cmp, change_first, has_double}
use Rattle.abstract_database.specs.Database.{TableOf, Table, Database, is_table_named, table_named, table_cmp, descriptor_cmp, action_number, grantor_name, grantee_name}
use Rattle.abstract_database.specs.Privileges.{all_actions, owner_descriptor, owner_descriptors, granted, with_option_of, with_descriptors}
use Rattle.abstract_database.specs.Definitions.{definitions_of, key_names, layout_of, with_table, without_table, with_table_changed, with_row_security, row_security_changed}
use Rattle.abstract_database.specs.Checks.{is_column_of, checked_create_table, checked_drop_table, checked_alter_table}
use Rattle.abstract_database.specs.Statements.{as_seen, done}
use Rattle.abstract_database.proofs.ListLemmas.{bytes_same, same_bytes}
use Rattle.abstract_database.proofs.ResultLemmas.{bind_ok, ok_inside, require_ok}
use Rattle.database_laws.specs.Definitions.{new_table, granted_to_owner, AddsTable, DropsTable, with_flag, AltersTable, create_table_adds_it, drop_table_takes_it, alter_table_sets_a_flag}
use Rattle.database_laws.proofs.WholeLists.{PutFrom, fresh, there, merged, of_put, put_old, put_new, of_map, find_none}
use Rattle.database_laws.proofs.WholePrivileges.{in_map}
use Rattle.database_laws.proofs.WholeRoles.{names_same}
use Rattle.database_laws.proofs.WholeSets.{numbered_same}
use Rattle.database_laws.proofs.WriteLemmas.{find_changed}
use Rattle.database_laws.proofs.RoleLemmas.{one_new, some_gone}

-- ---- ALTER TABLE

flag_is : (c : RowSecurityChange) (t : TableOf) → row_security_changed c t ≡ with_flag c t
flag_is change.Enable t = refl
flag_is change.Disable t = refl
flag_is change.Force t = refl
flag_is change.NoForce t = refl

flag_name : (c : RowSecurityChange) (t : TableOf) → (row_security_changed c t).name ≡ t.name
flag_name change.Enable t = refl
flag_name change.Disable t = refl
flag_name change.Force t = refl
flag_name change.NoForce t = refl

module _ (p q : Table → Bool) (f : Table → Table) (same : (x : Table) → p (f x) ≡ p x) (apart : (x : Table) → q x ≡ true → p x ≡ false) where
  find_other_at : (x : Table) (xs : List Table) (b : Bool) → q x ≡ b → find p (change_first q f xs) ≡ find p xs → find p (cond b (f x ∷ xs) (x ∷ change_first q f xs)) ≡ cond (p x) (Some x) (find p xs)
  find_other_at x xs true e go =
      ap (λ b. cond b (Some (f x)) (find p xs)) (same x ∙ apart x e)
      ∙ sym (ap (λ b. cond b (Some x) (find p xs)) (apart x e))
  find_other_at x xs false e go = ap (λ o. cond (p x) (Some x) o) go

  find_other : (xs : List Table) → find p (change_first q f xs) ≡ find p xs
  find_other [] = refl
  find_other (x ∷ xs) = find_other_at x xs (q x) refl (find_other xs)

other_name : (other table : TheName) → bytes_eq other table ≡ false → (x : Table) → is_table_named table x ≡ true → is_table_named other x ≡ false
other_name other table apart x e = false_from_ne_true (is_table_named other x)
    (λ h. both_ways (bytes_eq other table) apart (same_bytes other table (sym (bytes_same x.definition.name other h) ∙ bytes_same x.definition.name table e)))

pub table_altered : alter_table_sets_a_flag
table_altered db pair s t e named is =
    let f = with_row_security s.change in
    let c = bind_ok (checked_alter_table db (as_seen pair db) s) (λ free. Ok (done tag.AlterTable (with_table_changed s.table f db))) e is in
    subst (AltersTable db s t) (ok_inside (done tag.AlterTable (with_table_changed s.table f db)) e c.2) (record {
      altered = find_changed (is_table_named s.table) f (λ x. ap (λ n. bytes_eq n s.table) (flag_name s.change x.definition)) db.tables
          ∙ ap (option_map f) named
          ∙ ap (λ (d : TableOf). Some (record t { definition = d })) (flag_is s.change t.definition);
      other_tables = λ other apart. find_other (is_table_named other) (is_table_named s.table) f (λ x. ap (λ n. bytes_eq n other) (flag_name s.change x.definition)) (other_name other s.table apart) db.tables;
      others = refl;
      answer = refl;
    })

-- ---- DROP TABLE

pub table_dropped : drop_table_takes_it
table_dropped db pair s e is =
    let c = bind_ok (checked_drop_table db (as_seen pair db) s) (λ free. Ok (done tag.DropTable (without_table s.table db))) e is in
    subst (DropsTable db s) (ok_inside (done tag.DropTable (without_table s.table db)) e c.2) (record {
      tables = λ t. some_gone (is_table_named s.table) (λ (x : Table). x.definition.name ≡ s.table) db.tables t (bytes_same t.definition.name s.table) (same_bytes t.definition.name s.table);
      descriptors = λ d. some_gone (λ (x : Descriptor). bytes_eq x.table s.table) (λ (x : Descriptor). x.table ≡ s.table) db.descriptors d (bytes_same d.table s.table) (same_bytes d.table s.table);
      policies = λ p. some_gone (λ (x : Policy). bytes_eq x.table s.table) (λ (x : Policy). x.table ≡ s.table) db.policies p (bytes_same p.table s.table) (same_bytes p.table s.table);
      others = refl;
      answer = refl;
    })

-- ---- CREATE TABLE: the owner's descriptors

then_equal : (a b : Ordering) → ordering_then a b ≡ Equal → (a ≡ Equal) × (b ≡ Equal)
then_equal Equal b e = (refl, e)
then_equal Less b e = cc
then_equal Greater b e = cc

-- what is equal in the order of descriptors is for one table and one action
same_table : (x y : Descriptor) → descriptor_cmp x y ≡ Equal → (x.table ≡ y.table) × (x.action ≡ y.action)
same_table x y e =
    let column = ordering_then (option_cmp nat_cmp x.column y.column) (ordering_then (name_cmp (grantor_name x.grantor) (grantor_name y.grantor)) (name_cmp (grantee_name x.grantee) (grantee_name y.grantee))) in
    let table = then_equal (name_cmp x.table y.table) (ordering_then (nat_cmp (action_number x.action) (action_number y.action)) column) e in
    let number = then_equal (nat_cmp (action_number x.action) (action_number y.action)) column table.1 in
    (names_same x.table y.table table.0, numbered_same x.action y.action number.0)

module _ (s : CreateTable) (owner : TheName) where
  abbrev IsOwners : Descriptor → Type 0
  IsOwners d = (a : Action) × (d ≡ granted_to_owner s owner a)

  -- an owner's descriptor stays as it is where another one is granted
  unchanged : (y x : Descriptor) → IsOwners y → with_option_of y x ≡ y
  unchanged y x o = ap (λ (z : Descriptor). with_option_of z x) o.1 ∙ sym o.1

  owners_of_table : (d : Descriptor) → IsOwners d → d.table ≡ s.table
  owners_of_table d o = ap (λ (z : Descriptor). z.table) o.1

  same_owners : (d y : Descriptor) → IsOwners d → IsOwners y → d.action ≡ y.action → y ≡ d
  same_owners d y o k e =
      k.1 ∙ ap (λ a. granted_to_owner s owner a) (sym (ap (λ (z : Descriptor). z.action) k.1) ∙ sym e ∙ ap (λ (z : Descriptor). z.action) o.1) ∙ sym o.1

  -- a descriptor of another table, or one of the owner's
  abbrev IsApartOrOwners : Descriptor → Type 0
  IsApartOrOwners d = (d.table ≡ s.table → ⊥) ⊎ IsOwners d

  keeps_one : (d w : Descriptor) (cur : List Descriptor) → IsOwners d → IsApartOrOwners w → Among w cur → Among w (granted d cur)
  keeps_one d w cur o k h = elim (put_old descriptor_cmp with_option_of d cur w h) [
    | inl stays ↦ stays
    | inr joins ↦ elim k [
      | inl apart ↦ absurd (apart (sym (same_table d w joins.0).0 ∙ owners_of_table d o))
      | inr own ↦ subst (λ x. Among x (granted d cur)) (unchanged w d own) joins.1
    ]
  ]

  gives_one : (d : Descriptor) (cur : List Descriptor) → IsOwners d → ((y : Descriptor) → Among y cur → IsApartOrOwners y) → Among d (granted d cur)
  gives_one d cur o each = elim (put_new descriptor_cmp with_option_of d cur) [
    | inl h ↦ h
    | inr at ↦ elim (each at.0 at.1) [
      | inl apart ↦ absurd (apart (sym (same_table d at.0 at.2).0 ∙ owners_of_table d o))
      | inr own ↦ subst (λ x. Among x (granted d cur)) (unchanged at.0 d own ∙ same_owners d at.0 o own (same_table d at.0 at.2).1) at.3
    ]
  ]

  -- where a descriptor comes from after one of the owner's was granted
  from_one : (d : Descriptor) (cur : List Descriptor) → IsOwners d → ((y : Descriptor) → Among y cur → IsApartOrOwners y) → (w : Descriptor) → PutFrom descriptor_cmp with_option_of d cur w → Among w cur ⊎ IsOwners w
  from_one d cur o each w (fresh is) = inr (subst IsOwners is o)
  from_one d cur o each w (there h) = inl h
  from_one d cur o each w (merged y h e is) = elim (each y h) [
    | inl apart ↦ absurd (apart (sym (same_table d y e).0 ∙ owners_of_table d o))
    | inr own ↦ inl (subst (λ x. Among x cur) (sym (unchanged y d own) ∙ is) h)
  ]

  still : (d : Descriptor) (cur : List Descriptor) → IsOwners d → ((y : Descriptor) → Among y cur → IsApartOrOwners y) → (w : Descriptor) → Among w (granted d cur) → IsApartOrOwners w
  still d cur o each w h = elim (from_one d cur o each w (of_put descriptor_cmp with_option_of d cur w h)) [ inl k ↦ each w k | inr own ↦ inr own ]

  keeps_all : (ds cur : List Descriptor) → ((d : Descriptor) → Among d ds → IsOwners d) → (w : Descriptor) → IsApartOrOwners w → Among w cur → Among w (with_descriptors ds cur)
  keeps_all [] cur o w k h = h
  keeps_all (d ∷ ds) cur o w k h = keeps_all ds (granted d cur) (λ x l. o x (inr l)) w k (keeps_one d w cur (o d (inl refl)) k h)

  gives_all : (ds cur : List Descriptor) → ((d : Descriptor) → Among d ds → IsOwners d) → ((y : Descriptor) → Among y cur → IsApartOrOwners y) → (w : Descriptor) → Among w ds → Among w (with_descriptors ds cur)
  gives_all [] cur o each w h = absurd h
  gives_all (d ∷ ds) cur o each w (inl is) = keeps_all ds (granted d cur) (λ x l. o x (inr l)) w (inr (subst IsOwners is (o d (inl refl)))) (subst (λ x. Among x (granted d cur)) is (gives_one d cur (o d (inl refl)) each))
  gives_all (d ∷ ds) cur o each w (inr later) = gives_all ds (granted d cur) (λ x l. o x (inr l)) (still d cur (o d (inl refl)) each) w later

  from_all : (ds cur : List Descriptor) → ((d : Descriptor) → Among d ds → IsOwners d) → ((y : Descriptor) → Among y cur → IsApartOrOwners y) → (w : Descriptor) → Among w (with_descriptors ds cur) → Among w cur ⊎ IsOwners w
  from_all [] cur o each w h = inl h
  from_all (d ∷ ds) cur o each w h = elim (from_all ds (granted d cur) (λ x l. o x (inr l)) (still d cur (o d (inl refl)) each) w h) [
    | inl k ↦ from_one d cur (o d (inl refl)) each w (of_put descriptor_cmp with_option_of d cur w k)
    | inr own ↦ inr own
  ]

  each_action : (a : Action) → Among a all_actions
  each_action action.Select = inl refl
  each_action action.Insert = inr (inl refl)
  each_action action.Update = inr (inr (inl refl))
  each_action action.Delete = inr (inr (inr (inl refl)))

  are_owners : (d : Descriptor) → Among d (owner_descriptors s.table owner) → IsOwners d
  are_owners d h = let from = of_map (owner_descriptor s.table owner) all_actions d h in (from.0, sym from.2)

  into_owners : (d : Descriptor) → IsOwners d → Among d (owner_descriptors s.table owner)
  into_owners d o = subst (λ x. Among x (owner_descriptors s.table owner)) (sym o.1) (in_map (owner_descriptor s.table owner) all_actions o.0 (each_action o.0))

  owner_given : (set : List Descriptor) → ((y : Descriptor) → Among y set → y.table ≡ s.table → ⊥) → (d : Descriptor) → Among d (with_descriptors (owner_descriptors s.table owner) set) ↔ (Among d set ⊎ IsOwners d)
  owner_given set apart d = (
    from_all (owner_descriptors s.table owner) set are_owners (λ y h. inl (apart y h)) d,
    λ k. elim k [
      | inl old ↦ keeps_all (owner_descriptors s.table owner) set are_owners d (inl (apart d old)) old
      | inr own ↦ gives_all (owner_descriptors s.table owner) set are_owners (λ y h. inl (apart y h)) d (into_owners d own)
    ],
  )

-- ---- CREATE TABLE

none_of_option : {X : Type 0} (o : Option X) → is_none o ≡ true → o ≡ None
none_of_option None e = refl
none_of_option (Some x) e = cc

record Created (db : Database) (s : CreateTable) (layout : Layout) : Type 0 where
  layout_is : layout ≡ layout_of s.elements
  unused : (t : Table) → Among t db.tables → t.definition.name ≡ s.table → ⊥

created : (db : Database) (users : UserNames) (s : CreateTable) (layout : Layout) → checked_create_table db users s ≡ Ok layout → Created db s layout
created db users s layout is =
    let named = bind_ok (require (is_none (table_named db s.table)) DuplicateTable) _ layout is in
    let once = bind_ok (require (not (has_double (map (λ (d : ColumnDefinition). d.column) (definitions_of s.elements)))) DuplicateColumn) _ layout named.2 in
    let key_once = bind_ok (require (not (has_double (key_names s.elements))) DuplicateColumn) _ layout once.2 in
    let key_found = bind_ok (require (list_all (is_column_of (definitions_of s.elements)) (key_names s.elements)) UndefinedColumn) _ layout key_once.2 in
    let few = bind_ok (require (nat_le (length (definitions_of s.elements)) 16 && nat_lt (length db.tables) 1024) ProgramLimitExceeded) _ layout key_found.2 in
    let none = none_of_option (table_named db s.table) (require_ok (is_none (table_named db s.table)) DuplicateTable named.0 named.1) in
    record {
      layout_is = sym (ok_inside (layout_of s.elements) layout few.2);
      unused = λ t h same. both_ways (is_table_named s.table t) (find_none (is_table_named s.table) db.tables t none h) (same_bytes t.definition.name s.table same);
    }

pub table_added : create_table_adds_it
table_added db pair s e whole is =
    let c = bind_ok (checked_create_table db (as_seen pair db) s) (λ layout. Ok (done tag.CreateTable (with_table s.table pair.current layout db))) e is in
    let f = created db (as_seen pair db) s c.0 c.1 in
    subst (AddsTable db s pair.current) (ap (λ l. done tag.CreateTable (with_table s.table pair.current l db)) (sym f.layout_is) ∙ ok_inside (done tag.CreateTable (with_table s.table pair.current c.0 db)) e c.2) (record {
      tables = one_new table_cmp (new_table s pair.current) db.tables (λ y h k. f.unused y h (sym (names_same s.table y.definition.name k)));
      descriptors = owner_given s pair.current db.descriptors (λ d h same. let at = whole.definitions.descriptors.for_tables d h in f.unused at.0 at.1 (sym at.2.table ∙ same));
      others = refl;
      answer = refl;
    })
