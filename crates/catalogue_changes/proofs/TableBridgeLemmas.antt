-- Statements that define, alter or drop a table, as changes.
use Rattle.std.proofs.Common.{◌≡◌, Bool, true, false, cond, List, [], ◌∷◌, filter, find, length, bytes_eq, Option, Some, None, Ok, refl, ap, sym, ◌∙◌, subst, inl, inr, arith}
use Rattle.std.specs.List.{list_any}
use Rattle.std.specs.Option.{option_map}
use Rattle.std.specs.declared.cmp.Ordering.{Ordering}
use Rattle.std.specs.declared.cmp.Ordering.TheVariants.{Less, Equal, Greater}
use Rattle.sql_types.specs.declared.state.SqlState.TheVariants.{UndefinedTable}
use Rattle.sql_types.specs.Row.{Row}
use Rattle.sql_ast.specs.declared.policy.Policy.{Policy}
use Rattle.sql_ast.specs.declared.statement.DropTable.{DropTable}
use Rattle.sql_ast.specs.declared.statement.AlterTable.{AlterTable}
use Rattle.sql_ast.specs.declared.statement.RowSecurityChange.{RowSecurityChange}
use Rattle.sql_ast.specs.declared.statement.RowSecurityChange.TheVariants as row_security
use Rattle.expressions.specs.Meaning.{UserNames}
use Rattle.store.proofs.Changes.{itself, same_key, after}
use Rattle.abstract_database.specs.Lists.{TheName, name_cmp, Among, Rising, put, the_new, change_first, found_or}
use Rattle.abstract_database.specs.Database.{TableOf, Table, Database, is_table_named, table_named, table_cmp}
use Rattle.abstract_database.specs.Definitions.{row_security_changed, with_row_security}
use Rattle.abstract_database.specs.Checks.{find_definition, require_owner, checked_drop_table, checked_alter_table}
use Rattle.abstract_database.specs.Statements.{drop_table, alter_table}
use Rattle.abstract_database.specs.Whole.{Each, IsWhole}
use Rattle.abstract_database.proofs.ListLemmas.{bytes_same}
use Rattle.abstract_database.proofs.ElementLemmas.{any_holds}
use Rattle.abstract_database.proofs.ResultLemmas.{bind_ok}
use Rattle.stored_database.specs.Definitions.{TableDefinition, Definitions, table_with, tables_with, policies_of}
use Rattle.expr_parser.specs.Written.{IsAsWritten}
use Rattle.stored_database.specs.Valid.{IsNumbered, Describes}
use Rattle.stored_database.proofs.Lists.{of_flat_map, into_flat_map}
use Rattle.stored_database.proofs.TableParts.{tables_in_order, descriptors_found, policies_found}
use Rattle.stored_database.proofs.Wholeness.{described_whole}
use Rattle.catalogue.specs.Lookups.{is_definition_named}
use Rattle.catalogue.specs.declared.change.SchemaChange.TheVariants as change
use Rattle.catalogue_changes.specs.SchemaChanges.{with_old_rows, conditions_of, AreNamedAlike}
use Rattle.catalogue_changes.specs.StatementChanges.{IsDoneBy, IsTableOf, with_flag}
use Rattle.catalogue_changes.proofs.TableListLemmas.{one_named, one_numbered}
use Rattle.catalogue_changes.proofs.PutListLemmas.{put_at}
use Rattle.catalogue_changes.proofs.DescriptorPutLemmas.{is_for_table}
use Rattle.catalogue_changes.proofs.PutTableLemmas.{clauses_in}
use Rattle.catalogue_changes.proofs.RoleBridgeLemmas.{done_by}

-- ---- what is found

some_here : {X : Type 0} (x y : X) → Some x ≡ Some y → x ≡ y
some_here x y e = cc

pub found_among : {X : Type 0} (test : X → Bool) (xs : List X) (x : X) → find test xs ≡ Some x → Among x xs × (test x ≡ true)
found_among test [] x e = cc
found_among {X} test (y ∷ ys) x e = go (test y) refl e (found_among test ys x) where
  go : (b : Bool) → test y ≡ b → cond b (Some y) (find test ys) ≡ Some x → (find test ys ≡ Some x → Among x ys × (test x ≡ true)) → Among x (y ∷ ys) × (test x ≡ true)
  go true c f later = let is = some_here y x f in (inl is, sym (ap test is) ∙ c)
  go false c f later = let found = later f in (inr found.0, found.1)

-- the table of a name among those with rows
pub table_there : (name : TheName) (ts : List TableDefinition) (rows : List (List Row)) (t : TableDefinition) → length rows ≡ length ts → find (is_definition_named name) ts ≡ Some t
    → (x : Table) × (find (is_table_named name) (tables_with ts rows) ≡ Some x) × (x.definition ≡ t.definition)
table_there name [] rows t many e = cc
table_there name (u ∷ ts) [] t many e = absurd (omega (arith, many))
table_there name (u ∷ ts) (r ∷ rows) t many e = go (is_definition_named name u) e (table_there name ts rows t (omega (arith, many))) where
  go : (b : Bool) → cond b (Some u) (find (is_definition_named name) ts) ≡ Some t
      → (find (is_definition_named name) ts ≡ Some t → (x : Table) × (find (is_table_named name) (tables_with ts rows) ≡ Some x) × (x.definition ≡ t.definition))
      → (x : Table) × (cond b (Some (table_with u r)) (find (is_table_named name) (tables_with ts rows)) ≡ Some x) × (x.definition ≡ t.definition)
  go true f later = (table_with u r, refl, ap (λ (v : TableDefinition). v.definition) (some_here u t f))
  go false f later = later f

-- a table with rows of which the same is said
pub definition_there : (ts : List TableDefinition) (rows : List (List Row)) (x : Table) → length rows ≡ length ts → Among x (tables_with ts rows) → (t : TableDefinition) × Among t ts × (t.definition ≡ x.definition)
definition_there [] rows x many h = absurd h
definition_there (u ∷ ts) [] x many h = absurd h
definition_there (u ∷ ts) (r ∷ rows) x many (inl is) = (u, inl refl, ap (λ (y : Table). y.definition) is)
definition_there (u ∷ ts) (r ∷ rows) x many (inr later) = let found = definition_there ts rows x (omega (arith, many)) later in (found.0, inr found.1, found.2)

-- and the other way round
pub rows_there : (ts : List TableDefinition) (rows : List (List Row)) (t : TableDefinition) → length rows ≡ length ts → Among t ts → (x : Table) × Among x (tables_with ts rows) × (x.definition ≡ t.definition)
rows_there [] rows t many h = absurd h
rows_there (u ∷ ts) [] t many h = absurd (omega (arith, many))
rows_there (u ∷ ts) (r ∷ rows) t many (inl is) = (table_with u r, inl refl, ap (λ (v : TableDefinition). v.definition) is)
rows_there (u ∷ ts) (r ∷ rows) t many (inr later) = let found = rows_there ts rows t (omega (arith, many)) later in (found.0, inr found.1, found.2)

-- ---- tables in which one is put

abbrev put_table_at : Ordering → TableOf → Table → List Table → List Table → List Table
put_table_at o n y ys later = put_at table_cmp with_old_rows o (record { definition = n; rows = [] }) y ys later

-- a table of a known name takes the place of the one of that name
pub put_is_change : (n : TableOf) (change : Table → Table) (x : Table) → change x ≡ record x { definition = n } → (xs : List Table) → Rising table_cmp xs → find (is_table_named n.name) xs ≡ Some x
    → put table_cmp with_old_rows (record { definition = n; rows = [] }) xs ≡ change_first (is_table_named n.name) change xs
put_is_change n change x changed [] rising e = cc
put_is_change n change x changed (y ∷ ys) rising e = go (is_table_named n.name y) refl e (put_is_change n change x changed ys rising.1) where
  at : (o : Ordering) → name_cmp n.name y.definition.name ≡ o
      → put table_cmp with_old_rows (record { definition = n; rows = [] }) (y ∷ ys) ≡ put_table_at o n y ys (put table_cmp with_old_rows (record { definition = n; rows = [] }) ys)
  at o c = ap (λ (p : Ordering). put_table_at p n y ys (put table_cmp with_old_rows (record { definition = n; rows = [] }) ys)) c

  alike : (b : Bool) → is_table_named n.name y ≡ b → change_first (is_table_named n.name) change (y ∷ ys) ≡ cond b (change y ∷ ys) (y ∷ change_first (is_table_named n.name) change ys)
  alike b c = ap (λ (d : Bool). cond d (change y ∷ ys) (y ∷ change_first (is_table_named n.name) change ys)) c

  go : (b : Bool) → is_table_named n.name y ≡ b → cond b (Some y) (find (is_table_named n.name) ys) ≡ Some x
      → (find (is_table_named n.name) ys ≡ Some x → put table_cmp with_old_rows (record { definition = n; rows = [] }) ys ≡ change_first (is_table_named n.name) change ys)
      → put table_cmp with_old_rows (record { definition = n; rows = [] }) (y ∷ ys) ≡ change_first (is_table_named n.name) change (y ∷ ys)
  go true c f later =
      let is = some_here y x f in
      at Equal (ap (λ (m : TheName). name_cmp n.name m) (bytes_same y.definition.name n.name c) ∙ itself n.name)
      ∙ ap (λ (z : Table). z ∷ ys) (ap (λ (z : Table). record z { definition = n }) is ∙ sym changed ∙ sym (ap change is)) ∙ sym (alike true c)
  go false c f later =
      let there = found_among (is_table_named n.name) ys x f in
      at Greater (after y.definition.name n.name (ap (λ (m : TheName). name_cmp y.definition.name m) (sym (bytes_same x.definition.name n.name there.1)) ∙ rising.0 x there.0))
      ∙ ap (λ (zs : List Table). y ∷ zs) (later f) ∙ sym (alike false c)

-- where none has its name, a table is put without regard to old rows
pub put_new_table : (n : TableOf) (xs : List Table) → ((x : Table) → Among x xs → x.definition.name ≡ n.name → ⊥)
    → put table_cmp the_new (record { definition = n; rows = [] }) xs ≡ put table_cmp with_old_rows (record { definition = n; rows = [] }) xs
put_new_table n [] none = refl
put_new_table n (y ∷ ys) none = go (name_cmp n.name y.definition.name) refl (put_new_table n ys (λ x among. none x (inr among))) where
  go : (o : Ordering) → name_cmp n.name y.definition.name ≡ o
      → put table_cmp the_new (record { definition = n; rows = [] }) ys ≡ put table_cmp with_old_rows (record { definition = n; rows = [] }) ys
      → put_at table_cmp the_new o (record { definition = n; rows = [] }) y ys (put table_cmp the_new (record { definition = n; rows = [] }) ys)
      ≡ put_table_at o n y ys (put table_cmp with_old_rows (record { definition = n; rows = [] }) ys)
  go Less c later = refl
  go Equal c later = absurd (none y (inl refl) (sym (same_key n.name y.definition.name c)))
  go Greater c later = ap (λ (zs : List Table). y ∷ zs) later

pub none_changed : {X : Type 0} (test : X → Bool) (xs : List X) → change_first test (λ x. x) xs ≡ xs
none_changed test [] = refl
none_changed {X} test (x ∷ xs) = go (test x) (none_changed test xs) where
  go : (b : Bool) → change_first test (λ y. y) xs ≡ xs → cond b (x ∷ xs) (x ∷ change_first test (λ y. y) xs) ≡ x ∷ xs
  go true later = refl
  go false later = ap (λ (zs : List X). x ∷ zs) later

-- ---- a known table, changed

abbrev pub is_of_table : TheName → Policy → Bool
is_of_table name p = bytes_eq p.table name

module _ (d : Definitions) (db : Database) (s : Describes d db) where
  pub whole : IsWhole db
  whole = described_whole d db s

  module _ (name : TheName) (t : TableDefinition) (found : IsTableOf d name t) where
    pub among : Among t d.tables
    among = (found_among (is_definition_named name) d.tables t found).0

    pub named : t.definition.name ≡ name
    named = bytes_same t.definition.name name (found_among (is_definition_named name) d.tables t found).1

    -- a table with its number, name and columns is as those of the definitions are
    pub alike_with : (u : TableDefinition) → u.id ≡ t.id → u.definition.name ≡ t.definition.name → u.definition.layout ≡ t.definition.layout → Each (AreNamedAlike u) d.tables
    alike_with u same_id same_name same_layout v there = record {
      by_number = λ e. ap (λ (w : TableDefinition). w.definition.name) (one_numbered d.tables s.valid.ids v t there among (e ∙ same_id)) ∙ sym same_name;
      by_name = λ e. ap (λ (w : TableDefinition). w.id) (the_one e) ∙ sym same_id;
      layout = λ e. ap (λ (w : TableDefinition). w.definition.layout) (the_one e) ∙ sym same_layout;
    } where
      the_one : v.definition.name ≡ u.definition.name → v ≡ t
      the_one e = one_named d.tables (tables_in_order d s.valid) v t there among (e ∙ same_name)

    -- its conditions are as they are written
    pub written : Each IsAsWritten (conditions_of t.policies)
    written c there =
        let p = of_flat_map clauses_in t.policies c there in
        s.valid.conditions c (into_flat_map clauses_in (policies_of d.tables) p.0 c (into_flat_map (λ (v : TableDefinition). v.policies) d.tables t p.0 among p.1) p.2)

    pub own_descriptors : filter (is_for_table t.definition.name) db.descriptors ≡ t.descriptors
    own_descriptors = ap (λ (z : Database). filter (is_for_table t.definition.name) z.descriptors) s.is ∙ descriptors_found d s.valid t among

    pub own_policies : filter (is_of_table t.definition.name) db.policies ≡ t.policies
    own_policies = ap (λ (z : Database). filter (is_of_table t.definition.name) z.policies) s.is ∙ policies_found d s.valid t among

    -- the tables of the database with another definition of this one
    pub tables_changed : (n : TableOf) (change : Table → Table) → n.name ≡ t.definition.name → ((x : Table) → x.definition ≡ t.definition → change x ≡ record x { definition = n })
        → change_first (is_table_named name) change db.tables ≡ put table_cmp with_old_rows (record { definition = n; rows = [] }) db.tables
    tables_changed n change same_name changes =
        let x = table_there name d.tables s.rows t s.each_table found in
        let at : find (is_table_named name) db.tables ≡ Some x.0 = ap (λ (z : Database). find (is_table_named name) z.tables) s.is ∙ x.1 in
        let is : n.name ≡ name = same_name ∙ named in
        ap (λ (m : TheName). change_first (is_table_named m) change db.tables) (sym is)
        ∙ sym (put_is_change n change x.0 (changes x.0 x.2) db.tables whole.definitions.order.tables (ap (λ (m : TheName). find (is_table_named m) db.tables) is ∙ at))

    -- where the table stays as it is
    pub tables_same : db.tables ≡ put table_cmp with_old_rows (record { definition = t.definition; rows = [] }) db.tables
    tables_same = sym (none_changed (is_table_named name) db.tables) ∙ tables_changed t.definition (λ x. x) refl (λ x is. ap (λ (n : TableOf). record x { definition = n }) is)

-- ---- ALTER TABLE

changed_name : (c : RowSecurityChange) (t : TableOf) → (row_security_changed c t).name ≡ t.name
changed_name row_security.Enable t = refl
changed_name row_security.Disable t = refl
changed_name row_security.Force t = refl
changed_name row_security.NoForce t = refl

changed_layout : (c : RowSecurityChange) (t : TableOf) → (row_security_changed c t).layout ≡ t.layout
changed_layout row_security.Enable t = refl
changed_layout row_security.Disable t = refl
changed_layout row_security.Force t = refl
changed_layout row_security.NoForce t = refl

pub alter_table_done : (d : Definitions) (db : Database) (users : UserNames) (s : AlterTable) (t : TableDefinition) → Describes d db → IsTableOf d s.table t
    → IsDoneBy (change.PutTable (with_flag s.change t)) d db (alter_table db users s)
alter_table_done d db users s t described found = done_by (change.PutTable (with_flag s.change t)) d db (checked_alter_table db users s) _ (λ u is. record {
  fits = record {
    numbered = record {
      least = numbered.least;
      most = numbered.most;
      descriptors = λ e of. numbered.descriptors e of ∙ sym same_name;
      policies = λ p of. numbered.policies p of ∙ sym same_name;
    };
    alike = alike_with d db described s.table t found (with_flag s.change t) refl same_name (changed_layout s.change t.definition);
    conditions = written d db described s.table t found;
  };
  is = record {
    roles = refl;
    memberships = refl;
    tables = tables_changed d db described s.table t found (row_security_changed s.change t.definition) (with_row_security s.change) same_name
        (λ x is. ap (λ (n : TableOf). record x { definition = row_security_changed s.change n }) is);
    descriptors = record { these_pass = ap (λ (n : TheName). filter (is_for_table n) db.descriptors) same_name ∙ own_descriptors d db described s.table t found; others = refl };
    policies = record { these_pass = ap (λ (n : TheName). filter (is_of_table n) db.policies) same_name ∙ own_policies d db described s.table t found; others = refl };
  };
}) where
  same_name : (row_security_changed s.change t.definition).name ≡ t.definition.name
  same_name = changed_name s.change t.definition

  numbered : IsNumbered t
  numbered = described.valid.tables t (among d db described s.table t found)

-- ---- DROP TABLE

table_of_definition : (o : Option Table) (x : TableOf) → found_or UndefinedTable (option_map (λ (t : Table). t.definition) o) ≡ Ok x → (t : Table) × (o ≡ Some t)
table_of_definition None x e = cc
table_of_definition (Some t) x e = (t, refl)

pub drop_table_done : (d : Definitions) (db : Database) (users : UserNames) (s : DropTable) → Describes d db → IsDoneBy (change.DropTable s.table) d db (drop_table db users s)
drop_table_done d db users s described = done_by (change.DropTable s.table) d db (checked_drop_table db users s) _ (λ u is. record { fits = there u is; is = refl }) where
  there : (u : Unit {0}) → checked_drop_table db users s ≡ Ok u → list_any (is_definition_named s.table) d.tables ≡ true
  there u is =
      let steps = bind_ok (find_definition db s.table) (λ (table : TableOf). require_owner db users table) u is in
      let x = table_of_definition (table_named db s.table) steps.0 steps.1 in
      let known = found_among (is_table_named s.table) db.tables x.0 x.1 in
      let t = definition_there d.tables described.rows x.0 described.each_table (subst (λ (z : Database). Among x.0 z.tables) described.is known.0) in
      any_holds (is_definition_named s.table) d.tables t.0 t.1 (ap (λ (n : TableOf). bytes_eq n.name s.table) t.2 ∙ known.1)
