-- What defining statements leave of rows, of descriptors and of memberships.
use Rattle.std.proofs.Common.{◌≡◌, ◌&&◌, Bool, true, false, not, cond, find, is_none, bytes_eq, List, [], ◌∷◌, Option, Some, None, Ok, refl, sym, ap, ◌∙◌, subst, inl, inr, Ordering, Less, Equal, Greater, is_eq, is_lt}
use Rattle.std.specs.List.{list_any}
use Rattle.sql_types.specs.declared.state.SqlState.TheVariants.{DuplicateTable, InsufficientPrivilege, InvalidGrantOperation}
use Rattle.sql_types.specs.declared.tag.Tag.{Tag}
use Rattle.sql_types.specs.declared.tag.Tag.TheVariants as tag
use Rattle.sql_types.specs.declared.warning.Warning.{Warning}
use Rattle.sql_types.specs.declared.warning.Warning.TheVariants as warning
use Rattle.sql_ast.specs.declared.privilege.Descriptor.{Descriptor}
use Rattle.sql_ast.specs.Layout.{Layout}
use Rattle.sql_ast.specs.declared.statement.DatabaseStatement.TheVariants as on_database
use Rattle.sql_ast.specs.declared.statement.DefiningStatement.TheVariants as defining
use Rattle.sql_ast.specs.declared.statement.CreateRole.{CreateRole}
use Rattle.sql_ast.specs.declared.statement.DropRole.{DropRole}
use Rattle.sql_ast.specs.declared.statement.CreateTable.{CreateTable}
use Rattle.sql_ast.specs.declared.statement.DropTable.{DropTable}
use Rattle.sql_ast.specs.declared.statement.AlterTable.{AlterTable}
use Rattle.sql_ast.specs.declared.statement.CreatePolicy.{CreatePolicy}
use Rattle.sql_ast.specs.declared.statement.DropPolicy.{DropPolicy}
use Rattle.sql_ast.specs.declared.statement.Grant.{Grant}
use Rattle.sql_ast.specs.declared.statement.Revoke.{Revoke}
use Rattle.expressions.specs.Meaning.{UserNames}
use Rattle.expressions.specs.Stages.{require, each}
use Rattle.abstract_database.specs.Lists.{TheName, Among, put, the_new, drop_where}
use Rattle.abstract_database.specs.Database.{TableOf, Table, Database, is_table_named, table_cmp, descriptor_cmp, table_named, rows_in, rows_named}
use Rattle.abstract_database.specs.Privileges.{privileges_of, leaves_out, granted_by, owner_descriptor, owner_descriptors, all_actions, columns_named, with_descriptors, with_option_of, without_named, without_option, is_taken_by, revoked, has_some_privilege}
use Rattle.abstract_database.specs.Checks.{find_definition, require_roles, grantee_roles, found_column, is_public, checked_create_role, checked_drop_role, checked_create_table, checked_drop_table, checked_alter_table, checked_create_policy, checked_drop_policy, checked_grant, CheckedRevoke, checked_revoke}
use Rattle.abstract_database.specs.Definitions.{with_role, without_role, with_table, without_table, with_table_changed, with_row_security, policy_of, with_policy, without_policy}
use Rattle.abstract_database.specs.Statements.{Effect, done, warned, create_role, drop_role, create_table, drop_table, alter_table, create_policy, drop_policy, grant, revoke, UserPair, as_seen, exec}
use Rattle.abstract_database.proofs.ListLemmas.{bytes_same, same_bytes}
use Rattle.abstract_database.proofs.ResultLemmas.{ok_inside, bind_ok, require_ok, Every, every_bind, every_ok}
use Rattle.database_laws.proofs.WholeLists.{PutFrom, fresh, there, merged, of_put, of_drop, of_change_where, of_map}
use Rattle.database_laws.proofs.WholePrivileges.{table_found, named_of}
use Rattle.database_laws.proofs.PrivilegeLemmas.{revoked_leaves}
use Rattle.database_laws.proofs.WholeRoles.{names_same}
use Rattle.database_laws.proofs.NewTableLemmas.{table_altered}

-- ---- a table that is put among others, or dropped

module _ (name : TheName) where
  new_found_at : (n y : Table) (ys : List Table) (o : Ordering) → is_table_named name n ≡ true → is_table_named name y ≡ false → find (is_table_named name) (put table_cmp the_new n ys) ≡ Some n →
      find (is_table_named name) (cond (is_lt o) (n ∷ y ∷ ys) (cond (is_eq o) (n ∷ ys) (y ∷ put table_cmp the_new n ys))) ≡ Some n
  new_found_at n y ys Less e f go = ap (λ b. cond b (Some n) (find (is_table_named name) (y ∷ ys))) e
  new_found_at n y ys Equal e f go = ap (λ b. cond b (Some n) (find (is_table_named name) ys)) e
  new_found_at n y ys Greater e f go = ap (λ b. cond b (Some y) (find (is_table_named name) (put table_cmp the_new n ys))) f ∙ go

  missing_at : (y : Table) (o : Option Table) (b : Bool) → is_table_named name y ≡ b → cond b (Some y) o ≡ None → (is_table_named name y ≡ false) × (o ≡ None)
  missing_at y o true is e = cc
  missing_at y o false is e = (is, e)

  new_found : (n : Table) (ys : List Table) → is_table_named name n ≡ true → find (is_table_named name) ys ≡ None → find (is_table_named name) (put table_cmp the_new n ys) ≡ Some n
  new_found n [] e missing = ap (λ b. cond b (Some n) None) e
  new_found n (y ∷ ys) e missing =
      let apart = missing_at y (find (is_table_named name) ys) (is_table_named name y) refl missing in
      new_found_at n y ys (table_cmp n y) e apart.0 (new_found n ys e apart.1)

  other_found_at : (n y : Table) (ys : List Table) (o : Ordering) → table_cmp n y ≡ o → is_table_named name n ≡ false → find (is_table_named name) (put table_cmp the_new n ys) ≡ find (is_table_named name) ys →
      find (is_table_named name) (cond (is_lt o) (n ∷ y ∷ ys) (cond (is_eq o) (n ∷ ys) (y ∷ put table_cmp the_new n ys))) ≡ find (is_table_named name) (y ∷ ys)
  other_found_at n y ys Less is e go = ap (λ b. cond b (Some n) (find (is_table_named name) (y ∷ ys))) e
  other_found_at n y ys Equal is e go =
      let one : n.definition.name ≡ y.definition.name = names_same n.definition.name y.definition.name is in
      let not_y : is_table_named name y ≡ false = sym (ap (λ (x : TheName). bytes_eq x name) one) ∙ e in
      ap (λ b. cond b (Some n) (find (is_table_named name) ys)) e ∙ sym (ap (λ b. cond b (Some y) (find (is_table_named name) ys)) not_y)
  other_found_at n y ys Greater is e go = ap (λ o. cond (is_table_named name y) (Some y) o) go

  other_found : (n : Table) (ys : List Table) → is_table_named name n ≡ false → find (is_table_named name) (put table_cmp the_new n ys) ≡ find (is_table_named name) ys
  other_found n [] e = ap (λ b. cond b (Some n) None) e
  other_found n (y ∷ ys) e = other_found_at n y ys (table_cmp n y) refl e (other_found n ys e)

  -- tables of another name are dropped
  kept_at : (gone : Table → Bool) (y : Table) (ys : List Table) (b c : Bool) → is_table_named name y ≡ b → gone y ≡ c → (b ≡ true → c ≡ false) → find (is_table_named name) (drop_where gone ys) ≡ find (is_table_named name) ys →
      find (is_table_named name) (cond (not c) (y ∷ drop_where gone ys) (drop_where gone ys)) ≡ cond b (Some y) (find (is_table_named name) ys)
  kept_at gone y ys b false is e apart go = ap (λ x. cond x (Some y) (find (is_table_named name) (drop_where gone ys))) is ∙ ap (λ o. cond b (Some y) o) go
  kept_at gone y ys true true is e apart go = let contrary : true ≡ false = apart refl in cc
  kept_at gone y ys false true is e apart go = go

  kept_found : (gone : Table → Bool) → ((y : Table) → is_table_named name y ≡ true → gone y ≡ false) → (ys : List Table) → find (is_table_named name) (drop_where gone ys) ≡ find (is_table_named name) ys
  kept_found gone apart [] = refl
  kept_found gone apart (y ∷ ys) = kept_at gone y ys (is_table_named name y) (gone y) refl refl (apart y) (kept_found gone apart ys)

  gone_at : (y : Table) (ys : List Table) (b : Bool) → is_table_named name y ≡ b → find (is_table_named name) (drop_where (is_table_named name) ys) ≡ None →
      find (is_table_named name) (cond (not b) (y ∷ drop_where (is_table_named name) ys) (drop_where (is_table_named name) ys)) ≡ None
  gone_at y ys true is go = go
  gone_at y ys false is go = ap (λ x. cond x (Some y) (find (is_table_named name) (drop_where (is_table_named name) ys))) is ∙ go

  none_found : (ys : List Table) → find (is_table_named name) (drop_where (is_table_named name) ys) ≡ None
  none_found [] = refl
  none_found (y ∷ ys) = gone_at y ys (is_table_named name y) refl (none_found ys)

-- ---- rows of a new table, or of one that was dropped

pub new_rows : (name owner : TheName) (layout : Layout) (db : Database) → table_named db name ≡ None → rows_named (with_table name owner layout db) name ≡ []
new_rows name owner layout db missing = ap rows_in (new_found name (record { definition = record { name = name; owner = owner; layout = layout; row_security = false; forced = false }; rows = [] }) db.tables (same_bytes name name refl) missing)

pub beside_new : (name owner other : TheName) (layout : Layout) (db : Database) → bytes_eq name other ≡ false → rows_named (with_table name owner layout db) other ≡ rows_named db other
beside_new name owner other layout db apart = ap rows_in (other_found other (record { definition = record { name = name; owner = owner; layout = layout; row_security = false; forced = false }; rows = [] }) db.tables apart)

pub dropped_rows : (name : TheName) (db : Database) → rows_named (without_table name db) name ≡ []
dropped_rows name db = ap rows_in (none_found name db.tables)

pub beside_dropped : (name other : TheName) (db : Database) → bytes_eq other name ≡ false → rows_named (without_table name db) other ≡ rows_named db other
beside_dropped name other db apart = ap rows_in (kept_found other (is_table_named name) (λ y is. ap (λ (n : TheName). bytes_eq n name) (bytes_same y.definition.name other is) ∙ apart) db.tables)

-- ---- a descriptor was there, for the same table and with the same grantee

abbrev pub WasIn : List Descriptor → Descriptor → Type 0
WasIn set x = (y : Descriptor) × Among y set × (y.table ≡ x.table) × (y.grantee ≡ x.grantee)

module _ (name : TheName) where
  put_from : (n : Descriptor) (set : List Descriptor) (y : Descriptor) → bytes_eq n.table name ≡ false → bytes_eq y.table name ≡ true → PutFrom descriptor_cmp with_option_of n set y → WasIn set y
  put_from n set y apart of (fresh is) = let contrary : true ≡ false = sym of ∙ ap (λ (m : Descriptor). bytes_eq m.table name) (sym is) ∙ apart in cc
  put_from n set y apart of (there k) = (y, k, refl, refl)
  put_from n set y apart of (merged z k e is) = (z, k, ap (λ (m : Descriptor). m.table) is, ap (λ (m : Descriptor). m.grantee) is)

  -- granted for other tables
  pub granted_beside : (ds set : List Descriptor) (x : Descriptor) → Among x (with_descriptors ds set) → bytes_eq x.table name ≡ true → ((n : Descriptor) → Among n ds → bytes_eq n.table name ≡ false) → WasIn set x
  granted_beside [] set x h of apart = (x, h, refl, refl)
  granted_beside (n ∷ ds) set x h of apart =
      let later = granted_beside ds (put descriptor_cmp with_option_of n set) x h of (λ m k. apart m (inr k)) in
      let first = put_from n set later.0 (apart n (inl refl)) (ap (λ (t : TheName). bytes_eq t name) later.2 ∙ of) (of_put descriptor_cmp with_option_of n set later.0 later.1) in
      (first.0, first.1, first.2 ∙ later.2, first.3 ∙ later.3)

pub owners_beside : (name table owner : TheName) → bytes_eq table name ≡ false → (n : Descriptor) → Among n (owner_descriptors table owner) → bytes_eq n.table name ≡ false
owners_beside name table owner apart n h = let found = of_map (owner_descriptor table owner) all_actions n h in ap (λ (d : Descriptor). bytes_eq d.table name) (sym found.2) ∙ apart

changed_option : (z x : Descriptor) (b : Bool) → cond b (without_option z) z ≡ x → (z.table ≡ x.table) × (z.grantee ≡ x.grantee)
changed_option z x true e = (ap (λ (d : Descriptor). d.table) e, ap (λ (d : Descriptor). d.grantee) e)
changed_option z x false e = (ap (λ (d : Descriptor). d.table) e, ap (λ (d : Descriptor). d.grantee) e)

without_from : (option : Bool) (named set : List Descriptor) (x : Descriptor) → Among x (without_named option named set) → WasIn set x
without_from false named set x h = (x, (of_drop (is_taken_by named) set x h).0, refl, refl)
without_from true named set x h =
    let found = of_change_where (is_taken_by named) without_option set x h in
    let same = changed_option found.0 x (is_taken_by named found.0) found.2 in
    (found.0, found.1, same.0, same.1)

-- ---- the statements

abbrev pub GrantLeaves : Database → UserNames → Grant → Effect → Type 0
GrantLeaves db users s x = (t : TableOf) × (t.name ≡ s.table) × (has_some_privilege db users.current s.table ≡ true)
    × (x.database ≡ record db { descriptors = with_descriptors (granted_by db users.current t (privileges_of t.layout s.privileges) s.grantees s.with_grant_option) db.descriptors })

warned_database : (t : Tag) (b : Bool) (w : Warning) (db : Database) → (warned t b w db).database ≡ db
warned_database t true w db = refl
warned_database t false w db = refl

grant_allowed : (db : Database) (users : UserNames) (s : Grant) (t : TableOf) → checked_grant db users s ≡ Ok t → (find_definition db s.table ≡ Ok t) × (has_some_privilege db users.current s.table ≡ true)
grant_allowed db users s t is =
    let table = bind_ok (find_definition db s.table) _ t is in
    let roles = bind_ok (require_roles db (grantee_roles s.grantees)) _ t table.2 in
    let columns = bind_ok (each (found_column table.0.layout) (columns_named s.privileges)) _ t roles.2 in
    let allowed = bind_ok (require (has_some_privilege db users.current s.table) InsufficientPrivilege) _ t columns.2 in
    let last = bind_ok (require (not (s.with_grant_option && list_any is_public s.grantees)) InvalidGrantOperation) _ t allowed.2 in
    (table.1 ∙ ap (λ (x : TableOf). Ok x) (ok_inside table.0 t last.2), require_ok (has_some_privilege db users.current s.table) InsufficientPrivilege allowed.0 allowed.1)

pub grant_leaves : (db : Database) (users : UserNames) (s : Grant) → Every (GrantLeaves db users s) (grant db users s)
grant_leaves db users s x is =
    let checks = bind_ok (checked_grant db users s) _ x is in
    let allowed = grant_allowed db users s checks.0 checks.1 in (
      checks.0,
      (table_found db s.table checks.0 allowed.0).own,
      allowed.1,
      ap (λ (y : Effect). y.database) (sym (ok_inside _ x checks.2)) ∙ warned_database tag.Grant (leaves_out db users.current checks.0 s.privileges) warning.PrivilegeNotGranted _,
    )

-- what it grants is for its table
pub granted_elsewhere : (db : Database) (users : UserNames) (s : Grant) (t : TableOf) (name : TheName) → bytes_eq t.name name ≡ false →
    (n : Descriptor) → Among n (granted_by db users.current t (privileges_of t.layout s.privileges) s.grantees s.with_grant_option) → bytes_eq n.table name ≡ false
granted_elsewhere db users s t name apart n h =
    let one = named_of db users.current (record { definition = t; rows = [] }) (privileges_of t.layout s.privileges) s.grantees s.with_grant_option n h in
    ap (λ (d : Descriptor). bytes_eq d.table name) (sym one.is) ∙ apart

abbrev pub RevokeLeaves : Database → Effect → Type 0
RevokeLeaves db x = (after : List Descriptor) × ((d : Descriptor) → Among d after → WasIn db.descriptors d) × (x.database ≡ record db { descriptors = after })

revoke_set : (db : Database) (users : UserNames) (s : Revoke) (c : CheckedRevoke) → checked_revoke db users s ≡ Ok c →
    revoked s.grant_option_for s.behavior (granted_by db users.current c.table (privileges_of c.table.layout s.privileges) s.grantees false) db.descriptors ≡ Ok c.descriptors
revoke_set db users s c is =
    let table = bind_ok (find_definition db s.table) _ c is in
    let roles = bind_ok (require_roles db (grantee_roles s.grantees)) _ c table.2 in
    let columns = bind_ok (each (found_column table.0.layout) (columns_named s.privileges)) _ c roles.2 in
    let allowed = bind_ok (require (has_some_privilege db users.current s.table) InsufficientPrivilege) _ c columns.2 in
    let set = bind_ok (revoked s.grant_option_for s.behavior (granted_by db users.current table.0 (privileges_of table.0.layout s.privileges) s.grantees false) db.descriptors) _ c allowed.2 in
    subst (λ (k : CheckedRevoke). revoked s.grant_option_for s.behavior (granted_by db users.current k.table (privileges_of k.table.layout s.privileges) s.grantees false) db.descriptors ≡ Ok k.descriptors)
    (ok_inside (record { table = table.0; descriptors = set.0 }) c set.2) set.1

pub revoke_leaves : (db : Database) (users : UserNames) (s : Revoke) → Every (RevokeLeaves db) (revoke db users s)
revoke_leaves db users s x is =
    let checks = bind_ok (checked_revoke db users s) _ x is in
    let c = checks.0 in
    let named = granted_by db users.current c.table (privileges_of c.table.layout s.privileges) s.grantees false in (
      c.descriptors,
      λ d h. without_from s.grant_option_for named db.descriptors d ((revoked_leaves s.grant_option_for s.behavior named db.descriptors c.descriptors (revoke_set db users s c checks.1)).left d h).0,
      ap (λ (y : Effect). y.database) (sym (ok_inside _ x checks.2)) ∙ warned_database tag.Revoke (leaves_out db users.current c.table s.privileges) warning.PrivilegeNotRevoked _,
    )

abbrev pub CreateTableLeaves : Database → UserNames → CreateTable → Effect → Type 0
CreateTableLeaves db users s x = (table_named db s.table ≡ None) × ((layout : Layout) × (x.database ≡ with_table s.table users.current layout db))

is_missing : (o : Option Table) → is_none o ≡ true → o ≡ None
is_missing None e = refl
is_missing (Some t) e = cc

pub create_table_leaves : (db : Database) (users : UserNames) (s : CreateTable) → Every (CreateTableLeaves db users s) (create_table db users s)
create_table_leaves db users s x is =
    let checks = bind_ok (checked_create_table db users s) _ x is in
    let named = bind_ok (require (is_none (table_named db s.table)) DuplicateTable) _ checks.0 checks.1 in (
      is_missing (table_named db s.table) (require_ok (is_none (table_named db s.table)) DuplicateTable named.0 named.1),
      (checks.0, ap (λ (y : Effect). y.database) (sym (ok_inside (done tag.CreateTable (with_table s.table users.current checks.0 db)) x checks.2))),
    )

-- ---- statements of which nothing but their table, role or policy is changed

abbrev pub Leaves : Database → Effect → Type 0
Leaves db x = x.database ≡ db

pub drop_table_leaves : (db : Database) (users : UserNames) (s : DropTable) → Every (Leaves (without_table s.table db)) (drop_table db users s)
drop_table_leaves db users s = every_bind (Leaves (without_table s.table db)) (checked_drop_table db users s) _ (λ u is. every_ok (Leaves (without_table s.table db)) (done tag.DropTable (without_table s.table db)) refl)

pub alter_table_leaves : (db : Database) (users : UserNames) (s : AlterTable) → Every (Leaves (with_table_changed s.table (with_row_security s.change) db)) (alter_table db users s)
alter_table_leaves db users s =
    every_bind (Leaves (with_table_changed s.table (with_row_security s.change) db)) (checked_alter_table db users s) _ (λ u is.
    every_ok (Leaves (with_table_changed s.table (with_row_security s.change) db)) (done tag.AlterTable (with_table_changed s.table (with_row_security s.change) db)) refl)

pub create_policy_leaves : (db : Database) (users : UserNames) (s : CreatePolicy) → Every (Leaves (with_policy (policy_of s) db)) (create_policy db users s)
create_policy_leaves db users s = every_bind (Leaves (with_policy (policy_of s) db)) (checked_create_policy db users s) _ (λ u is. every_ok (Leaves (with_policy (policy_of s) db)) (done tag.CreatePolicy (with_policy (policy_of s) db)) refl)

pub drop_policy_leaves : (db : Database) (users : UserNames) (s : DropPolicy) → Every (Leaves (without_policy s.table s.policy db)) (drop_policy db users s)
drop_policy_leaves db users s = every_bind (Leaves (without_policy s.table s.policy db)) (checked_drop_policy db users s) _ (λ u is. every_ok (Leaves (without_policy s.table s.policy db)) (done tag.DropPolicy (without_policy s.table s.policy db)) refl)

-- the tables stay
abbrev pub KeepsTables : Database → Effect → Type 0
KeepsTables db x = x.database.tables ≡ db.tables

pub create_role_keeps : (db : Database) (users : UserNames) (s : CreateRole) → Every (KeepsTables db) (create_role db users s)
create_role_keeps db users s = every_bind (KeepsTables db) (checked_create_role db users s) _ (λ u is. every_ok (KeepsTables db) (done tag.CreateRole (with_role s db)) refl)

pub drop_role_keeps : (db : Database) (users : UserNames) (s : DropRole) → Every (KeepsTables db) (drop_role db users s)
drop_role_keeps db users s = every_bind (KeepsTables db) (checked_drop_role db users s) _ (λ u is. every_ok (KeepsTables db) (done tag.DropRole (without_role s.role db)) refl)

-- a table whose row security changes keeps its rows, and so do the others
module _ (db : Database) (pair : UserPair) (s : AlterTable) (x : Effect) (name : TheName) (is : exec db pair (on_database.Defining (defining.AlterTable s)) ≡ Ok x) where
  altered_at : (t : Table) → table_named db s.table ≡ Some t → (b : Bool) → bytes_eq name s.table ≡ b → rows_named x.database name ≡ rows_named db name
  altered_at t named true own =
      let same : s.table ≡ name = sym (bytes_same name s.table own) in
      let altered = table_altered db pair s t x named is in
      subst (λ (n : TheName). rows_named x.database n ≡ rows_named db n) same (ap rows_in altered.altered ∙ sym (ap rows_in named))
  altered_at t named false apart = ap rows_in ((table_altered db pair s t x named is).other_tables name apart)

  pub altered_rows : rows_named x.database name ≡ rows_named db name
  altered_rows =
      let checks = bind_ok (checked_alter_table db (as_seen pair db) s) _ x is in
      let table = bind_ok (find_definition db s.table) _ checks.0 checks.1 in
      let found = table_found db s.table table.0 table.1 in
      altered_at found.table found.named (bytes_eq name s.table) refl
