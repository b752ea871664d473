-- A defining statement that brings nothing hidden to light, over two databases that look alike to all that a login role may act as.
use Rattle.std.proofs.Common.{◌≡◌, ◌&&◌, ◌||◌, Bool, true, false, not, cond, filter, find, is_none, length, bytes_eq, List, [], ◌∷◌, Option, Some, None, Result, Ok, Err, refl, sym, ap, ◌∙◌, subst, Ordering, Less, Equal, Greater, is_eq, is_lt}
use Rattle.std.specs.Option.{option_map}
use Rattle.std.proofs.Math.Path.{fun_ext}
use Rattle.sql_types.specs.Row.{Row}
use Rattle.sql_types.specs.declared.state.SqlState.{SqlState}
use Rattle.sql_types.specs.declared.state.SqlState.TheVariants.{DuplicateTable}
use Rattle.sql_types.specs.declared.tag.Tag.{Tag}
use Rattle.sql_types.specs.declared.tag.Tag.TheVariants as tag
use Rattle.sql_types.specs.declared.warning.Warning.{Warning}
use Rattle.sql_types.specs.declared.warning.Warning.TheVariants as warning
use Rattle.sql_types.specs.declared.value.Value.TheVariants.{Bool as Boolean}
use Rattle.sql_ast.specs.declared.privilege.Action.{Action}
use Rattle.sql_ast.specs.declared.privilege.Action.TheVariants as action
use Rattle.sql_ast.specs.declared.privilege.Descriptor.{Descriptor}
use Rattle.sql_ast.specs.declared.policy.Policy.{Policy}
use Rattle.sql_ast.specs.declared.statement.DefiningStatement.{DefiningStatement}
use Rattle.sql_ast.specs.declared.statement.DefiningStatement.TheVariants as defining
use Rattle.sql_ast.specs.declared.statement.CreateRole.{CreateRole}
use Rattle.sql_ast.specs.declared.statement.DropRole.{DropRole}
use Rattle.sql_ast.specs.Layout.{Layout}
use Rattle.sql_ast.specs.declared.statement.CreateTable.{CreateTable}
use Rattle.sql_ast.specs.declared.statement.DropTable.{DropTable}
use Rattle.sql_ast.specs.declared.statement.Grant.{Grant}
use Rattle.sql_ast.specs.declared.statement.Revoke.{Revoke}
use Rattle.expressions.specs.Outcome.{Outcome}
use Rattle.expressions.specs.Meaning.{UserNames}
use Rattle.expressions.specs.Stages.{◌>>=◌, require}
use Rattle.abstract_database.specs.Lists.{TheName, put, the_new, drop_where}
use Rattle.abstract_database.specs.Database.{TableOf, Table, Database, is_table_named, is_role_named, table_cmp, table_named, definition_named, rows_in, rows_named, without_rows}
use Rattle.abstract_database.specs.Expressions.{own_scope, value_on}
use Rattle.abstract_database.specs.Guards.{is_guarded, is_for_action, is_for_role, applicable, using_clause, guard_formula, guard}
use Rattle.abstract_database.specs.Roles.{is_in, is_superuser, bypasses_row_security, IsSuperuser}
use Rattle.abstract_database.specs.Checks.{checked_layout, checked_create_role, checked_drop_role, checked_create_table, checked_drop_table, checked_grant, checked_revoke}
use Rattle.abstract_database.specs.Privileges.{privileges_of, leaves_out, granted_by, with_descriptors}
use Rattle.abstract_database.specs.Definitions.{with_role, without_role, with_table, without_table}
use Rattle.abstract_database.specs.Statements.{Effect, done, warned, create_role, drop_role, create_table, drop_table, grant, revoke, UserPair, as_seen, define}
use Rattle.abstract_database.proofs.ElementLemmas.{any_holds}
use Rattle.abstract_database.proofs.ListLemmas.{bytes_same, same_bytes}
use Rattle.abstract_database.proofs.ResultLemmas.{ok_inside, bind_ok, require_ok, Every, every_bind, every_ok}
use Rattle.database_laws.specs.Worlds.{is_unmet, has_value, is_silent, SameApparentRows}
use Rattle.database_laws.specs.HiddenRuns.{MayActAs, SameApparentRowsForPairs, may_unhide}
use Rattle.database_laws.proofs.EachDefinition.{each_definition}
use Rattle.database_laws.proofs.StageLemmas.{bared}
use Rattle.database_laws.proofs.WholeRoles.{names_same}
use Rattle.database_laws.proofs.AllAlikeRows.{EndAll}

-- ---- a table that is put among others, or dropped

module _ (name : TheName) where
  new_found_at : (n y : Table) (ys : List Table) (o : Ordering) → is_table_named name n ≡ true → is_table_named name y ≡ false → find (is_table_named name) (put table_cmp the_new n ys) ≡ Some n →
      find (is_table_named name) (cond (is_lt o) (n ∷ y ∷ ys) (cond (is_eq o) (n ∷ ys) (y ∷ put table_cmp the_new n ys))) ≡ Some n
  new_found_at n y ys Less e f go = ap (λ b. cond b (Some n) (find (is_table_named name) (y ∷ ys))) e
  new_found_at n y ys Equal e f go = ap (λ b. cond b (Some n) (find (is_table_named name) ys)) e
  new_found_at n y ys Greater e f go = ap (λ b. cond b (Some y) (find (is_table_named name) (put table_cmp the_new n ys))) f ∙ go

  missing_at : (y : Table) (o : Option Table) (b : Bool) → is_table_named name y ≡ b → cond b (Some y) o ≡ None → (is_table_named name y ≡ false) × (o ≡ None)
  missing_at y o true is e = cc
  missing_at y o false is e = (is, e)

  new_found : (n : Table) (ys : List Table) → is_table_named name n ≡ true → find (is_table_named name) ys ≡ None → find (is_table_named name) (put table_cmp the_new n ys) ≡ Some n
  new_found n [] e missing = ap (λ b. cond b (Some n) None) e
  new_found n (y ∷ ys) e missing =
      let apart = missing_at y (find (is_table_named name) ys) (is_table_named name y) refl missing in
      new_found_at n y ys (table_cmp n y) e apart.0 (new_found n ys e apart.1)

  other_found_at : (n y : Table) (ys : List Table) (o : Ordering) → table_cmp n y ≡ o → is_table_named name n ≡ false → find (is_table_named name) (put table_cmp the_new n ys) ≡ find (is_table_named name) ys →
      find (is_table_named name) (cond (is_lt o) (n ∷ y ∷ ys) (cond (is_eq o) (n ∷ ys) (y ∷ put table_cmp the_new n ys))) ≡ find (is_table_named name) (y ∷ ys)
  other_found_at n y ys Less is e go = ap (λ b. cond b (Some n) (find (is_table_named name) (y ∷ ys))) e
  other_found_at n y ys Equal is e go =
      let one : n.definition.name ≡ y.definition.name = names_same n.definition.name y.definition.name is in
      let not_y : is_table_named name y ≡ false = sym (ap (λ (x : TheName). bytes_eq x name) one) ∙ e in
      ap (λ b. cond b (Some n) (find (is_table_named name) ys)) e ∙ sym (ap (λ b. cond b (Some y) (find (is_table_named name) ys)) not_y)
  other_found_at n y ys Greater is e go = ap (λ o. cond (is_table_named name y) (Some y) o) go

  other_found : (n : Table) (ys : List Table) → is_table_named name n ≡ false → find (is_table_named name) (put table_cmp the_new n ys) ≡ find (is_table_named name) ys
  other_found n [] e = ap (λ b. cond b (Some n) None) e
  other_found n (y ∷ ys) e = other_found_at n y ys (table_cmp n y) refl e (other_found n ys e)

  -- tables of another name are dropped
  kept_at : (gone : Table → Bool) (y : Table) (ys : List Table) (b c : Bool) → is_table_named name y ≡ b → gone y ≡ c → (b ≡ true → c ≡ false) → find (is_table_named name) (drop_where gone ys) ≡ find (is_table_named name) ys →
      find (is_table_named name) (cond (not c) (y ∷ drop_where gone ys) (drop_where gone ys)) ≡ cond b (Some y) (find (is_table_named name) ys)
  kept_at gone y ys b false is e apart go = ap (λ x. cond x (Some y) (find (is_table_named name) (drop_where gone ys))) is ∙ ap (λ o. cond b (Some y) o) go
  kept_at gone y ys true true is e apart go = let contrary : true ≡ false = apart refl in cc
  kept_at gone y ys false true is e apart go = go

  kept_found : (gone : Table → Bool) → ((y : Table) → is_table_named name y ≡ true → gone y ≡ false) → (ys : List Table) → find (is_table_named name) (drop_where gone ys) ≡ find (is_table_named name) ys
  kept_found gone apart [] = refl
  kept_found gone apart (y ∷ ys) = kept_at gone y ys (is_table_named name y) (gone y) refl refl (apart y) (kept_found gone apart ys)

  gone_at : (y : Table) (ys : List Table) (b : Bool) → is_table_named name y ≡ b → find (is_table_named name) (drop_where (is_table_named name) ys) ≡ None →
      find (is_table_named name) (cond (not b) (y ∷ drop_where (is_table_named name) ys) (drop_where (is_table_named name) ys)) ≡ None
  gone_at y ys true is go = go
  gone_at y ys false is go = ap (λ x. cond x (Some y) (find (is_table_named name) (drop_where (is_table_named name) ys))) is ∙ go

  none_found : (ys : List Table) → find (is_table_named name) (drop_where (is_table_named name) ys) ≡ None
  none_found [] = refl
  none_found (y ∷ ys) = gone_at y ys (is_table_named name y) refl (none_found ys)

-- ---- policies of other tables

filter_kept_at : {X : Type 0} (f gone : X → Bool) (x : X) (xs : List X) (b c : Bool) → f x ≡ b → gone x ≡ c → (b ≡ true → c ≡ false) → filter f (drop_where gone xs) ≡ filter f xs →
    filter f (cond (not c) (x ∷ drop_where gone xs) (drop_where gone xs)) ≡ cond b (x ∷ filter f xs) (filter f xs)
filter_kept_at f gone x xs b false is e apart go = ap (λ m. cond m (x ∷ filter f (drop_where gone xs)) (filter f (drop_where gone xs))) is ∙ ap (λ l. cond b (x ∷ l) l) go
filter_kept_at f gone x xs true true is e apart go = let contrary : true ≡ false = apart refl in cc
filter_kept_at f gone x xs false true is e apart go = go

filter_kept : {X : Type 0} (f gone : X → Bool) → ((x : X) → f x ≡ true → gone x ≡ false) → (xs : List X) → filter f (drop_where gone xs) ≡ filter f xs
filter_kept f gone apart [] = refl
filter_kept f gone apart (x ∷ xs) = filter_kept_at f gone x xs (f x) (gone x) refl refl (apart x) (filter_kept f gone apart xs)

both_true : (a b c : Bool) → (a && b && c) ≡ true → a ≡ true
both_true true b c e = refl
both_true false b c e = cc

module _ (db : Database) (name : TheName) (t : TableOf) (other : bytes_eq t.name name ≡ false) where
  abbrev dropped : Database
  dropped = without_table name db

  same_policies : (role : TheName) (a : Action) → applicable dropped role t a ≡ applicable db role t a
  same_policies role a = filter_kept (λ (p : Policy). bytes_eq p.table t.name && is_for_action a p.command && is_for_role db.memberships role p.roles) (λ (p : Policy). bytes_eq p.table name)
      (λ p h.
      let own : p.table ≡ t.name = bytes_same p.table t.name (both_true (bytes_eq p.table t.name) (is_for_action a p.command) (is_for_role db.memberships role p.roles) h) in
      ap (λ (x : TheName). bytes_eq x name) own ∙ other) db.policies

  abbrev unless_free : UserNames → Outcome → Outcome
  unless_free users o = cond (is_guarded db users.current t) o (Ok (Boolean true))

  same_guard : (users : UserNames) (a : Action) (row : Row) → guard dropped users t a using_clause row ≡ guard db users t a using_clause row
  same_guard users a row = ap (λ (ps : List Policy). unless_free users (value_on (own_scope t) users (row ∷ []) (guard_formula using_clause ps))) (same_policies users.current a)

  abbrev silent_by : Outcome → Outcome → Outcome → Bool
  silent_by o p q = is_unmet o && (has_value p && has_value q)

  same_silent : (users : UserNames) → is_silent dropped users t ≡ is_silent db users t
  same_silent users = fun_ext (λ (row : Row).
      ap (λ o. silent_by o (guard dropped users t action.Update using_clause row) (guard dropped users t action.Delete using_clause row)) (same_guard users action.Select row)
      ∙ ap (λ o. silent_by (guard db users t action.Select using_clause row) o (guard dropped users t action.Delete using_clause row)) (same_guard users action.Update row)
      ∙ ap (λ o. silent_by (guard db users t action.Select using_clause row) (guard db users t action.Update using_clause row) o) (same_guard users action.Delete row))

-- ---- nothing is hidden from a superuser

free_of : (a b c : Bool) → (a && not (true || b) && c) ≡ false
free_of true b c = refl
free_of false b c = refl

module _ (db : Database) (users : UserNames) (t : TableOf) (super : is_superuser db users.current ≡ true) where
  unguarded : is_guarded db users.current t ≡ false
  unguarded =
      ap (λ (b : Bool). t.row_security && not (b || bypasses_row_security db users.current) && (t.forced || not (is_in db.memberships users.current t.owner))) super
      ∙ free_of t.row_security (bypasses_row_security db users.current) (t.forced || not (is_in db.memberships users.current t.owner))

  lets_pass : (a : Action) (row : Row) → guard db users t a using_clause row ≡ Ok (Boolean true)
  lets_pass a row = ap (λ (b : Bool). cond b (value_on (own_scope t) users (row ∷ []) (guard_formula using_clause (applicable db users.current t a))) (Ok (Boolean true))) unguarded

  says_something : (row : Row) → is_silent db users t row ≡ false
  says_something row = ap (λ (o : Outcome). is_unmet o && (has_value (guard db users t action.Update using_clause row) && has_value (guard db users t action.Delete using_clause row))) (lets_pass action.Select row)

  all_at : (row : Row) (rows : List Row) → drop_where (is_silent db users t) rows ≡ rows → drop_where (is_silent db users t) (row ∷ rows) ≡ row ∷ rows
  all_at row rows go = ap (λ b. cond (not b) (row ∷ drop_where (is_silent db users t) rows) (drop_where (is_silent db users t) rows)) (says_something row) ∙ ap (λ l. row ∷ l) go

  all_apparent : (rows : List Row) → drop_where (is_silent db users t) rows ≡ rows
  all_apparent [] = refl
  all_apparent (row ∷ rows) = all_at row rows (all_apparent rows)

-- ---- what the statements leave

is_missing : (o : Option Table) → is_none o ≡ true → o ≡ None
is_missing None e = refl
is_missing (Some t) e = cc

warned_database : (t : Tag) (b : Bool) (w : Warning) (db : Database) → (warned t b w db).database ≡ db
warned_database t true w db = refl
warned_database t false w db = refl

-- nothing but the descriptors changes
abbrev WithDescriptors : Database → Effect → Type 0
WithDescriptors db x = (ds : List Descriptor) × (x.database ≡ record db { descriptors = ds })

grant_leaves : (db : Database) (users : UserNames) (s : Grant) → Every (WithDescriptors db) (grant db users s)
grant_leaves db users s =
    every_bind (WithDescriptors db) (checked_grant db users s) _ (λ table is.
    every_ok (WithDescriptors db) (warned tag.Grant (leaves_out db users.current table s.privileges) warning.PrivilegeNotGranted
    (record db { descriptors = with_descriptors (granted_by db users.current table (privileges_of table.layout s.privileges) s.grantees s.with_grant_option) db.descriptors })) (
      with_descriptors (granted_by db users.current table (privileges_of table.layout s.privileges) s.grantees s.with_grant_option) db.descriptors,
      warned_database tag.Grant (leaves_out db users.current table s.privileges) warning.PrivilegeNotGranted _,
    ))

revoke_leaves : (db : Database) (users : UserNames) (s : Revoke) → Every (WithDescriptors db) (revoke db users s)
revoke_leaves db users s =
    every_bind (WithDescriptors db) (checked_revoke db users s) _ (λ c is.
    every_ok (WithDescriptors db) (warned tag.Revoke (leaves_out db users.current c.table s.privileges) warning.PrivilegeNotRevoked (record db { descriptors = c.descriptors }))
    (c.descriptors, warned_database tag.Revoke (leaves_out db users.current c.table s.privileges) warning.PrivilegeNotRevoked _))

-- a new table, of a name that was not there
abbrev WithTable : CreateTable → TheName → Database → Effect → Type 0
WithTable s owner db x = (table_named db s.table ≡ None) × ((layout : Layout) × (x.database ≡ with_table s.table owner layout db))

create_table_leaves : (db : Database) (users : UserNames) (s : CreateTable) → Every (WithTable s users.current db) (create_table db users s)
create_table_leaves db users s x is =
    let checks = bind_ok (checked_create_table db users s) (λ layout. Ok (done tag.CreateTable (with_table s.table users.current layout db))) x is in
    let named = bind_ok (require (is_none (table_named db s.table)) DuplicateTable) (λ u. checked_layout s.elements (length db.tables)) checks.0 checks.1 in (
      is_missing (table_named db s.table) (require_ok (is_none (table_named db s.table)) DuplicateTable named.0 named.1),
      (checks.0, ap (λ (y : Effect). y.database) (sym (ok_inside (done tag.CreateTable (with_table s.table users.current checks.0 db)) x checks.2))),
    )

-- one database where nothing else is done after checks
abbrev Leaves : Database → Effect → Type 0
Leaves db x = x.database ≡ db

drop_table_leaves : (db : Database) (users : UserNames) (s : DropTable) → Every (Leaves (without_table s.table db)) (drop_table db users s)
drop_table_leaves db users s = every_bind (Leaves (without_table s.table db)) (checked_drop_table db users s) _ (λ u is. every_ok (Leaves (without_table s.table db)) (done tag.DropTable (without_table s.table db)) refl)

-- the tables stay
abbrev KeepsTables : Database → Effect → Type 0
KeepsTables db x = x.database.tables ≡ db.tables

create_role_keeps : (db : Database) (users : UserNames) (s : CreateRole) → Every (KeepsTables db) (create_role db users s)
create_role_keeps db users s = every_bind (KeepsTables db) (checked_create_role db users s) _ (λ u is. every_ok (KeepsTables db) (done tag.CreateRole (with_role s db)) refl)

drop_role_keeps : (db : Database) (users : UserNames) (s : DropRole) → Every (KeepsTables db) (drop_role db users s)
drop_role_keeps db users s = every_bind (KeepsTables db) (checked_drop_role db users s) _ (λ u is. every_ok (KeepsTables db) (done tag.DropRole (without_role s.role db)) refl)

-- ---- two databases afterwards

module _ (pairs : UserPair → Bool) (d e : Database) (alike : SameApparentRowsForPairs pairs d e) (pair : UserPair) (may : MayActAs d pairs pair) where
  abbrev users : UserNames
  users = as_seen pair d

  abbrev SameDefinitions : Database → Database → Type 0
  SameDefinitions a b = without_rows a ≡ without_rows b

  with_other_descriptors : (a b : Database) (ds fs : List Descriptor) → a ≡ record d { descriptors = ds } → b ≡ record e { descriptors = fs } → SameDefinitions a b → SameApparentRowsForPairs pairs a b
  with_other_descriptors a b ds fs on_d on_e same =
      let there : SameDefinitions (record d { descriptors = ds }) (record e { descriptors = fs }) = sym (ap without_rows on_d) ∙ same ∙ ap without_rows on_e in
      subst (λ (x : Database). SameApparentRowsForPairs pairs x b) (sym on_d)
      (subst (λ (y : Database). SameApparentRowsForPairs pairs (record d { descriptors = ds }) y) (sym on_e)
      (record { definitions = there; rows = λ v acts. record { definitions = there; rows = λ t h. (alike.rows v acts).rows t h } }))

  -- ---- a new table

  module _ (s : CreateTable) (l k : Layout) (not_d : table_named d s.table ≡ None) (not_e : table_named e s.table ≡ None) where
    abbrev a : Database
    a = with_table s.table users.current l d

    abbrev b : Database
    b = with_table s.table users.current k e

    abbrev new_of : Layout → Table
    new_of layout = record { definition = record { name = s.table; owner = users.current; layout = layout; row_security = false; forced = false }; rows = [] }

    new_rows_at : (v : UserNames) (t : TableOf) → bytes_eq s.table t.name ≡ true → drop_where (is_silent a v t) (rows_named a t.name) ≡ drop_where (is_silent b v t) (rows_named b t.name)
    new_rows_at v t own =
        let same : s.table ≡ t.name = bytes_same s.table t.name own in
        let on_d : rows_named a t.name ≡ [] = ap rows_in (new_found t.name (new_of l) d.tables own (subst (λ (n : TheName). table_named d n ≡ None) same not_d)) in
        let on_e : rows_named b t.name ≡ [] = ap rows_in (new_found t.name (new_of k) e.tables own (subst (λ (n : TheName). table_named e n ≡ None) same not_e)) in
        ap (drop_where (is_silent a v t)) on_d ∙ sym (ap (drop_where (is_silent b v t)) on_e)

    old_rows_at : (v : UserNames) → SameApparentRows v d e → (t : TableOf) → bytes_eq s.table t.name ≡ false → definition_named a t.name ≡ Some t → drop_where (is_silent a v t) (rows_named a t.name) ≡ drop_where (is_silent b v t) (rows_named b t.name)
    old_rows_at v look t other h =
        let on_d : table_named a t.name ≡ table_named d t.name = other_found t.name (new_of l) d.tables other in
        let on_e : table_named b t.name ≡ table_named e t.name = other_found t.name (new_of k) e.tables other in
        ap (λ (o : Option Table). drop_where (is_silent d v t) (rows_in o)) on_d
        ∙ look.rows t (sym (ap (option_map (λ (x : Table). x.definition)) on_d) ∙ h)
        ∙ sym (ap (λ (o : Option Table). drop_where (is_silent e v t) (rows_in o)) on_e)

    rows_beside_new : (v : UserNames) → SameApparentRows v d e → (t : TableOf) → (own : Bool) → bytes_eq s.table t.name ≡ own → definition_named a t.name ≡ Some t →
        drop_where (is_silent a v t) (rows_named a t.name) ≡ drop_where (is_silent b v t) (rows_named b t.name)
    rows_beside_new v look t true own h = new_rows_at v t own
    rows_beside_new v look t false own h = old_rows_at v look t own h

    with_new_table : SameDefinitions a b → SameApparentRowsForPairs pairs a b
    with_new_table same = record {
      definitions = same;
      rows = λ v acts. record { definitions = same; rows = λ t h. rows_beside_new (as_seen v d) (alike.rows v acts) t (bytes_eq s.table t.name) refl h };
    }

  -- ---- a table less

  module _ (name : TheName) where
    abbrev c : Database
    c = without_table name d

    abbrev f : Database
    f = without_table name e

    none_left : (t : TableOf) → bytes_eq t.name name ≡ true → definition_named c t.name ≡ Some t → ⊥
    none_left t own h =
        let same : t.name ≡ name = bytes_same t.name name own in
        let nothing : ◌≡◌ {A = Option TableOf} None (Some t) = sym (ap (option_map (λ (x : Table). x.definition)) (ap (λ (n : TheName). find (is_table_named n) (drop_where (is_table_named name) d.tables)) same ∙ none_found name d.tables)) ∙ h in
        cc

    left_rows_at : (v : UserNames) → SameApparentRows v d e → (t : TableOf) (own : Bool) → bytes_eq t.name name ≡ own → definition_named c t.name ≡ Some t →
        drop_where (is_silent c v t) (rows_named c t.name) ≡ drop_where (is_silent f v t) (rows_named f t.name)
    left_rows_at v look t true own h = absurd (none_left t own h)
    left_rows_at v look t false own h =
        let apart : (y : Table) → is_table_named t.name y ≡ true → is_table_named name y ≡ false = λ y is. ap (λ (n : TheName). bytes_eq n name) (bytes_same y.definition.name t.name is) ∙ own in
        let on_d : table_named c t.name ≡ table_named d t.name = kept_found t.name (is_table_named name) apart d.tables in
        let on_e : table_named f t.name ≡ table_named e t.name = kept_found t.name (is_table_named name) apart e.tables in
        ap (λ (g : Row → Bool). drop_where g (rows_named c t.name)) (same_silent d name t own v)
        ∙ ap (λ (o : Option Table). drop_where (is_silent d v t) (rows_in o)) on_d
        ∙ look.rows t (sym (ap (option_map (λ (x : Table). x.definition)) on_d) ∙ h)
        ∙ sym (ap (λ (o : Option Table). drop_where (is_silent e v t) (rows_in o)) on_e)
        ∙ sym (ap (λ (g : Row → Bool). drop_where g (rows_named f t.name)) (same_silent e name t own v))

    with_less : SameDefinitions c f → SameApparentRowsForPairs pairs c f
    with_less same = record {
      definitions = same;
      rows = λ v acts. record { definitions = same; rows = λ t h. left_rows_at (as_seen v d) (alike.rows v acts) t (bytes_eq t.name name) refl h };
    }

  -- ---- what a superuser does

  super_of : IsSuperuser d pair.current → is_superuser d pair.current ≡ true
  super_of found = any_holds (λ r. is_role_named pair.current r && r.attributes.superuser) d.roles found.0 found.1
      (ap (λ (b : Bool). b && found.0.attributes.superuser) (same_bytes found.0.name pair.current found.2) ∙ found.3)

  rows_are : IsSuperuser d pair.current → (t : TableOf) → definition_named d t.name ≡ Some t → rows_named d t.name ≡ rows_named e t.name
  rows_are super t h =
      let own = alike.rows pair may in
      let on_e : is_superuser e pair.current ≡ true = ap (λ (x : Database). is_superuser x pair.current) (sym own.definitions) ∙ super_of super in
      sym (all_apparent d users t (super_of super) (rows_named d t.name)) ∙ own.rows t h ∙ all_apparent e users t on_e (rows_named e t.name)

  with_other_roles : (a b : Database) → IsSuperuser d pair.current → a.tables ≡ d.tables → b.tables ≡ e.tables → SameDefinitions a b → SameApparentRowsForPairs pairs a b
  with_other_roles a b super on_d on_e same = record {
    definitions = same;
    rows = λ v acts. record {
      definitions = same;
      rows = λ t h.
          let there : definition_named d t.name ≡ Some t = ap (λ (ts : List Table). option_map (λ (x : Table). x.definition) (find (is_table_named t.name) ts)) (sym on_d) ∙ h in
          ap (λ (ts : List Table). drop_where (is_silent a (as_seen v a) t) (rows_in (find (is_table_named t.name) ts))) on_d
          ∙ ap (drop_where (is_silent a (as_seen v a) t)) (rows_are super t there)
          ∙ ap (λ (x : Database). drop_where (is_silent x (as_seen v a) t) (rows_named e t.name)) same
          ∙ sym (ap (λ (ts : List Table). drop_where (is_silent b (as_seen v a) t) (rows_in (find (is_table_named t.name) ts))) on_e);
    };
  }

  -- ---- each statement

  abbrev Carried : DefiningStatement → Effect → Effect → Type 0
  Carried x p q = define d users x ≡ Ok p → define e users x ≡ Ok q → SameDefinitions p.database q.database → SameApparentRowsForPairs pairs p.database q.database

  carried : (x : DefiningStatement) → may_unhide x ≡ false → (p q : Effect) → Carried x p q
  carried (defining.CreateRole s) told p q on_d on_e same =
      with_other_roles p.database q.database ((each_definition d users (defining.CreateRole s)).may p on_d) (create_role_keeps d users s p on_d) (create_role_keeps e users s q on_e) same
  carried (defining.DropRole s) told p q on_d on_e same =
      with_other_roles p.database q.database ((each_definition d users (defining.DropRole s)).may p on_d) (drop_role_keeps d users s p on_d) (drop_role_keeps e users s q on_e) same
  carried (defining.GrantRole s) told p q on_d on_e same = cc
  carried (defining.RevokeRole s) told p q on_d on_e same = cc
  carried (defining.CreateTable s) told p q on_d on_e same =
      let m = create_table_leaves d users s p on_d in
      let n = create_table_leaves e users s q on_e in
      let there : SameDefinitions (with_table s.table users.current m.1.0 d) (with_table s.table users.current n.1.0 e) = sym (ap without_rows m.1.1) ∙ same ∙ ap without_rows n.1.1 in
      subst (λ (x : Database). SameApparentRowsForPairs pairs x q.database) (sym m.1.1)
      (subst (λ (y : Database). SameApparentRowsForPairs pairs (with_table s.table users.current m.1.0 d) y) (sym n.1.1) (with_new_table s m.1.0 n.1.0 m.0 n.0 there))
  carried (defining.DropTable s) told p q on_d on_e same =
      let m = drop_table_leaves d users s p on_d in
      let n = drop_table_leaves e users s q on_e in
      let there : SameDefinitions (without_table s.table d) (without_table s.table e) = sym (ap without_rows m) ∙ same ∙ ap without_rows n in
      subst (λ (x : Database). SameApparentRowsForPairs pairs x q.database) (sym m)
      (subst (λ (y : Database). SameApparentRowsForPairs pairs (without_table s.table d) y) (sym n) (with_less s.table there))
  carried (defining.AlterTable s) told p q on_d on_e same = cc
  carried (defining.CreatePolicy s) told p q on_d on_e same = cc
  carried (defining.DropPolicy s) told p q on_d on_e same = cc
  carried (defining.Grant s) told p q on_d on_e same =
      let m = grant_leaves d users s p on_d in
      let n = grant_leaves e users s q on_e in
      with_other_descriptors p.database q.database m.0 n.0 m.1 n.1 same
  carried (defining.Revoke s) told p q on_d on_e same =
      let m = revoke_leaves d users s p on_d in
      let n = revoke_leaves e users s q on_e in
      with_other_descriptors p.database q.database m.0 n.0 m.1 n.1 same

  abbrev BareAlike : Result Effect SqlState → Result Effect SqlState → Type 0
  BareAlike r k = (r >>= λ x. Ok (bared x)) ≡ (k >>= λ x. Ok (bared x))

  bare_alike : (x : DefiningStatement) → BareAlike (define d users x) (define e users x)
  bare_alike x = sym (each_definition d users x).apart ∙ ap (λ (y : Database). define y users x) alike.definitions ∙ (each_definition e users x).apart

  ended_at : (x : DefiningStatement) (r k : Result Effect SqlState) → define d users x ≡ r → define e users x ≡ k → BareAlike r k → ((p : Effect) → r ≡ Ok p → may_unhide x ≡ false) → EndAll pairs r k
  ended_at x (Ok p) (Ok q) on_d on_e bare told =
      let same = ok_inside (bared p) (bared q) bare in
      (ap (λ (y : Effect). y.answer) same, carried x (told p refl) p q on_d on_e (ap (λ (y : Effect). y.database) same))
  ended_at x (Err i) (Err j) on_d on_e bare told = cc
  ended_at x (Ok p) (Err j) on_d on_e bare told = cc
  ended_at x (Err i) (Ok q) on_d on_e bare told = cc

  -- refused alike; and carried out alike, if it brings nothing hidden to light
  pub definition_ends : (x : DefiningStatement) → ((p : Effect) → define d users x ≡ Ok p → may_unhide x ≡ false) → EndAll pairs (define d users x) (define e users x)
  definition_ends x told = ended_at x (define d users x) (define e users x) refl refl (bare_alike x) told

  -- and one that may bring it is refused alike
  pub refused_alike : (x : DefiningStatement) (code : SqlState) → define d users x ≡ Err code → define e users x ≡ Err code
  refused_alike x code is = at (define e users x) refl where
    at : (k : Result Effect SqlState) → define e users x ≡ k → k ≡ Err code
    at (Err j) on_e = let both : ◌≡◌ {A = Result Effect SqlState} (Err code) (Err j) = sym (ap (λ (r : Result Effect SqlState). r >>= λ y. Ok (bared y)) is) ∙ bare_alike x ∙ ap (λ (r : Result Effect SqlState). r >>= λ y. Ok (bared y)) on_e in sym both
    at (Ok q) on_e = let both : ◌≡◌ {A = Result Effect SqlState} (Err code) (Ok (bared q)) = sym (ap (λ (r : Result Effect SqlState). r >>= λ y. Ok (bared y)) is) ∙ bare_alike x ∙ ap (λ (r : Result Effect SqlState). r >>= λ y. Ok (bared y)) on_e in cc
