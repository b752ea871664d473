-- CREATE ROLE and DROP ROLE in each database of the definitions.
use Rattle.std.proofs.Common.{◌≡◌, Bool, true, false, not, ◌||◌, ◌&&◌, List, [], ◌∷◌, ◌++◌, None, Result, Ok, Err, fold, bytes_eq, refl, sym, ap, ◌∙◌, subst, IsTrue}
use Rattle.std.specs.List.{list_any}
use Rattle.sql_types.specs.Name.{IsUtf8Name}
use Rattle.sql_types.specs.declared.answer.Answer.TheVariants.{Done}
use Rattle.sql_types.specs.declared.tag.Tag.TheVariants as tag
use Rattle.sql_types.specs.declared.state.SqlState.{SqlState}
use Rattle.sql_types.specs.declared.state.SqlState.TheVariants.{DuplicateObject, UndefinedObject, InsufficientPrivilege, DependentObjects}
use Rattle.sql_ast.specs.declared.role.Role.{Role}
use Rattle.sql_ast.specs.declared.role.RoleAttribute.{RoleAttribute}
use Rattle.sql_ast.specs.declared.role.RoleAttribute.TheVariants.{Superuser, Login, BypassRls}
use Rattle.sql_ast.specs.declared.role.RoleAttributes.{RoleAttributes}
use Rattle.sql_ast.specs.declared.statement.DatabaseStatement.TheVariants as on_database
use Rattle.sql_ast.specs.declared.statement.DefiningStatement.TheVariants as defining
use Rattle.sql_ast.specs.declared.statement.CreateRole.{CreateRole}
use Rattle.sql_ast.specs.declared.statement.DropRole.{DropRole}
use Rattle.sql_ast.specs.Layout.{all_differ}
use Rattle.sql_ast.specs.Read.{contradicts}
use Rattle.expressions.specs.Meaning.{UserNames}
use Rattle.expressions.specs.Stages.{◌>>=◌, require}
use Rattle.abstract_database.specs.Lists.{TheName, put, the_new, drop_where}
use Rattle.abstract_database.specs.Database.{Database, is_role_named, has_role, role_cmp}
use Rattle.abstract_database.specs.Roles.{is_superuser}
use Rattle.abstract_database.specs.Definitions.{with_attribute, no_attributes, with_role, without_role, is_in_use}
use Rattle.abstract_database.specs.Statements.{Effect, done, create_role, drop_role}
use Rattle.abstract_database.specs.Whole.{IsWhole}
use Rattle.stored_database.specs.Definitions.{Definitions, database_with}
use Rattle.stored_database.specs.Valid.{Describes}
use Rattle.stored_database.proofs.Wholeness.{described_whole}
use Rattle.database_laws.proofs.OrderLemmas.{ordered}
use Rattle.database_laws.proofs.WholeRoles.{whole_of, create_role_whole, drop_role_whole}
use Rattle.catalogue.specs.declared.change.SchemaChange.TheVariants as change
use Rattle.catalogue.specs.Changes.{concerns}
use Rattle.catalogue_changes.specs.Carried.{AreUsers}
use Rattle.schema_statements.specs.RoleUsage.{uses_role, stays}
use Rattle.schema_statements.proofs.Using.{in_use}
use Rattle.schema_statements.proofs.RoleCarrying.{Makes, people_described}

-- ---- what is looked up

found_alike : (d : Definitions) (db : Database) (name : TheName) (b : Bool) → Describes d db → list_any (is_role_named name) d.roles ≡ b → has_role db name ≡ b
found_alike d db name b h e = ap (λ (x : Database). has_role x name) h.is ∙ e

superuser_alike : (d : Definitions) (db : Database) (users : UserNames) (name : TheName) (b : Bool) → Describes d db → users.current ≡ name →
    list_any (λ r. is_role_named name r && r.attributes.superuser) d.roles ≡ b → is_superuser db users.current ≡ b
superuser_alike d db users name b h by e = ap (λ (x : Database). is_superuser x users.current) h.is ∙ ap (λ n. is_superuser (database_with d h.rows) n) by ∙ e

-- ---- CREATE ROLE

-- attributes, written without a contrary
abbrev written_if : Bool → RoleAttribute → List RoleAttribute
written_if true a = a ∷ []
written_if false a = []

abbrev written : RoleAttributes → List RoleAttribute
written a = written_if a.superuser Superuser ++ (written_if a.login Login ++ written_if a.bypass_rls BypassRls)

as_written : (s l b : Bool) → fold with_attribute no_attributes (written (record { superuser = s; login = l; bypass_rls = b })) ≡ record { superuser = s; login = l; bypass_rls = b }
as_written true true true = refl
as_written true true false = refl
as_written true false true = refl
as_written true false false = refl
as_written false true true = refl
as_written false true false = refl
as_written false false true = refl
as_written false false false = refl

no_contraries : (s l b : Bool) → IsTrue (all_differ contradicts (written (record { superuser = s; login = l; bypass_rls = b })))
no_contraries true true true = refl
no_contraries true true false = refl
no_contraries true false true = refl
no_contraries true false false = refl
no_contraries false true true = refl
no_contraries false true false = refl
no_contraries false false true = refl
no_contraries false false false = refl

created : (db : Database) (users : UserNames) (s : CreateRole) → has_role db s.role ≡ false → is_superuser db users.current ≡ true → create_role db users s ≡ Ok (done tag.CreateRole (with_role s db))
created db users s free allowed =
    ap (λ b. (require (not b) DuplicateObject >>= λ named. require (is_superuser db users.current) InsufficientPrivilege) >>= λ free. Ok (done tag.CreateRole (with_role s db))) free
    ∙ ap (λ b. require b InsufficientPrivilege >>= λ free. Ok (done tag.CreateRole (with_role s db))) allowed

-- whatever is written twice, the role has attributes that may be written once
created_whole : (db : Database) (users : UserNames) (s : CreateRole) → IsUtf8Name s.role → has_role db s.role ≡ false → is_superuser db users.current ≡ true → IsWhole db → IsWhole (with_role s db)
created_whole db users s named free allowed w =
    let a = fold with_attribute no_attributes s.attributes in
    let once : CreateRole = record { role = s.role; attributes = written a } in
    let is = created db users once free allowed in
    subst (λ (x : RoleAttributes). IsWhole (record db { roles = put role_cmp the_new (record { name = s.role; attributes = x }) db.roles })) (as_written a.superuser a.login a.bypass_rls)
    (whole_of (with_role once db) (ordered db users (on_database.Defining (defining.CreateRole once)) (done tag.CreateRole (with_role once db)) is w.definitions.order)
    (create_role_whole db users once (record { role = named; no_contraries = no_contraries a.superuser a.login a.bypass_rls }) w (done tag.CreateRole (with_role once db)) is))

module _ (d : Definitions) (current : TheName) (s : CreateRole) where
  pub creates : (r : Role) → IsUtf8Name s.role → r.name ≡ s.role → r.attributes ≡ fold with_attribute no_attributes s.attributes →
      list_any (is_role_named s.role) d.roles ≡ false → list_any (λ x. is_role_named current x && x.attributes.superuser) d.roles ≡ true →
      (db : Database) (users : UserNames) → Describes d db → users.current ≡ current → Makes (λ db users. create_role db users s) (change.PutRole r) d (Done tag.CreateRole None None) db users
  creates r named name attributes free allowed db users h by =
      let not_there = found_alike d db s.role false h free in
      let may = superuser_alike d db users current true h by allowed in
      let whole = created_whole db users s named not_there may (described_whole d db h) in
      let new : record { name = s.role; attributes = fold with_attribute no_attributes s.attributes } ≡ r = ap (λ n. record { name = n; attributes = fold with_attribute no_attributes s.attributes }) (sym name) ∙ ap (λ a. record { name = r.name; attributes = a }) (sym attributes) in
      let roles : (with_role s db).roles ≡ put role_cmp the_new r d.roles = ap (λ x. put role_cmp the_new x db.roles) new ∙ ap (λ (x : Database). put role_cmp the_new r x.roles) h.is in
      let is : with_role s db ≡ record db { roles = put role_cmp the_new r d.roles; memberships = d.memberships } = ap (λ rs. record db { roles = rs }) roles ∙ ap (λ (x : Database). record db { roles = put role_cmp the_new r d.roles; memberships = x.memberships }) h.is in
      record {
        after = with_role s db;
        effects = created db users s not_there may;
        changes = ap (λ x. record db { roles = put role_cmp the_new x db.roles }) new;
        whole = whole;
        describes = subst (λ x. Describes (record d { roles = put role_cmp the_new r d.roles }) x) (sym is)
            (people_described d db (put role_cmp the_new r d.roles) d.memberships h (subst IsWhole is whole));
      }

  pub refused_known : list_any (is_role_named s.role) d.roles ≡ true → (db : Database) (users : UserNames) → Describes d db → users.current ≡ current → create_role db users s ≡ Err DuplicateObject
  refused_known e db users h by =
      ap (λ b. (require (not b) DuplicateObject >>= λ named. require (is_superuser db users.current) InsufficientPrivilege) >>= λ free. Ok (done tag.CreateRole (with_role s db))) (found_alike d db s.role true h e)

  pub refused_to_create : list_any (is_role_named s.role) d.roles ≡ false → list_any (λ x. is_role_named current x && x.attributes.superuser) d.roles ≡ false →
      (db : Database) (users : UserNames) → Describes d db → users.current ≡ current → create_role db users s ≡ Err InsufficientPrivilege
  refused_to_create free e db users h by =
      ap (λ b. (require (not b) DuplicateObject >>= λ named. require (is_superuser db users.current) InsufficientPrivilege) >>= λ free. Ok (done tag.CreateRole (with_role s db))) (found_alike d db s.role false h free)
      ∙ ap (λ b. require b InsufficientPrivilege >>= λ free. Ok (done tag.CreateRole (with_role s db))) (superuser_alike d db users current false h by e)

-- ---- DROP ROLE

module _ (d : Definitions) (current session : TheName) (s : DropRole) where
  abbrev keeps : Bool
  keeps = stays s.role current session d.tables

  abbrev dropped : Bool → Bool → Bool → Database → Result Effect SqlState
  dropped there allowed kept db =
      (require (there && true) UndefinedObject >>= λ named. require allowed InsufficientPrivilege >>= λ may. require (not kept) DependentObjects) >>= λ free. Ok (done tag.DropRole (without_role s.role db))

  drops_alike : (db : Database) (users : UserNames) → Describes d db → AreUsers current session users →
      drop_role db users s ≡ dropped (list_any (is_role_named s.role) d.roles) (list_any (λ x. is_role_named current x && x.attributes.superuser) d.roles) keeps db
  drops_alike db users h by =
      ap (λ b. dropped b (is_superuser db users.current) (is_in_use db s.role || bytes_eq users.current s.role || bytes_eq users.session s.role) db) (found_alike d db s.role _ h refl)
      ∙ ap (λ b. dropped (list_any (is_role_named s.role) d.roles) b (is_in_use db s.role || bytes_eq users.current s.role || bytes_eq users.session s.role) db) (superuser_alike d db users current _ h by.current refl)
      ∙ ap (λ b. dropped (list_any (is_role_named s.role) d.roles) (list_any (λ x. is_role_named current x && x.attributes.superuser) d.roles) (b || bytes_eq users.current s.role || bytes_eq users.session s.role) db)
      (ap (λ (x : Database). is_in_use x s.role) h.is ∙ in_use s.role d h.rows h.each_table)
      ∙ ap (λ n. dropped (list_any (is_role_named s.role) d.roles) (list_any (λ x. is_role_named current x && x.attributes.superuser) d.roles) (list_any (uses_role s.role) d.tables || bytes_eq n s.role || bytes_eq users.session s.role) db) by.current
      ∙ ap (λ n. dropped (list_any (is_role_named s.role) d.roles) (list_any (λ x. is_role_named current x && x.attributes.superuser) d.roles) (list_any (uses_role s.role) d.tables || bytes_eq current s.role || bytes_eq n s.role) db) by.session

  pub refused_unknown : list_any (is_role_named s.role) d.roles ≡ false → (db : Database) (users : UserNames) → Describes d db → AreUsers current session users → drop_role db users s ≡ Err UndefinedObject
  refused_unknown e db users h by =
      drops_alike db users h by
      ∙ ap (λ b. dropped b (list_any (λ x. is_role_named current x && x.attributes.superuser) d.roles) keeps db) e

  module _ (there : list_any (is_role_named s.role) d.roles ≡ true) where
    pub refused_to_drop : list_any (λ x. is_role_named current x && x.attributes.superuser) d.roles ≡ false →
        (db : Database) (users : UserNames) → Describes d db → AreUsers current session users → drop_role db users s ≡ Err InsufficientPrivilege
    refused_to_drop e db users h by =
        drops_alike db users h by
        ∙ ap (λ b. dropped b (list_any (λ x. is_role_named current x && x.attributes.superuser) d.roles) keeps db) there
        ∙ ap (λ b. dropped true b keeps db) e

    module _ (allowed : list_any (λ x. is_role_named current x && x.attributes.superuser) d.roles ≡ true) where
      by_use : (b : Bool) → keeps ≡ b → (db : Database) (users : UserNames) → Describes d db → AreUsers current session users → drop_role db users s ≡ dropped true true b db
      by_use b e db users h by =
          drops_alike db users h by
          ∙ ap (λ x. dropped x (list_any (λ x. is_role_named current x && x.attributes.superuser) d.roles) keeps db) there
          ∙ ap (λ x. dropped true x keeps db) allowed
          ∙ ap (λ x. dropped true true x db) e

      pub refused_in_use : keeps ≡ true → (db : Database) (users : UserNames) → Describes d db → AreUsers current session users → drop_role db users s ≡ Err DependentObjects
      refused_in_use e db users h by = by_use true e db users h by

      pub drops : keeps ≡ false → (db : Database) (users : UserNames) → Describes d db → AreUsers current session users →
          Makes (λ db users. drop_role db users s) (change.DropRole s.role) d (Done tag.DropRole None None) db users
      drops e db users h by =
          let is = by_use false e db users h by in
          let whole = whole_of (without_role s.role db) (ordered db users (on_database.Defining (defining.DropRole s)) (done tag.DropRole (without_role s.role db)) is (described_whole d db h).definitions.order)
          (drop_role_whole db users s (described_whole d db h) (done tag.DropRole (without_role s.role db)) is) in
          let same : without_role s.role db ≡ record db { roles = drop_where (is_role_named s.role) d.roles; memberships = drop_where (concerns s.role) d.memberships }
          = ap (λ (x : Database). record db { roles = drop_where (is_role_named s.role) x.roles; memberships = drop_where (concerns s.role) x.memberships }) h.is in
          record {
            after = without_role s.role db;
            effects = is;
            changes = refl;
            whole = whole;
            describes = subst (λ x. Describes (record d { roles = drop_where (is_role_named s.role) d.roles; memberships = drop_where (concerns s.role) d.memberships }) x) (sym same)
                (people_described d db (drop_where (is_role_named s.role) d.roles) (drop_where (concerns s.role) d.memberships) h (subst IsWhole same whole));
          }
