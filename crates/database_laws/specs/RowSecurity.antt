-- Laws of whom row security concerns.
use Rattle.std.specs.Prelude.{◌≡◌, true, false}
use Rattle.sql_ast.specs.declared.role.Role.{Role}
use Rattle.abstract_database.specs.Lists.{TheName, Among}
use Rattle.abstract_database.specs.Database.{TableOf, Database}
use Rattle.abstract_database.specs.Roles.{IsIn, IsSuperuser}
use Rattle.abstract_database.specs.Guards.{is_guarded}

-- a role of this name has BYPASSRLS
abbrev pub BypassesRowSecurity : Database → TheName → Type 0
BypassesRowSecurity db name = (r : Role) × Among r db.roles × (r.name ≡ name) × (r.attributes.bypass_rls ≡ true)

-- it spares superusers, and roles with BYPASSRLS, forced or not
abbrev pub superusers_are_spared : Type 0
superusers_are_spared = (db : Database) (role : TheName) (t : TableOf) → IsSuperuser db role → is_guarded db role t ≡ false

abbrev pub bypassing_roles_are_spared : Type 0
bypassing_roles_are_spared = (db : Database) (role : TheName) (t : TableOf) → BypassesRowSecurity db role → is_guarded db role t ≡ false

-- where it is not forced, also roles in the owner
abbrev pub owners_are_spared : Type 0
owners_are_spared = (db : Database) (role : TheName) (t : TableOf) → t.forced ≡ false → IsIn db.memberships role t.owner → is_guarded db role t ≡ false

-- a table without it is guarded from nobody
abbrev pub tables_without_it_are_open : Type 0
tables_without_it_are_open = (db : Database) (role : TheName) (t : TableOf) → t.row_security ≡ false → is_guarded db role t ≡ false

-- and a table with it from each other role
abbrev pub others_are_guarded : Type 0
others_are_guarded = (db : Database) (role : TheName) (t : TableOf) → t.row_security ≡ true → (IsSuperuser db role → ⊥) → (BypassesRowSecurity db role → ⊥) →
    (t.forced ≡ false → IsIn db.memberships role t.owner → ⊥) → is_guarded db role t ≡ true
