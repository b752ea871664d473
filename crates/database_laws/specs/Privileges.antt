-- Laws of roles, privileges, GRANT and REVOKE.
use Rattle.std.specs.Prelude.{◌≡◌, ◌↔◌, ℕ, map, Bool, true, false, List, Option, Ok, Err}
use Rattle.sql_types.specs.declared.state.SqlState.{SqlState}
use Rattle.sql_types.specs.declared.state.SqlState.TheVariants.{DependentPrivileges}
use Rattle.sql_types.specs.declared.value.Value.{Value}
use Rattle.sql_types.specs.declared.value.Value.TheVariants.{Text, Bool as Boolean}
use Rattle.sql_ast.specs.declared.role.Membership.{Membership}
use Rattle.sql_ast.specs.declared.privilege.Action.{Action}
use Rattle.sql_ast.specs.declared.privilege.Privilege.{Privilege}
use Rattle.sql_ast.specs.declared.privilege.Descriptor.{Descriptor}
use Rattle.sql_ast.specs.declared.statement.DropBehavior.{DropBehavior}
use Rattle.sql_ast.specs.declared.statement.Grant.{Grant}
use Rattle.sql_ast.specs.declared.statement.Revoke.{Revoke}
use Rattle.sql_ast.specs.declared.scope.ColumnIndex.{ColumnIndex}
use Rattle.sql_ast.specs.Term.{literal, member_test}
use Rattle.expressions.specs.Meaning.{value_of}
use Rattle.abstract_database.specs.Lists.{TheName, Among}
use Rattle.abstract_database.specs.Database.{Database}
use Rattle.abstract_database.specs.Roles.{IsIn, is_in}
use Rattle.abstract_database.specs.Statements.{UserPair, as_seen}
use Rattle.abstract_database.specs.Privileges.{IsSupported, is_supported, takes, with_descriptors, without_option, without_named, revoked, is_cascade, on_table, on_column, has_privilege, HasPrivilege, has_on_some_column}

-- ---- chains

-- the test that computes finds just the roles that a chain of memberships leads to
abbrev pub roles_by_chains : Type 0
roles_by_chains = (memberships : List Membership) (r s : TheName) → (is_in memberships r s ≡ true) ↔ IsIn memberships r s

-- so MEMBER OF a text is true where a chain leads from the current role to the role of that name, and false where none does
abbrev pub member_of_by_chains : Type 0
member_of_by_chains = (cell : ColumnIndex → Value) (pair : UserPair) (db : Database) (name : TheName) →
    ((value_of cell (as_seen pair db) (member_test (literal (Text name))) ≡ Ok (Boolean true)) ↔ IsIn db.memberships pair.current name)
    × ((value_of cell (as_seen pair db) (member_test (literal (Text name))) ≡ Ok (Boolean false)) ↔ (IsIn db.memberships pair.current name → ⊥))

-- and just the descriptors that a chain of supports leads to
abbrev pub descriptors_by_chains : Type 0
descriptors_by_chains = (set : List Descriptor) (d : Descriptor) → Among d set → (is_supported set d ≡ true) ↔ IsSupported set d

-- a role has a privilege just where a superuser's attribute, or a descriptor that reaches it, gives it
abbrev pub privileges_by_descriptors : Type 0
privileges_by_descriptors = (db : Database) (role table : TheName) (p : Privilege) → (has_privilege db role table p ≡ true) ↔ HasPrivilege db role table p

-- a privilege on a table is one on each of its columns
abbrev pub tables_cover_columns : Type 0
tables_cover_columns = (db : Database) (role table : TheName) (a : Action) (index : ℕ) → has_privilege db role table (on_table a) ≡ true → has_privilege db role table (on_column a index) ≡ true

-- an action on the table or on one of its columns is had just where some privilege with that action is
abbrev pub some_column_is_a_privilege : Type 0
some_column_is_a_privilege = (db : Database) (role table : TheName) (a : Action) → (has_on_some_column db role table a ≡ true) ↔ ((p : Privilege) × (p.action ≡ a) × (has_privilege db role table p ≡ true))

-- ---- REVOKE

-- each descriptor that is left is supported by those that are left
abbrev pub what_is_left_is_supported : Type 0
what_is_left_is_supported = (option : Bool) (behavior : Option DropBehavior) (named set after : List Descriptor) →
    revoked option behavior named set ≡ Ok after → (d : Descriptor) → Among d after → IsSupported after d

-- each that is supported without the named ones is left: nothing more is taken
abbrev pub nothing_more_is_taken : Type 0
nothing_more_is_taken = (option : Bool) (behavior : Option DropBehavior) (named set after : List Descriptor) →
    revoked option behavior named set ≡ Ok after → (d : Descriptor) → Among d (without_named option named set) → IsSupported (without_named option named set) d → Among d after

-- and nothing is put there
abbrev pub nothing_is_added : Type 0
nothing_is_added = (option : Bool) (behavior : Option DropBehavior) (named set after : List Descriptor) →
    revoked option behavior named set ≡ Ok after → (d : Descriptor) → Among d after → Among d (without_named option named set)

-- it is refused only under RESTRICT, and only where a descriptor is abandoned
abbrev pub refused_for_dependents : Type 0
refused_for_dependents = (option : Bool) (behavior : Option DropBehavior) (named set : List Descriptor) (code : SqlState) →
    revoked option behavior named set ≡ Err code →
    (code ≡ DependentPrivileges) × (is_cascade behavior ≡ false)
    × ((d : Descriptor) × Among d (without_named option named set) × (IsSupported (without_named option named set) d → ⊥))

-- ---- GRANT and REVOKE

-- what was granted and is then revoked, with nothing between, leaves the set that was there: where nothing was there before that
-- the REVOKE takes, and each descriptor of the set was supported
abbrev pub revoked_set_is_the_old : Type 0
revoked_set_is_the_old = (behavior : Option DropBehavior) (ds set : List Descriptor) →
    ((d e : Descriptor) → Among d ds → Among e set → takes d e ≡ false) →
    ((e : Descriptor) → Among e set → IsSupported set e) →
    revoked false behavior (map without_option ds) (with_descriptors ds set) ≡ Ok set

-- a REVOKE of what a GRANT names
pub record IsUndoing (g : Grant) (r : Revoke) : Type 0 where
  pub table : r.table ≡ g.table
  pub privileges : r.privileges ≡ g.privileges
  pub grantees : r.grantees ≡ g.grantees
  pub whole : r.grant_option_for ≡ false
