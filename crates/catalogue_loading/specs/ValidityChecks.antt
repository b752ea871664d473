-- Tests of what is said of a role's name, of a descriptor and of a policy.
use Rattle.std.specs.Prelude.{ℕ, nat_lt, Bool, true, false, not, ◌&&◌, ◌||◌, List, bytes_eq, Option, Some, None}
use Rattle.std.specs.List.{list_any}
use Rattle.std.specs.Option.{is_some}
use Rattle.sql_ast.specs.declared.role.Role.{Role}
use Rattle.sql_ast.specs.declared.role.Membership.{Membership}
use Rattle.sql_ast.specs.declared.privilege.Action.{Action}
use Rattle.sql_ast.specs.declared.privilege.Action.TheVariants as action
use Rattle.sql_ast.specs.declared.privilege.Grantor.{Grantor}
use Rattle.sql_ast.specs.declared.privilege.Grantor.TheVariants as grantor
use Rattle.sql_ast.specs.declared.privilege.Grantee.{Grantee}
use Rattle.sql_ast.specs.declared.privilege.Grantee.TheVariants as grantee
use Rattle.sql_ast.specs.declared.privilege.Descriptor.{Descriptor}
use Rattle.abstract_database.specs.Lists.{TheName, has_name}
use Rattle.abstract_database.specs.Database.{is_role_named, same_action}
use Rattle.abstract_database.specs.Roles.{is_in}
use Rattle.abstract_database.specs.Privileges.{is_of_system}

-- a role has this name
abbrev pub is_role_of : List Role → TheName → Bool
is_role_of all name = list_any (is_role_named name) all

-- ---- memberships

-- the role and the member are roles
abbrev pub is_of_roles : List Role → Membership → Bool
is_of_roles all m = is_role_of all m.role && is_role_of all m.member

-- the membership is one of this role, and its member is one of these
abbrev pub is_granted_above : TheName → List TheName → Membership → Bool
is_granted_above role above m = bytes_eq m.role role && has_name m.member above

-- the membership is one of this role, which is in its member: a cycle
abbrev pub closes_cycle : List Membership → TheName → Membership → Bool
closes_cycle memberships role m = bytes_eq m.role role && is_in memberships role m.member

-- ---- privileges

-- the system, or a role
abbrev pub is_grantor_of : List Role → Grantor → Bool
is_grantor_of all grantor.System = true
is_grantor_of all (grantor.Role name) = is_role_of all name

-- a role, or PUBLIC, which holds no grant option
abbrev pub is_grantee_of : List Role → Bool → Grantee → Bool
is_grantee_of all grantable grantee.Public = not grantable
is_grantee_of all grantable (grantee.Role name) = is_role_of all name

abbrev pub is_to : TheName → Grantee → Bool
is_to name grantee.Public = false
is_to name (grantee.Role other) = bytes_eq other name

-- what the system grants an owner: a grantable descriptor to him on the whole table
abbrev pub is_owners_own : TheName → Descriptor → Bool
is_owners_own owner d = d.grantable && (not (is_some d.column) && is_to owner d.grantee)

-- an action on the whole table, or on one of its so many columns, on which there is no DELETE
abbrev pub is_on_column_of : ℕ → Action → Option ℕ → Bool
is_on_column_of count a None = true
is_on_column_of count a (Some index) = nat_lt index count && not (same_action a action.Delete)

-- the descriptor is granted by and to roles, and by the system only what it grants an owner
abbrev pub is_given : List Role → TheName → Descriptor → Bool
is_given all owner d =
    is_grantor_of all d.grantor && (is_grantee_of all d.grantable d.grantee && (not (is_of_system d) || is_owners_own owner d))

-- and it is for the table or for one of its so many columns
abbrev pub is_granted : List Role → TheName → ℕ → Descriptor → Bool
is_granted all owner count d = is_on_column_of count d.action d.column && is_given all owner d

-- the owner's descriptor from the system for this action
abbrev pub is_owners_for : TheName → Action → Descriptor → Bool
is_owners_for owner action d = same_action d.action action && (is_of_system d && is_owners_own owner d)
