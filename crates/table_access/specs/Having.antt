-- What a role has of a table, and by what.
use Rattle.std.specs.Prelude.{ℕ, Bool, not, ◌&&◌, ◌||◌, if◌then◌else◌, List, [], ◌∷◌, filter, length, bytes_eq}
use Rattle.std.specs.Bool.{beq}
use Rattle.std.specs.List.{list_any, range_with_len}
use Rattle.std.specs.Cmp.Lexicographic.{pointwise}
use Rattle.sql_ast.specs.declared.role.Membership.{Membership}
use Rattle.sql_ast.specs.declared.privilege.Action.{Action}
use Rattle.sql_ast.specs.declared.privilege.Descriptor.{Descriptor}
use Rattle.sql_ast.specs.declared.privilege.Grantee.{Grantee}
use Rattle.sql_ast.specs.declared.privilege.Grantee.TheVariants as grantee
use Rattle.sql_ast.specs.declared.policy.Policy.{Policy}
use Rattle.abstract_database.specs.Lists.{TheName}
use Rattle.abstract_database.specs.Database.{Database, TableOf, same_action}
use Rattle.abstract_database.specs.Roles.{is_in, is_superuser}
use Rattle.abstract_database.specs.Privileges.{on_table, on_column, all_actions, has_privilege, has_on_some_column}
use Rattle.abstract_database.specs.Guards.{is_guarded, applicable}
use Rattle.descriptions.specs.Descriptions.{given_to}
use Rattle.table_access.specs.Asking.{policy_names_user}

-- ---- one role, one action

-- the columns on which a role has an action, by their indices
abbrev pub columns_with : Database → TheName → TableOf → Action → List ℕ
columns_with db role t a = filter (λ c. has_privilege db role t.name (on_column a c)) (range_with_len 0 (length t.layout.columns))

-- the privilege descriptors that give it the action, on the table or on a column
abbrev pub grants_for : Database → TheName → TableOf → Action → List Descriptor
grants_for db role t a = filter (λ d. same_action d.action a) (given_to db role t.name)

-- the policies under which it has it: none where row security does not concern the role
abbrev pub policies_over : Database → TheName → TableOf → Action → List Policy
policies_over db role t a = if is_guarded db role t then applicable db role t a else []

-- the memberships by which a role is in another one: each that a chain from the role comes to and that leads on to the other
abbrev pub ways : List Membership → TheName → TheName → List Membership
ways ms role other = filter (λ m. is_in ms role m.member && is_in ms m.role other) ms

-- those by which a role is concerned by a grantee: none for PUBLIC
abbrev pub ways_to : List Membership → TheName → Grantee → List Membership
ways_to ms role grantee.Public = []
ways_to ms role (grantee.Role name) = ways ms role name

-- ---- a role that another one may set

abbrev pub same_policy : Policy → Policy → Bool
same_policy p q = bytes_eq p.name q.name

-- a policy under which the role has an action tells users apart
abbrev pub is_told_apart : Database → TheName → TableOf → Action → Bool
is_told_apart db role t a = list_any policy_names_user (policies_over db role t a)

-- for an action a role has something else as another one: on the table, on columns or under policies; or it meets rows of the other's
abbrev pub differs_for : Database → TableOf → TheName → TheName → Action → Bool
differs_for db t role other a =
    not (beq (has_on_some_column db role t.name a) (has_on_some_column db other t.name a))
    || not (beq (has_privilege db role t.name (on_table a)) (has_privilege db other t.name (on_table a)))
    || not (bytes_eq (columns_with db role t a) (columns_with db other t a))
    || not (pointwise same_policy (policies_over db role t a) (policies_over db other t a))
    || is_told_apart db other t a

-- for some action it does, or row security concerns one of both alone
abbrev pub differs_as : Database → TableOf → TheName → TheName → Bool
differs_as db t role other = not (beq (is_guarded db role t) (is_guarded db other t)) || list_any (differs_for db t role other) all_actions

-- a role is shown as one that it may set where that differs; a superuser may set each role, and is shown as none
abbrev pub is_shown_as : Database → TableOf → TheName → TheName → Bool
is_shown_as db t role other = not (is_superuser db role) && not (bytes_eq role other) && is_in db.memberships role other && differs_as db t role other
