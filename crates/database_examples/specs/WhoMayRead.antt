-- Who has a privilege on a table, by whom it was granted to.
use Rattle.std.specs.Prelude.{[], codes, ◌++◌, ◌∷◌}
use Rattle.sql_types.specs.declared.state.SqlState.TheVariants as state
use Rattle.sql_types.specs.declared.tag.Tag.TheVariants as tag
use Rattle.sql_ast.specs.declared.columns.ColumnType.TheVariants as type
use Rattle.abstract_database.specs.Machine.{opens}
use Rattle.database_examples.specs.Expressions.{col, eq, not_so, num, plus, str, yes}
use Rattle.database_examples.specs.Wording.{all_on, can_log_in, create, create_role, create_table, create_u, delete, delete_on, delete_where, drop_role, drop_table, enable_rls, everyone, from_t, from_tables, grant, grant_role, grant_roles, insert, insert_into, insert_key, insert_keys, insert_on, key_column, on, one, only_to, pair, policy, reset_role, revoke, revoke_cascade, revoke_role, select, select_all, select_all_of_u, select_count, select_every, select_keys, select_on, set_role, t_and_u, the_role, the_roles, the_table, update, update_and_delete, update_on, update_where, using}
use Rattle.database_examples.specs.Lines.{Shows, a, b, c, d, deleted, e, inserted, no_rows, numbers, ok, r, refused, updated, ◌gives◌}

-- what PUBLIC is granted reaches each role, and REVOKE FROM PUBLIC takes nothing else
abbrev pub grants_to_public : Type 0
grants_to_public = Shows (
    a (grant select_on everyone) gives ok tag.Grant
    ∷ a (grant select_on (the_role "bob")) gives ok tag.Grant
    ∷ d select_all gives no_rows
    ∷ a (revoke select_on everyone) gives ok tag.Revoke
    ∷ d select_all gives refused state.InsufficientPrivilege
    ∷ b select_all gives no_rows
    ∷ [])

-- REVOKE from a role leaves what PUBLIC has
abbrev pub public_keeps : Type 0
public_keeps = Shows (
    a (grant select_on everyone) gives ok tag.Grant
    ∷ a (revoke select_on (the_role "bob")) gives ok tag.Revoke
    ∷ b select_all gives no_rows
    ∷ [])

-- a role has the privileges of each role that it is in, over several memberships
abbrev pub nested_roles : Type 0
nested_roles = Shows (
    r (create_role "staff" []) gives ok tag.CreateRole
    ∷ r (create_role "team" []) gives ok tag.CreateRole
    ∷ r (grant_role "staff" "team") gives ok tag.GrantRole
    ∷ r (grant_role "team" "dan") gives ok tag.GrantRole
    ∷ a (grant select_on (the_role "staff")) gives ok tag.Grant
    ∷ d select_all gives no_rows
    ∷ c select_all gives refused state.InsufficientPrivilege
    ∷ r (revoke_role "staff" "team") gives ok tag.RevokeRole
    ∷ d select_all gives refused state.InsufficientPrivilege
    ∷ [])

-- a role does not have the privileges of those that are in it
abbrev pub members_give_nothing_up : Type 0
members_give_nothing_up = Shows (
    r (create_role "staff" []) gives ok tag.CreateRole
    ∷ r (grant_role "staff" "bob") gives ok tag.GrantRole
    ∷ a (grant select_on (the_role "bob")) gives ok tag.Grant
    ∷ r (set_role "staff") gives ok tag.Set
    ∷ r select_all gives refused state.InsufficientPrivilege
    ∷ [])

-- a superuser's membership gives its members nothing of what a superuser may
abbrev pub superuser_is_not_inherited : Type 0
superuser_is_not_inherited = Shows (
    r (grant_role "root" "bob") gives ok tag.GrantRole
    ∷ b select_all gives refused state.InsufficientPrivilege
    ∷ b (create_role "eve" []) gives refused state.InsufficientPrivilege
    ∷ b (set_role "root") gives ok tag.Set
    ∷ b select_all gives no_rows
    ∷ b (create_role "eve" []) gives ok tag.CreateRole
    ∷ [])

-- no REVOKE takes the owner's own privileges
abbrev pub owner_keeps_all : Type 0
owner_keeps_all = Shows (
    a (revoke_cascade all_on (the_role "ann")) gives ok tag.Revoke
    ∷ r (revoke_cascade all_on (the_role "ann")) gives ok tag.Revoke
    ∷ a (insert_key 1) gives inserted 1
    ∷ a (grant all_on (the_role "bob")) gives ok tag.Grant
    ∷ [])

-- UPDATE alone may change rows that it does not read
abbrev pub update_without_select : Type 0
update_without_select = Shows (
    a (insert ((num 1 ∷ num 1 ∷ []) ∷ [])) gives inserted 1
    ∷ a (grant update_and_delete (the_role "bob")) gives ok tag.Grant
    ∷ b (update "x" (num 2)) gives updated 1
    ∷ b (update "x" (plus (col "x") (num 1))) gives refused state.InsufficientPrivilege
    ∷ b (update_where "x" (num 3) (eq (col "k") (num 1))) gives refused state.InsufficientPrivilege
    ∷ b (update_where "x" (num 3) yes) gives updated 1
    ∷ b (delete_where (eq (col "k") (num 1))) gives refused state.InsufficientPrivilege
    ∷ b delete gives deleted 1
    ∷ [])

-- INSERT alone shows nothing
abbrev pub insert_without_select : Type 0
insert_without_select = Shows (
    a (grant insert_on (the_role "bob")) gives ok tag.Grant
    ∷ b (insert_key 1) gives inserted 1
    ∷ b select_all gives refused state.InsufficientPrivilege
    ∷ [])

-- a definition is changed by the owner, a role in the owner, or a superuser
abbrev pub who_may_change_a_definition : Type 0
who_may_change_a_definition = Shows (
    a (grant all_on (the_role "bob")) gives ok tag.Grant
    ∷ b (drop_table "t") gives refused state.InsufficientPrivilege
    ∷ b enable_rls gives refused state.InsufficientPrivilege
    ∷ b (create (using yes (policy "p"))) gives refused state.InsufficientPrivilege
    ∷ r (grant_role "ann" "cid") gives ok tag.GrantRole
    ∷ c enable_rls gives ok tag.AlterTable
    ∷ r (drop_table "t") gives ok tag.DropTable
    ∷ a (drop_table "t") gives refused state.UndefinedTable
    ∷ [])

-- what is missing is found before privileges are checked
abbrev pub missing_before_privileges : Type 0
missing_before_privileges = Shows (
    b (grant select_on (the_role "zoe")) gives refused state.UndefinedObject
    ∷ b (grant select_on (the_role "cid")) gives refused state.InsufficientPrivilege
    ∷ b (grant_role "zoe" "cid") gives refused state.UndefinedObject
    ∷ b (drop_role "zoe") gives refused state.UndefinedObject
    ∷ b (select (one (col "zz")) from_t) gives refused state.UndefinedColumn
    ∷ b (select (one (plus (col "k") (str "1"))) from_t) gives refused state.DatatypeMismatch
    ∷ [])

-- a privilege on one table is none on another, and REVOKE takes it from one table alone
abbrev pub privileges_on_two_tables : Type 0
privileges_on_two_tables = Shows (
    a create_u gives ok tag.CreateTable
    ∷ a (grant select_on (the_role "bob")) gives ok tag.Grant
    ∷ b select_all gives no_rows
    ∷ b select_all_of_u gives refused state.InsufficientPrivilege
    ∷ a (on "u" (grant select_on (the_role "bob"))) gives ok tag.Grant
    ∷ a (revoke select_on (the_role "bob")) gives ok tag.Revoke
    ∷ b select_all gives refused state.InsufficientPrivilege
    ∷ b select_all_of_u gives no_rows
    ∷ [])

-- each action is granted by itself, and opens its own command alone
abbrev pub each_action_is_granted_alone : Type 0
each_action_is_granted_alone = Shows (
    a (insert (pair 1 1 ∷ [])) gives inserted 1
    ∷ a (grant select_on (the_role "bob")) gives ok tag.Grant
    ∷ b select_keys gives numbers (1 ∷ [])
    ∷ b (update "x" (num 2)) gives refused state.InsufficientPrivilege
    ∷ a (grant update_on (the_role "cid")) gives ok tag.Grant
    ∷ c (update "x" (num 9)) gives updated 1
    ∷ c select_keys gives refused state.InsufficientPrivilege
    ∷ c delete gives refused state.InsufficientPrivilege
    ∷ a (grant delete_on (the_role "dan")) gives ok tag.Grant
    ∷ d (insert_key 2) gives refused state.InsufficientPrivilege
    ∷ d delete gives deleted 1
    ∷ [])

-- what PUBLIC was granted reaches a role that is made later
abbrev pub public_reaches_later_roles : Type 0
public_reaches_later_roles = Shows (
    a (grant select_on everyone) gives ok tag.Grant
    ∷ r (create_role "eve" can_log_in) gives ok tag.CreateRole
    ∷ opens 6 (codes "eve") gives ok tag.Open
    ∷ e select_all gives no_rows
    ∷ e (insert_key 1) gives refused state.InsufficientPrivilege
    ∷ [])

-- a grant to PUBLIC and one to a role are two, and each is revoked by itself
abbrev pub public_and_a_role_are_two_grantees : Type 0
public_and_a_role_are_two_grantees = Shows (
    a (grant select_on (everyone ++ the_role "bob")) gives ok tag.Grant
    ∷ a (revoke select_on everyone) gives ok tag.Revoke
    ∷ b select_all gives no_rows
    ∷ c select_all gives refused state.InsufficientPrivilege
    ∷ a (grant select_on everyone) gives ok tag.Grant
    ∷ a (revoke select_on (the_role "bob" ++ everyone)) gives ok tag.Revoke
    ∷ b select_all gives refused state.InsufficientPrivilege
    ∷ [])

-- a role has the privileges of the roles above it in a chain, and of none below it
abbrev pub memberships_go_one_way : Type 0
memberships_go_one_way = Shows (
    r (create_role "one" []) gives ok tag.CreateRole
    ∷ r (create_role "two" []) gives ok tag.CreateRole
    ∷ r (grant_role "one" "two") gives ok tag.GrantRole
    ∷ r (grant_role "two" "bob") gives ok tag.GrantRole
    ∷ a (grant select_on (the_role "two")) gives ok tag.Grant
    ∷ b select_all gives no_rows
    ∷ b (set_role "two") gives ok tag.Set
    ∷ b select_all gives no_rows
    ∷ b (set_role "one") gives ok tag.Set
    ∷ b select_all gives refused state.InsufficientPrivilege
    ∷ [])

-- a query that names no column needs SELECT on each table all the same
abbrev pub query_of_no_column : Type 0
query_of_no_column = Shows (
    a create_u gives ok tag.CreateTable
    ∷ a (insert_key 1) gives inserted 1
    ∷ b (select (one (num 1)) from_t) gives refused state.InsufficientPrivilege
    ∷ b (select_count from_t) gives refused state.InsufficientPrivilege
    ∷ a (grant select_on (the_role "bob")) gives ok tag.Grant
    ∷ b (select (one (num 1)) from_t) gives numbers (1 ∷ [])
    ∷ b (select_count t_and_u)
    gives refused state.InsufficientPrivilege
    ∷ a (on "u" (grant insert_on (the_role "bob"))) gives ok tag.Grant
    ∷ b (select_count t_and_u)
    gives refused state.InsufficientPrivilege
    ∷ a (on "u" (grant select_on (the_role "bob"))) gives ok tag.Grant
    ∷ b (select_count t_and_u) gives numbers (0 ∷ [])
    ∷ [])

-- any role makes a table and owns it, and nobody else reads it
abbrev pub any_role_makes_a_table : Type 0
any_role_makes_a_table = Shows (
    b create_u gives ok tag.CreateTable
    ∷ b (on "u" (insert_keys (1 ∷ []))) gives inserted 1
    ∷ a (select_all_of_u) gives refused state.InsufficientPrivilege
    ∷ r (select_all_of_u) gives numbers (1 ∷ [])
    ∷ b (on "u" (grant select_on (the_role "ann"))) gives ok tag.Grant
    ∷ a (select_all_of_u) gives numbers (1 ∷ [])
    ∷ a (drop_table "u") gives refused state.InsufficientPrivilege
    ∷ [])

-- a table that is made again under its old name has none of its old grants, policies and row security
abbrev pub table_made_again : Type 0
table_made_again = Shows (
    a (grant select_on (the_role "bob")) gives ok tag.Grant
    ∷ a enable_rls gives ok tag.AlterTable
    ∷ a (create (using not_so (policy "p"))) gives ok tag.CreatePolicy
    ∷ a (drop_table "t") gives ok tag.DropTable
    ∷ b select_all gives refused state.UndefinedTable
    ∷ a (create_table "t" (one (key_column "k" type.BigInt))) gives ok tag.CreateTable
    ∷ b select_all gives refused state.InsufficientPrivilege
    ∷ a (grant select_on (the_role "bob")) gives ok tag.Grant
    ∷ a (insert_key 1) gives inserted 1
    ∷ b select_all gives numbers (1 ∷ [])
    ∷ [])

-- a privilege and a policy are both needed, and the privilege is asked for first
abbrev pub privilege_before_policy : Type 0
privilege_before_policy = Shows (
    a (insert (pair 1 1 ∷ [])) gives inserted 1
    ∷ a enable_rls gives ok tag.AlterTable
    ∷ a (create (only_to (the_role "bob") (using yes (policy "p")))) gives ok tag.CreatePolicy
    ∷ b select_keys gives refused state.InsufficientPrivilege
    ∷ a (grant select_on (the_roles ("bob" ∷ "cid" ∷ []))) gives ok tag.Grant
    ∷ b select_keys gives numbers (1 ∷ [])
    ∷ c select_keys gives no_rows
    ∷ c (update "x" (num 2)) gives refused state.InsufficientPrivilege
    ∷ a (grant update_on (the_role "cid")) gives ok tag.Grant
    ∷ c (update "x" (num 2)) gives updated 0
    ∷ [])

-- the tables of a group are those of each of its members, as long as they are in it
abbrev pub owner_in_a_group : Type 0
owner_in_a_group = Shows (
    r (create_role "team" []) gives ok tag.CreateRole
    ∷ r (grant_roles ("team" ∷ []) ("ann" ∷ "bob" ∷ [])) gives ok tag.GrantRole
    ∷ a (set_role "team") gives ok tag.Set
    ∷ a create_u gives ok tag.CreateTable
    ∷ a reset_role gives ok tag.Reset
    ∷ b (on "u" (insert_keys (1 ∷ []))) gives inserted 1
    ∷ b (on "u" enable_rls) gives ok tag.AlterTable
    ∷ a (select_all_of_u) gives numbers (1 ∷ [])
    ∷ r (revoke_role "team" "bob") gives ok tag.RevokeRole
    ∷ b (select_all_of_u) gives refused state.InsufficientPrivilege
    ∷ b (drop_table "u") gives refused state.InsufficientPrivilege
    ∷ a (drop_table "u") gives ok tag.DropTable
    ∷ [])

-- a role without any privilege is told of a table or a column that is missing, by each command
abbrev pub names_before_privileges_of_each_command : Type 0
names_before_privileges_of_each_command = Shows (
    b (select_every (from_tables (one (the_table "nothere")))) gives refused state.UndefinedTable
    ∷ b (insert_into "zz" (num 1)) gives refused state.UndefinedColumn
    ∷ b (update "zz" (num 1)) gives refused state.UndefinedColumn
    ∷ b (delete_where (eq (col "zz") (num 1))) gives refused state.UndefinedColumn
    ∷ b (on "nothere" (grant select_on (the_role "cid"))) gives refused state.UndefinedTable
    ∷ b (create_table "t" (one (key_column "k" type.BigInt))) gives refused state.DuplicateTable
    ∷ b (on "nothere" enable_rls) gives refused state.UndefinedTable
    ∷ b (drop_table "nothere") gives refused state.UndefinedTable
    ∷ [])

-- DROP TABLE takes the grants and policies of its table, and leaves those of another
abbrev pub dropped_table_takes_its_own : Type 0
dropped_table_takes_its_own = Shows (
    a create_u gives ok tag.CreateTable
    ∷ a (insert_key 1) gives inserted 1
    ∷ a (grant select_on (the_role "bob")) gives ok tag.Grant
    ∷ a (on "u" (grant select_on (the_role "bob"))) gives ok tag.Grant
    ∷ a enable_rls gives ok tag.AlterTable
    ∷ a (create (using yes (policy "p"))) gives ok tag.CreatePolicy
    ∷ a (drop_table "u") gives ok tag.DropTable
    ∷ b select_keys gives numbers (1 ∷ [])
    ∷ b (select (one (col "k")) (from_tables (one (the_table "u")))) gives refused state.UndefinedTable
    ∷ [])
