-- Roles, their memberships, and the role that a session sets.
use Rattle.std.specs.Prelude.{Ok, [], codes, ◌∷◌}
use Rattle.sql_types.specs.declared.state.SqlState.TheVariants as state
use Rattle.sql_types.specs.declared.tag.Tag.TheVariants as tag
use Rattle.sql_types.specs.declared.warning.Warning.TheVariants as warning
use Rattle.sql_ast.specs.declared.privilege.Action.TheVariants as action
use Rattle.sql_ast.specs.declared.role.RoleAttribute.TheVariants as attribute
use Rattle.sql_ast.specs.declared.statement.Statement.TheVariants as statement
use Rattle.sql_ast.specs.declared.statement.SessionStatement.TheVariants as of_session
use Rattle.abstract_database.specs.Machine.{executes, opens}
use Rattle.database_examples.specs.Expressions.{me, my_login, num, yes}
use Rattle.database_examples.specs.Wording.{attribute_superuser, can_log_in, cannot_log_in, create, create_role, create_u, drop, drop_role, drop_table, dropped, grant, grant_role, grant_role_with_admin, grant_roles, grant_with_option, one, only_for, only_to, policy, reset_role, revoke, revoke_admin_option, revoke_role, revoke_roles, select_all, select_on, select_values, set_role, set_role_none, the_role, the_roles, using}
use Rattle.database_examples.specs.Lines.{Shows, a, b, c, d, no_rows, ok, r, refused, rows, text, warning, ◌gives◌}

-- a role in use stays, and a session whose login role is gone is refused
abbrev pub dropped_roles : Type 0
dropped_roles = Shows (
    r (drop_role "ann") gives refused state.DependentObjects
    ∷ r (drop_role "dan") gives ok tag.DropRole
    ∷ d (select_values (one (num 1))) gives refused state.InvalidAuthorization
    ∷ [])

-- one with admin option grants the role on, and its members act as the owner
abbrev pub admin_option : Type 0
admin_option = Shows (
    r (grant_role_with_admin "ann" "bob") gives ok tag.GrantRole
    ∷ b (grant_role "ann" "cid") gives ok tag.GrantRole
    ∷ c (grant_role "ann" "dan") gives refused state.InsufficientPrivilege
    ∷ c (drop_table "t") gives ok tag.DropTable
    ∷ [])

-- a set role that is no longer allowed must be set back first
abbrev pub set_role_is_lost : Type 0
set_role_is_lost = Shows (
    r (create_role "staff" []) gives ok tag.CreateRole
    ∷ r (grant_role "staff" "bob") gives ok tag.GrantRole
    ∷ b (set_role "staff") gives ok tag.Set
    ∷ b (select_values (me ∷ my_login ∷ [])) gives rows ((text "staff" ∷ text "bob" ∷ []) ∷ [])
    ∷ r (revoke_role "staff" "bob") gives ok tag.RevokeRole
    ∷ b (select_values (one (num 1))) gives refused state.InsufficientPrivilege
    ∷ b reset_role gives ok tag.Reset
    ∷ b (select_values (one me)) gives rows ((text "bob" ∷ []) ∷ [])
    ∷ [])

-- memberships of a superuser are a superuser's to grant, admin option or not
abbrev pub superuser_memberships : Type 0
superuser_memberships = Shows (
    r (grant_role_with_admin "root" "bob") gives ok tag.GrantRole
    ∷ b (grant_role "root" "cid") gives refused state.InsufficientPrivilege
    ∷ b (revoke_role "root" "bob") gives refused state.InsufficientPrivilege
    ∷ r (revoke_role "root" "bob") gives ok tag.RevokeRole
    ∷ [])

-- the admin option goes without the membership, and not the other way
abbrev pub admin_option_revoked : Type 0
admin_option_revoked = Shows (
    r (grant_role_with_admin "ann" "bob") gives ok tag.GrantRole
    ∷ r (revoke_admin_option "ann" "bob") gives ok tag.RevokeRole
    ∷ b (grant_role "ann" "cid") gives refused state.InsufficientPrivilege
    ∷ b select_all gives no_rows
    ∷ r (revoke_role "ann" "bob") gives ok tag.RevokeRole
    ∷ r (revoke_role "ann" "bob") gives ok tag.RevokeRole
    ∷ b select_all gives refused state.InsufficientPrivilege
    ∷ [])

-- a role is not its own administrator
abbrev pub not_its_own_administrator : Type 0
not_its_own_administrator = Shows (
    a (grant_role "ann" "bob") gives refused state.InsufficientPrivilege
    ∷ [])

-- a member of an administrator administers
abbrev pub administrators_through_a_group : Type 0
administrators_through_a_group = Shows (
    r (create_role "staff" []) gives ok tag.CreateRole
    ∷ r (grant_role_with_admin "ann" "staff") gives ok tag.GrantRole
    ∷ r (grant_role "staff" "bob") gives ok tag.GrantRole
    ∷ b (grant_role "ann" "cid") gives ok tag.GrantRole
    ∷ c select_all gives no_rows
    ∷ [])

-- memberships make no cycle, of one role, two or three
abbrev pub no_cycle_of_memberships : Type 0
no_cycle_of_memberships = Shows (
    r (grant_role "ann" "ann") gives refused state.InvalidGrantOperation
    ∷ r (grant_role "ann" "bob") gives ok tag.GrantRole
    ∷ r (grant_role "bob" "cid") gives ok tag.GrantRole
    ∷ r (grant_role "cid" "ann") gives refused state.InvalidGrantOperation
    ∷ r (grant_role "ann" "cid") gives ok tag.GrantRole
    ∷ [])

-- memberships go with a dropped role, and do not come back with its name
abbrev pub dropped_role_takes_memberships : Type 0
dropped_role_takes_memberships = Shows (
    r (create_role "staff" []) gives ok tag.CreateRole
    ∷ r (grant_role "staff" "bob") gives ok tag.GrantRole
    ∷ b (set_role "staff") gives ok tag.Set
    ∷ r (drop_role "staff") gives ok tag.DropRole
    ∷ b (select_values (one me)) gives refused state.InsufficientPrivilege
    ∷ r (create_role "staff" []) gives ok tag.CreateRole
    ∷ b (select_values (one me)) gives refused state.InsufficientPrivilege
    ∷ b set_role_none gives ok tag.Set
    ∷ b (set_role "staff") gives refused state.InsufficientPrivilege
    ∷ [])

-- a role that is in a descriptor or named by a policy is in use
abbrev pub roles_in_use : Type 0
roles_in_use = Shows (
    a (grant select_on (the_role "bob")) gives ok tag.Grant
    ∷ r (drop_role "bob") gives refused state.DependentObjects
    ∷ a (revoke select_on (the_role "bob")) gives ok tag.Revoke
    ∷ a (create (only_to (the_role "bob") (using yes (policy "p")))) gives ok tag.CreatePolicy
    ∷ r (drop_role "bob") gives refused state.DependentObjects
    ∷ a (drop "p") gives ok dropped
    ∷ r (drop_role "bob") gives ok tag.DropRole
    ∷ r (drop_role "root") gives refused state.DependentObjects
    ∷ [])

-- a role is made by a superuser, under a name that is free
abbrev pub making_roles : Type 0
making_roles = Shows (
    a (create_role "eve" []) gives refused state.InsufficientPrivilege
    ∷ a (create_role "bob" []) gives refused state.DuplicateObject
    ∷ r (create_role "eve" []) gives ok tag.CreateRole
    ∷ opens 6 (codes "eve") gives refused state.InvalidAuthorization
    ∷ [])

-- a superuser sets any role and acts as it, and may set another from there
abbrev pub superuser_sets_any_role : Type 0
superuser_sets_any_role = Shows (
    r (set_role "zoe") gives refused state.UndefinedObject
    ∷ r (set_role "bob") gives ok tag.Set
    ∷ r select_all gives refused state.InsufficientPrivilege
    ∷ r (set_role "ann") gives ok tag.Set
    ∷ r select_all gives no_rows
    ∷ b (set_role "ann") gives refused state.InsufficientPrivilege
    ∷ [])

-- the current role and the login role of the session that drops them are in use
abbrev pub dropping_oneself : Type 0
dropping_oneself = Shows (
    r (create_role "boss" attribute_superuser) gives ok tag.CreateRole
    ∷ r (set_role "boss") gives ok tag.Set
    ∷ r (drop_role "boss") gives refused state.DependentObjects
    ∷ r (drop_role "root") gives refused state.DependentObjects
    ∷ r reset_role gives ok tag.Reset
    ∷ r (drop_role "boss") gives ok tag.DropRole
    ∷ [])

-- a role that is missing is found before privileges are checked, as a member and by SET ROLE
abbrev pub missing_roles : Type 0
missing_roles = Shows (
    r (grant_role "ann" "zoe") gives refused state.UndefinedObject
    ∷ b (grant_role "ann" "zoe") gives refused state.UndefinedObject
    ∷ r (revoke_role "ann" "zoe") gives refused state.UndefinedObject
    ∷ b (set_role "zoe") gives refused state.UndefinedObject
    ∷ b (set_role "cid") gives refused state.InsufficientPrivilege
    ∷ [])

-- who may not grant a role or drop one is refused so before a cycle of memberships or a role in use is
abbrev pub privileges_before_cycles : Type 0
privileges_before_cycles = Shows (
    b (grant_role "ann" "ann") gives refused state.InsufficientPrivilege
    ∷ b (drop_role "ann") gives refused state.InsufficientPrivilege
    ∷ r (drop_role "ann") gives refused state.DependentObjects
    ∷ [])

-- a session is opened for a role with LOGIN, and for none with NOLOGIN or without either
abbrev pub roles_without_login : Type 0
roles_without_login = Shows (
    r (create_role "eve" can_log_in) gives ok tag.CreateRole
    ∷ r (create_role "fay" cannot_log_in) gives ok tag.CreateRole
    ∷ r (create_role "gus" []) gives ok tag.CreateRole
    ∷ opens 6 (codes "eve") gives ok tag.Open
    ∷ opens 7 (codes "fay") gives refused state.InvalidAuthorization
    ∷ opens 8 (codes "gus") gives refused state.InvalidAuthorization
    ∷ [])

-- a membership that is granted again without the admin option keeps it
abbrev pub admin_option_stays : Type 0
admin_option_stays = Shows (
    r (create_role "team" []) gives ok tag.CreateRole
    ∷ r (grant_role_with_admin "team" "ann") gives ok tag.GrantRole
    ∷ r (grant_role "team" "ann") gives ok tag.GrantRole
    ∷ a (grant_role "team" "bob") gives ok tag.GrantRole
    ∷ r (revoke_admin_option "team" "ann") gives ok tag.RevokeRole
    ∷ a (grant_role "team" "cid") gives refused state.InsufficientPrivilege
    ∷ a (set_role "team") gives ok tag.Set
    ∷ [])

-- taking a membership or an admin option that is not there changes nothing, and each name of a list counts
-- once
abbrev pub memberships_that_are_not_there : Type 0
memberships_that_are_not_there = Shows (
    r (create_role "team" []) gives ok tag.CreateRole
    ∷ r (grant_role "team" "ann") gives ok tag.GrantRole
    ∷ r (revoke_admin_option "team" "dan") gives ok tag.RevokeRole
    ∷ r (revoke_role "team" "dan") gives ok tag.RevokeRole
    ∷ a (set_role "team") gives ok tag.Set
    ∷ r (revoke_roles ("team" ∷ "team" ∷ []) ("ann" ∷ "bob" ∷ [])) gives ok tag.RevokeRole
    ∷ a (select_values (one me)) gives refused state.InsufficientPrivilege
    ∷ [])

-- a list of memberships with one that is refused grants none of them
abbrev pub lists_of_memberships_are_whole : Type 0
lists_of_memberships_are_whole = Shows (
    r (create_role "team" []) gives ok tag.CreateRole
    ∷ r (grant_roles ("team" ∷ []) ("bob" ∷ "nobody" ∷ [])) gives refused state.UndefinedObject
    ∷ b (set_role "team") gives refused state.InsufficientPrivilege
    ∷ r (grant_roles ("team" ∷ "bob" ∷ []) ("cid" ∷ "bob" ∷ [])) gives refused state.InvalidGrantOperation
    ∷ c (set_role "team") gives refused state.InsufficientPrivilege
    ∷ r (grant_roles ("team" ∷ []) ("bob" ∷ "bob" ∷ "cid" ∷ [])) gives ok tag.GrantRole
    ∷ c (set_role "team") gives ok tag.Set
    ∷ b (set_role "team") gives ok tag.Set
    ∷ [])

-- a member without the admin option grants nothing; granted again with it, the member does
abbrev pub plain_members_do_not_grant : Type 0
plain_members_do_not_grant = Shows (
    r (create_role "team" []) gives ok tag.CreateRole
    ∷ a (grant_role "team" "bob") gives refused state.InsufficientPrivilege
    ∷ r (grant_role "team" "ann") gives ok tag.GrantRole
    ∷ a (grant_role "team" "bob") gives refused state.InsufficientPrivilege
    ∷ r (grant_role_with_admin "team" "ann") gives ok tag.GrantRole
    ∷ a (grant_role "team" "bob") gives ok tag.GrantRole
    ∷ b (set_role "team") gives ok tag.Set
    ∷ [])

-- one with the admin option takes the membership of the one who gave it
abbrev pub administrators_are_equal : Type 0
administrators_are_equal = Shows (
    r (create_role "team" []) gives ok tag.CreateRole
    ∷ r (grant_role_with_admin "team" "ann") gives ok tag.GrantRole
    ∷ a (grant_role_with_admin "team" "bob") gives ok tag.GrantRole
    ∷ b (revoke_role "team" "ann") gives ok tag.RevokeRole
    ∷ a (set_role "team") gives refused state.InsufficientPrivilege
    ∷ a (revoke_role "team" "bob") gives refused state.InsufficientPrivilege
    ∷ b (set_role "team") gives ok tag.Set
    ∷ [])

-- the admin option of a group is that of its members, who may take it from the group
abbrev pub admin_option_of_a_group : Type 0
admin_option_of_a_group = Shows (
    r (create_role "team" []) gives ok tag.CreateRole
    ∷ r (create_role "heads" []) gives ok tag.CreateRole
    ∷ r (grant_role_with_admin "team" "heads") gives ok tag.GrantRole
    ∷ r (grant_role "heads" "ann") gives ok tag.GrantRole
    ∷ a (grant_role "team" "bob") gives ok tag.GrantRole
    ∷ a (revoke_admin_option "team" "heads") gives ok tag.RevokeRole
    ∷ a (grant_role "team" "cid") gives refused state.InsufficientPrivilege
    ∷ a (set_role "team") gives ok tag.Set
    ∷ b (set_role "team") gives ok tag.Set
    ∷ [])

-- a membership that is gone makes no cycle any more, and the other way round is one now
abbrev pub cycles_after_a_membership_is_gone : Type 0
cycles_after_a_membership_is_gone = Shows (
    r (grant_role "ann" "bob") gives ok tag.GrantRole
    ∷ r (grant_role "bob" "cid") gives ok tag.GrantRole
    ∷ r (grant_roles ("bob" ∷ "ann" ∷ []) ("dan" ∷ [])) gives ok tag.GrantRole
    ∷ r (grant_roles ("dan" ∷ []) ("ann" ∷ "bob" ∷ [])) gives refused state.InvalidGrantOperation
    ∷ r (revoke_role "ann" "bob") gives ok tag.RevokeRole
    ∷ r (grant_role "cid" "ann") gives ok tag.GrantRole
    ∷ r (grant_role "ann" "bob") gives refused state.InvalidGrantOperation
    ∷ [])

-- whoever may not grant a membership is told so, also where it would make a cycle
abbrev pub leave_before_cycles : Type 0
leave_before_cycles = Shows (
    a (grant_role "ann" "ann") gives refused state.InsufficientPrivilege
    ∷ r (grant_role_with_admin "ann" "bob") gives ok tag.GrantRole
    ∷ b (grant_role "bob" "ann") gives refused state.InsufficientPrivilege
    ∷ b (grant_role "ann" "ann") gives refused state.InvalidGrantOperation
    ∷ b (grant_role "ann" "bob") gives ok tag.GrantRole
    ∷ b (grant_role_with_admin "ann" "cid") gives ok tag.GrantRole
    ∷ c (grant_role "cid" "ann") gives refused state.InsufficientPrivilege
    ∷ r (grant_role "cid" "ann") gives refused state.InvalidGrantOperation
    ∷ [])

-- which roles a session may set goes by its login role, whatever role is set
abbrev pub set_role_goes_by_the_login_role : Type 0
set_role_goes_by_the_login_role = Shows (
    r (create_role "team" []) gives ok tag.CreateRole
    ∷ r (grant_role "team" "ann") gives ok tag.GrantRole
    ∷ a (set_role "bob") gives refused state.InsufficientPrivilege
    ∷ a (set_role "team") gives ok tag.Set
    ∷ a (select_values (me ∷ my_login ∷ [])) gives rows ((text "team" ∷ text "ann" ∷ []) ∷ [])
    ∷ a (set_role "bob") gives refused state.InsufficientPrivilege
    ∷ a (set_role "ann") gives ok tag.Set
    ∷ r (set_role "bob") gives ok tag.Set
    ∷ r (create_role "eve" []) gives refused state.InsufficientPrivilege
    ∷ r (set_role "cid") gives ok tag.Set
    ∷ r (select_values (me ∷ my_login ∷ [])) gives rows ((text "cid" ∷ text "root" ∷ []) ∷ [])
    ∷ [])

-- a member of a superuser is one only while it has set that role
abbrev pub superuser_by_a_set_role : Type 0
superuser_by_a_set_role = Shows (
    r (create_role "boss" attribute_superuser) gives ok tag.CreateRole
    ∷ r (grant_role "boss" "ann") gives ok tag.GrantRole
    ∷ a (create_role "eve" []) gives refused state.InsufficientPrivilege
    ∷ a (grant_role "boss" "bob") gives refused state.InsufficientPrivilege
    ∷ a (set_role "boss") gives ok tag.Set
    ∷ a (create_role "eve" []) gives ok tag.CreateRole
    ∷ a (grant_role "boss" "bob") gives ok tag.GrantRole
    ∷ a (set_role "cid") gives refused state.InsufficientPrivilege
    ∷ a (drop_role "eve") gives ok tag.DropRole
    ∷ a set_role_none gives ok tag.Set
    ∷ a (drop_role "dan") gives refused state.InsufficientPrivilege
    ∷ [])

-- a set role that was lost may be set again once the membership is back; meanwhile one's own role may be set
abbrev pub membership_regained : Type 0
membership_regained = Shows (
    r (create_role "team" []) gives ok tag.CreateRole
    ∷ r (grant_role "team" "bob") gives ok tag.GrantRole
    ∷ b (set_role "team") gives ok tag.Set
    ∷ r (revoke_role "team" "bob") gives ok tag.RevokeRole
    ∷ b (select_values (one me)) gives refused state.InsufficientPrivilege
    ∷ b (set_role "bob") gives ok tag.Set
    ∷ b (set_role "team") gives refused state.InsufficientPrivilege
    ∷ r (grant_role "team" "bob") gives ok tag.GrantRole
    ∷ b (set_role "team") gives ok tag.Set
    ∷ b (select_values (one me)) gives rows ((text "team" ∷ []) ∷ [])
    ∷ [])

-- a session whose set role was lost goes on in it once the membership is back
abbrev pub lost_and_regained_under_a_session : Type 0
lost_and_regained_under_a_session = Shows (
    r (create_role "team" []) gives ok tag.CreateRole
    ∷ r (grant_role "team" "bob") gives ok tag.GrantRole
    ∷ b (set_role "team") gives ok tag.Set
    ∷ r (revoke_role "team" "bob") gives ok tag.RevokeRole
    ∷ b (select_values (one me)) gives refused state.InsufficientPrivilege
    ∷ r (grant_role "team" "bob") gives ok tag.GrantRole
    ∷ b (select_values (one me)) gives rows ((text "team" ∷ []) ∷ [])
    ∷ [])

-- a role that is dropped and made again has none of its old memberships
abbrev pub role_made_again_is_new : Type 0
role_made_again_is_new = Shows (
    r (create_role "team" []) gives ok tag.CreateRole
    ∷ r (grant_role "team" "dan") gives ok tag.GrantRole
    ∷ a (grant select_on (the_role "team")) gives ok tag.Grant
    ∷ d select_all gives no_rows
    ∷ r (drop_role "dan") gives ok tag.DropRole
    ∷ r (create_role "dan" can_log_in) gives ok tag.CreateRole
    ∷ d select_all gives refused state.InsufficientPrivilege
    ∷ d (set_role "team") gives refused state.InsufficientPrivilege
    ∷ r (drop_role "team") gives refused state.DependentObjects
    ∷ a (revoke select_on (the_role "team")) gives ok tag.Revoke
    ∷ r (drop_role "team") gives ok tag.DropRole
    ∷ [])

-- a grantee, a grantor and an owner are in use until their grants and tables are gone
abbrev pub grantors_and_owners_are_in_use : Type 0
grantors_and_owners_are_in_use = Shows (
    a (grant_with_option select_on (the_role "bob")) gives ok tag.Grant
    ∷ b (grant select_on (the_role "cid")) gives ok tag.Grant
    ∷ r (drop_role "cid") gives refused state.DependentObjects
    ∷ b (revoke select_on (the_role "cid")) gives ok tag.Revoke
    ∷ r (drop_role "cid") gives ok tag.DropRole
    ∷ a (revoke select_on (the_role "bob")) gives ok tag.Revoke
    ∷ r (drop_role "bob") gives ok tag.DropRole
    ∷ r (drop_role "ann") gives refused state.DependentObjects
    ∷ a (drop_table "t") gives ok tag.DropTable
    ∷ r (drop_role "ann") gives ok tag.DropRole
    ∷ r (drop_role "ann") gives refused state.UndefinedObject
    ∷ [])

-- a role that a policy names is free again once the policy's table is dropped
abbrev pub policies_of_a_dropped_table_name_nobody : Type 0
policies_of_a_dropped_table_name_nobody = Shows (
    a (create (only_for action.Select (only_to (the_roles ("cid" ∷ "dan" ∷ [])) (using yes (policy "p")))))
    gives ok tag.CreatePolicy
    ∷ r (drop_role "dan") gives refused state.DependentObjects
    ∷ a (drop_table "t") gives ok tag.DropTable
    ∷ r (drop_role "dan") gives ok tag.DropRole
    ∷ r (drop_role "cid") gives ok tag.DropRole
    ∷ [])

-- making and dropping a role is a superuser's; a name that is there or missing is told first
abbrev pub only_superusers_make_and_drop_roles : Type 0
only_superusers_make_and_drop_roles = Shows (
    a (create_role "eve" []) gives refused state.InsufficientPrivilege
    ∷ a (create_role "dan" []) gives refused state.DuplicateObject
    ∷ a (drop_role "dan") gives refused state.InsufficientPrivilege
    ∷ a (drop_role "nobody") gives refused state.UndefinedObject
    ∷ r (drop_role "dan") gives ok tag.DropRole
    ∷ [])

-- a set role that is dropped is gone for a superuser too, until it sets another
abbrev pub dropped_under_a_superuser : Type 0
dropped_under_a_superuser = Shows (
    r (create_role "team" []) gives ok tag.CreateRole
    ∷ r (create_role "boss" (attribute.Superuser ∷ attribute.Login ∷ [])) gives ok tag.CreateRole
    ∷ opens 7 (codes "boss") gives ok tag.Open
    ∷ r (set_role "team") gives ok tag.Set
    ∷ executes 7 (Ok (drop_role "team")) gives ok tag.DropRole
    ∷ r (select_values (one me)) gives refused state.InsufficientPrivilege
    ∷ r (set_role "team") gives refused state.UndefinedObject
    ∷ r (set_role "bob") gives ok tag.Set
    ∷ r (select_values (one me)) gives rows ((text "bob" ∷ []) ∷ [])
    ∷ [])

-- without its set role a session sets another or ends its block, and does nothing else
abbrev pub what_a_lost_role_may_do : Type 0
what_a_lost_role_may_do = Shows (
    r (create_role "team" []) gives ok tag.CreateRole
    ∷ r (grant_role "team" "bob") gives ok tag.GrantRole
    ∷ b (set_role "team") gives ok tag.Set
    ∷ r (revoke_role "team" "bob") gives ok tag.RevokeRole
    ∷ b (statement.OfSession of_session.Begin) gives refused state.InsufficientPrivilege
    ∷ b (select_values (one (num 1))) gives refused state.InsufficientPrivilege
    ∷ b create_u gives refused state.InsufficientPrivilege
    ∷ b (statement.OfSession of_session.Commit) gives warning warning.NoActiveTransaction tag.Commit
    ∷ b (statement.OfSession of_session.Rollback) gives warning warning.NoActiveTransaction tag.Rollback
    ∷ b (set_role "team") gives refused state.InsufficientPrivilege
    ∷ b set_role_none gives ok tag.Set
    ∷ b (statement.OfSession of_session.Begin) gives ok tag.Begin
    ∷ [])
