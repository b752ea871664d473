-- Whom row security concerns: who is exempt, and for which roles a policy is.
use Rattle.std.specs.Prelude.{Ok, [], codes, ◌++◌, ◌∷◌}
use Rattle.sql_types.specs.declared.state.SqlState.TheVariants as state
use Rattle.sql_types.specs.declared.tag.Tag.TheVariants as tag
use Rattle.sql_ast.specs.declared.privilege.Action.TheVariants as action
use Rattle.sql_ast.specs.declared.role.RoleAttribute.TheVariants as attribute
use Rattle.abstract_database.specs.Machine.{executes, opens}
use Rattle.database_examples.specs.Expressions.{and_also, col, eq, ge, gt, le, me, my_login, not_so, not_that, null, num, str, yes}
use Rattle.database_examples.specs.Wording.{can_bypass, create, create_role, delete, drop, drop_role, dropped, enable_rls, everyone, force_rls, grant, grant_role, grant_roles, insert, insert_key, insert_keys, no_force_rls, only_for, only_to, owned, pair, policy, reset_role, restrictive, revoke_role, select_and_update, select_keys, select_on, set_role, the_role, the_roles, update, update_where, using}
use Rattle.database_examples.specs.Lines.{Shows, a, b, c, d, deleted, e, inserted, no_rows, numbers, ok, r, refused, updated, ◌gives◌}

-- the owner is exempt until FORCE
abbrev pub forced_on_the_owner : Type 0
forced_on_the_owner = Shows (
    a (insert ((num 1 ∷ []) ∷ [])) gives inserted 1
    ∷ a enable_rls gives ok tag.AlterTable
    ∷ a force_rls gives ok tag.AlterTable
    ∷ a select_keys gives no_rows
    ∷ a no_force_rls gives ok tag.AlterTable
    ∷ a select_keys gives numbers (1 ∷ [])
    ∷ [])

-- FORCE alone guards nothing
abbrev pub force_without_enable : Type 0
force_without_enable = Shows (
    a (insert ((num 1 ∷ []) ∷ [])) gives inserted 1
    ∷ a force_rls gives ok tag.AlterTable
    ∷ a select_keys gives numbers (1 ∷ [])
    ∷ a enable_rls gives ok tag.AlterTable
    ∷ a select_keys gives no_rows
    ∷ [])

-- a role that is in the owner is exempt like the owner, and guarded where it is forced
abbrev pub members_of_the_owner : Type 0
members_of_the_owner = Shows (
    a (insert ((num 1 ∷ []) ∷ [])) gives inserted 1
    ∷ a enable_rls gives ok tag.AlterTable
    ∷ r (grant_role "ann" "bob") gives ok tag.GrantRole
    ∷ b select_keys gives numbers (1 ∷ [])
    ∷ b force_rls gives ok tag.AlterTable
    ∷ b select_keys gives no_rows
    ∷ [])

-- a superuser is exempt, FORCE or not
abbrev pub superusers_see_all : Type 0
superusers_see_all = Shows (
    a (insert ((num 1 ∷ []) ∷ [])) gives inserted 1
    ∷ a enable_rls gives ok tag.AlterTable
    ∷ a force_rls gives ok tag.AlterTable
    ∷ r select_keys gives numbers (1 ∷ [])
    ∷ [])

-- BYPASSRLS exempts its role, and no role that is in it
abbrev pub bypass_is_not_inherited : Type 0
bypass_is_not_inherited = Shows (
    a (insert ((num 1 ∷ []) ∷ [])) gives inserted 1
    ∷ a (grant select_on everyone) gives ok tag.Grant
    ∷ a enable_rls gives ok tag.AlterTable
    ∷ r (create_role "eve" (attribute.Login ∷ attribute.BypassRls ∷ [])) gives ok tag.CreateRole
    ∷ r (grant_role "eve" "bob") gives ok tag.GrantRole
    ∷ opens 6 (codes "eve") gives ok tag.Open
    ∷ executes 6 (Ok select_keys) gives numbers (1 ∷ [])
    ∷ b select_keys gives no_rows
    ∷ b (set_role "eve") gives ok tag.Set
    ∷ b select_keys gives numbers (1 ∷ [])
    ∷ [])

-- BYPASSRLS gives no privilege
abbrev pub bypass_is_no_privilege : Type 0
bypass_is_no_privilege = Shows (
    r (create_role "eve" (attribute.Login ∷ attribute.BypassRls ∷ [])) gives ok tag.CreateRole
    ∷ opens 6 (codes "eve") gives ok tag.Open
    ∷ executes 6 (Ok select_keys) gives refused state.InsufficientPrivilege
    ∷ [])

-- a policy to one role does not concern the others
abbrev pub policy_to_one_role : Type 0
policy_to_one_role = Shows (
    a (insert ((num 1 ∷ []) ∷ [])) gives inserted 1
    ∷ a (grant select_on everyone) gives ok tag.Grant
    ∷ a enable_rls gives ok tag.AlterTable
    ∷ a (create (only_to (the_role "bob") (using yes (policy "p")))) gives ok tag.CreatePolicy
    ∷ b select_keys gives numbers (1 ∷ [])
    ∷ c select_keys gives no_rows
    ∷ [])

-- a restrictive policy to one role leaves the others alone
abbrev pub restrictive_to_one_role : Type 0
restrictive_to_one_role = Shows (
    a (insert ((num 1 ∷ []) ∷ [])) gives inserted 1
    ∷ a (grant select_on everyone) gives ok tag.Grant
    ∷ a enable_rls gives ok tag.AlterTable
    ∷ a (create (using yes (policy "all"))) gives ok tag.CreatePolicy
    ∷ a (create (restrictive (only_to (the_role "bob") (using not_so (policy "not_bob")))))
    gives ok tag.CreatePolicy
    ∷ b select_keys gives no_rows
    ∷ c select_keys gives numbers (1 ∷ [])
    ∷ [])

-- a policy concerns each role that is in one of its roles, over several memberships
abbrev pub policy_to_a_group : Type 0
policy_to_a_group = Shows (
    r (create_role "staff" []) gives ok tag.CreateRole
    ∷ r (create_role "team" []) gives ok tag.CreateRole
    ∷ r (grant_role "staff" "team") gives ok tag.GrantRole
    ∷ r (grant_role "team" "bob") gives ok tag.GrantRole
    ∷ a (insert ((num 1 ∷ []) ∷ [])) gives inserted 1
    ∷ a (grant select_on everyone) gives ok tag.Grant
    ∷ a enable_rls gives ok tag.AlterTable
    ∷ a (create (only_to (the_role "staff") (using yes (policy "p")))) gives ok tag.CreatePolicy
    ∷ b select_keys gives numbers (1 ∷ [])
    ∷ c select_keys gives no_rows
    ∷ [])

-- PUBLIC in a TO list means every role
abbrev pub public_among_names : Type 0
public_among_names = Shows (
    a (insert ((num 1 ∷ []) ∷ [])) gives inserted 1
    ∷ a (grant select_on everyone) gives ok tag.Grant
    ∷ a enable_rls gives ok tag.AlterTable
    ∷ a (create (only_to (the_role "bob" ++ everyone) (using yes (policy "p")))) gives ok tag.CreatePolicy
    ∷ c select_keys gives numbers (1 ∷ [])
    ∷ r (drop_role "bob") gives ok tag.DropRole
    ∷ [])

-- policies go by the set role, and session_user in them stays the login role
abbrev pub policies_go_by_the_set_role : Type 0
policies_go_by_the_set_role = Shows (
    r (create_role "staff" []) gives ok tag.CreateRole
    ∷ r (grant_role "staff" "bob") gives ok tag.GrantRole
    ∷ a (insert ((num 1 ∷ null ∷ null ∷ str "staff" ∷ []) ∷ (num 2 ∷ null ∷ null ∷ str "bob" ∷ []) ∷ []))
    gives inserted 2
    ∷ a (grant select_on everyone) gives ok tag.Grant
    ∷ a enable_rls gives ok tag.AlterTable
    ∷ a (create (using (eq (col "o") me) (policy "p"))) gives ok tag.CreatePolicy
    ∷ b select_keys gives numbers (2 ∷ [])
    ∷ b (set_role "staff") gives ok tag.Set
    ∷ b select_keys gives numbers (1 ∷ [])
    ∷ a (create (using (eq (col "o") my_login) (policy "q"))) gives ok tag.CreatePolicy
    ∷ b select_keys gives numbers (1 ∷ 2 ∷ [])
    ∷ [])

-- the owner, its members, roles with BYPASSRLS and superusers are exempt; FORCE binds the first two
abbrev pub who_is_exempt : Type 0
who_is_exempt = Shows (
    r (grant_role "ann" "bob") gives ok tag.GrantRole
    ∷ r (create_role "eve" (attribute.Login ∷ attribute.BypassRls ∷ [])) gives ok tag.CreateRole
    ∷ opens 6 (codes "eve") gives ok tag.Open
    ∷ a (insert_key 1) gives inserted 1
    ∷ a (grant select_on (the_roles ("eve" ∷ "cid" ∷ []))) gives ok tag.Grant
    ∷ a enable_rls gives ok tag.AlterTable
    ∷ b select_keys gives numbers (1 ∷ [])
    ∷ c select_keys gives no_rows
    ∷ e select_keys gives numbers (1 ∷ [])
    ∷ a force_rls gives ok tag.AlterTable
    ∷ a select_keys gives no_rows
    ∷ b select_keys gives no_rows
    ∷ e select_keys gives numbers (1 ∷ [])
    ∷ r select_keys gives numbers (1 ∷ [])
    ∷ a (insert_key 3) gives refused state.InsufficientPrivilege
    ∷ b delete gives deleted 0
    ∷ [])

-- a session is exempt while the role that it has set is, and a superuser is guarded under another role
abbrev pub exempt_by_a_set_role : Type 0
exempt_by_a_set_role = Shows (
    r (create_role "seer" can_bypass) gives ok tag.CreateRole
    ∷ r (grant_role "seer" "bob") gives ok tag.GrantRole
    ∷ a (insert (owned 1 "seer" ∷ owned 2 "bob" ∷ [])) gives inserted 2
    ∷ a (grant select_and_update everyone) gives ok tag.Grant
    ∷ a enable_rls gives ok tag.AlterTable
    ∷ a (create (using (eq (col "o") me) (policy "p"))) gives ok tag.CreatePolicy
    ∷ b select_keys gives numbers (2 ∷ [])
    ∷ b (set_role "seer") gives ok tag.Set
    ∷ b select_keys gives numbers (1 ∷ 2 ∷ [])
    ∷ b (update "o" (str "none")) gives updated 2
    ∷ b reset_role gives ok tag.Reset
    ∷ b select_keys gives no_rows
    ∷ r (set_role "bob") gives ok tag.Set
    ∷ r select_keys gives no_rows
    ∷ [])

-- a policy for a group concerns a role from the membership on, and as long as it lasts
abbrev pub policies_of_groups : Type 0
policies_of_groups = Shows (
    r (create_role "team" []) gives ok tag.CreateRole
    ∷ a (insert_keys (1 ∷ 2 ∷ 3 ∷ [])) gives inserted 3
    ∷ a (grant select_on everyone) gives ok tag.Grant
    ∷ a enable_rls gives ok tag.AlterTable
    ∷ a (create (only_to (the_role "bob") (using (eq (col "k") (num 1)) (policy "p1"))))
    gives ok tag.CreatePolicy
    ∷ a (create (only_to (the_role "team") (using (eq (col "k") (num 2)) (policy "p2"))))
    gives ok tag.CreatePolicy
    ∷ a (create (only_to (the_roles ("cid" ∷ "dan" ∷ [])) (using (eq (col "k") (num 3)) (policy "p3"))))
    gives ok tag.CreatePolicy
    ∷ b select_keys gives numbers (1 ∷ [])
    ∷ r (grant_role "team" "bob") gives ok tag.GrantRole
    ∷ b select_keys gives numbers (1 ∷ 2 ∷ [])
    ∷ r (grant_role "bob" "cid") gives ok tag.GrantRole
    ∷ c select_keys gives numbers (1 ∷ 2 ∷ 3 ∷ [])
    ∷ r (revoke_role "team" "bob") gives ok tag.RevokeRole
    ∷ c select_keys gives numbers (1 ∷ 3 ∷ [])
    ∷ [])

-- under a set role a session has the policies of that role, and not those of its login role
abbrev pub set_role_leaves_policies_behind : Type 0
set_role_leaves_policies_behind = Shows (
    r (create_role "team" []) gives ok tag.CreateRole
    ∷ r (grant_role "team" "bob") gives ok tag.GrantRole
    ∷ a (insert_keys (1 ∷ 2 ∷ [])) gives inserted 2
    ∷ a (grant select_on everyone) gives ok tag.Grant
    ∷ a enable_rls gives ok tag.AlterTable
    ∷ a (create (only_to (the_role "bob") (using (eq (col "k") (num 1)) (policy "p1"))))
    gives ok tag.CreatePolicy
    ∷ a (create (only_to (the_role "team") (using (eq (col "k") (num 2)) (policy "p2"))))
    gives ok tag.CreatePolicy
    ∷ b select_keys gives numbers (1 ∷ 2 ∷ [])
    ∷ b (set_role "team") gives ok tag.Set
    ∷ b select_keys gives numbers (2 ∷ [])
    ∷ b reset_role gives ok tag.Reset
    ∷ b select_keys gives numbers (1 ∷ 2 ∷ [])
    ∷ [])

-- a restrictive policy for a group hides rows from its members, and from nobody else
abbrev pub restrictive_policy_of_a_group : Type 0
restrictive_policy_of_a_group = Shows (
    r (create_role "team" []) gives ok tag.CreateRole
    ∷ a (insert_key 1) gives inserted 1
    ∷ a (grant select_on everyone) gives ok tag.Grant
    ∷ a enable_rls gives ok tag.AlterTable
    ∷ a (create (using yes (policy "all_rows"))) gives ok tag.CreatePolicy
    ∷ a (create (restrictive (only_to (the_role "team") (using not_so (policy "no_row")))))
    gives ok tag.CreatePolicy
    ∷ d select_keys gives numbers (1 ∷ [])
    ∷ r (grant_role "team" "dan") gives ok tag.GrantRole
    ∷ d select_keys gives no_rows
    ∷ b select_keys gives numbers (1 ∷ [])
    ∷ [])

-- a member of two groups has the permissive policies of both, for the commands that each is for
abbrev pub policies_of_two_groups : Type 0
policies_of_two_groups = Shows (
    r (create_role "nurses" []) gives ok tag.CreateRole
    ∷ r (create_role "doctors" []) gives ok tag.CreateRole
    ∷ r (grant_roles ("nurses" ∷ []) ("bob" ∷ "cid" ∷ [])) gives ok tag.GrantRole
    ∷ r (grant_role "doctors" "cid") gives ok tag.GrantRole
    ∷ a (insert (pair 1 1 ∷ pair 2 2 ∷ pair 3 3 ∷ [])) gives inserted 3
    ∷ a (grant select_and_update (the_role "nurses")) gives ok tag.Grant
    ∷ a enable_rls gives ok tag.AlterTable
    ∷ a (create (only_to (the_role "nurses") (using (le (col "x") (num 2)) (policy "n"))))
    gives ok tag.CreatePolicy
    ∷ a (create (only_for action.Select (only_to (the_role "doctors") (using (ge (col "x") (num 3)) (policy "d")))))
    gives ok tag.CreatePolicy
    ∷ b select_keys gives numbers (1 ∷ 2 ∷ [])
    ∷ c select_keys gives numbers (1 ∷ 2 ∷ 3 ∷ [])
    ∷ c (update_where "x" (col "x") (gt (col "k") (num 0))) gives updated 2
    ∷ [])

-- in a policy CURRENT_USER is the set role, and SESSION_USER stays the login role
abbrev pub current_and_session_user : Type 0
current_and_session_user = Shows (
    r (create_role "team" []) gives ok tag.CreateRole
    ∷ r (grant_role "team" "bob") gives ok tag.GrantRole
    ∷ a (insert ((num 1 ∷ num 1 ∷ yes ∷ str "bob" ∷ []) ∷ (num 2 ∷ num 2 ∷ yes ∷ str "team" ∷ []) ∷ (num 3 ∷ num 3 ∷ not_so ∷ str "bob" ∷ []) ∷ []))
    gives inserted 3
    ∷ a (grant select_on (the_role "team")) gives ok tag.Grant
    ∷ a enable_rls gives ok tag.AlterTable
    ∷ a (create (using (and_also (col "s") (eq (col "o") me)) (policy "cu"))) gives ok tag.CreatePolicy
    ∷ a (create (using (and_also (not_that (col "s")) (eq (col "o") my_login)) (policy "su")))
    gives ok tag.CreatePolicy
    ∷ b select_keys gives numbers (1 ∷ 3 ∷ [])
    ∷ b (set_role "team") gives ok tag.Set
    ∷ b select_keys gives numbers (2 ∷ 3 ∷ [])
    ∷ r (set_role "team") gives ok tag.Set
    ∷ r select_keys gives numbers (2 ∷ [])
    ∷ [])

-- each role of a TO list must be there, also beside PUBLIC, and one that is named twice counts once
abbrev pub roles_of_a_to_list : Type 0
roles_of_a_to_list = Shows (
    a (create (only_to (everyone ++ the_role "nobody") (using yes (policy "p"))))
    gives refused state.UndefinedObject
    ∷ a (create (only_to (the_roles ("cid" ∷ "cid" ∷ [])) (using yes (policy "p")))) gives ok tag.CreatePolicy
    ∷ r (drop_role "cid") gives refused state.DependentObjects
    ∷ a (drop "p") gives ok dropped
    ∷ r (drop_role "cid") gives ok tag.DropRole
    ∷ a (create (only_to (the_role "cid") (using yes (policy "p")))) gives refused state.UndefinedObject
    ∷ [])
