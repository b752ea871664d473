-- GRANT and REVOKE: grant options, chains of grants, and warnings.
use Rattle.std.specs.Prelude.{[], codes, ◌++◌, ◌∷◌}
use Rattle.sql_types.specs.declared.state.SqlState.TheVariants as state
use Rattle.sql_types.specs.declared.tag.Tag.TheVariants as tag
use Rattle.sql_types.specs.declared.warning.Warning.TheVariants as warning
use Rattle.sql_ast.specs.declared.privilege.Action.TheVariants as action
use Rattle.abstract_database.specs.Machine.{opens}
use Rattle.database_examples.specs.Wording.{all_on, can_log_in, create_role, create_u, delete, delete_on, drop_table, everyone, grant, grant_role, grant_roles, grant_with_option, insert_key, insert_on, on, reset_role, revoke, revoke_cascade, revoke_option, revoke_option_cascade, revoke_restrict, revoke_role, select_all, select_all_of_u, select_and_delete, select_and_insert, select_and_update, select_keys, select_on, set_role, the_role, the_roles, these_on, update_on}
use Rattle.database_examples.specs.Lines.{Shows, a, b, c, d, deleted, e, inserted, no_rows, numbers, ok, r, refused, warning, ◌gives◌}

-- ann grants to bob, bob to cid and cid to bob: without the first grant the cycle of the others supports nothing
abbrev pub cycle_of_grants_goes : Type 0
cycle_of_grants_goes = Shows (
    a (grant_with_option select_on (the_role "bob")) gives ok tag.Grant
    ∷ b (grant_with_option select_on (the_role "cid")) gives ok tag.Grant
    ∷ c (grant_with_option select_on (the_role "bob")) gives ok tag.Grant
    ∷ a (revoke_restrict select_on (the_role "bob")) gives refused state.DependentPrivileges
    ∷ a (revoke_cascade select_on (the_role "bob")) gives ok tag.Revoke
    ∷ b select_all gives refused state.InsufficientPrivilege
    ∷ c select_all gives refused state.InsufficientPrivilege
    ∷ [])

-- what a second grantor gave stays until that grantor takes it
abbrev pub two_grantors : Type 0
two_grantors = Shows (
    a (grant_with_option select_on (the_role "bob" ++ the_role "cid")) gives ok tag.Grant
    ∷ b (grant select_on (the_role "dan")) gives ok tag.Grant
    ∷ c (grant select_on (the_role "dan")) gives ok tag.Grant
    ∷ b (revoke select_on (the_role "dan")) gives ok tag.Revoke
    ∷ d select_all gives no_rows
    ∷ c (revoke select_on (the_role "dan")) gives ok tag.Revoke
    ∷ d select_all gives refused state.InsufficientPrivilege
    ∷ [])

-- an action without an acting grantor is left out, with a warning
abbrev pub left_out_with_a_warning : Type 0
left_out_with_a_warning = Shows (
    a (grant_with_option select_on (the_role "bob")) gives ok tag.Grant
    ∷ a (grant insert_on (the_role "bob")) gives ok tag.Grant
    ∷ b (grant select_and_insert (the_role "cid")) gives warning warning.PrivilegeNotGranted tag.Grant
    ∷ c select_all gives no_rows
    ∷ c (insert_key 1) gives refused state.InsufficientPrivilege
    ∷ d (grant select_on (the_role "bob")) gives refused state.InsufficientPrivilege
    ∷ b (grant all_on (the_role "dan")) gives ok tag.Grant
    ∷ d select_all gives no_rows
    ∷ d (insert_key 1) gives refused state.InsufficientPrivilege
    ∷ d (grant all_on (the_role "ann")) gives warning warning.PrivilegeNotGranted tag.Grant
    ∷ [])

-- no cycle of memberships, and no grant option to PUBLIC
abbrev pub refused_grants : Type 0
refused_grants = Shows (
    r (grant_role "ann" "bob") gives ok tag.GrantRole
    ∷ r (grant_role "bob" "ann") gives refused state.InvalidGrantOperation
    ∷ a (grant_with_option select_on everyone) gives refused state.InvalidGrantOperation
    ∷ [])

-- without the grant option what was granted by it is lost, and the privilege itself stays
abbrev pub grant_option_revoked : Type 0
grant_option_revoked = Shows (
    a (grant_with_option select_on (the_role "bob")) gives ok tag.Grant
    ∷ b (grant select_on (the_role "cid")) gives ok tag.Grant
    ∷ a (revoke_option select_on (the_role "bob")) gives refused state.DependentPrivileges
    ∷ a (revoke_option_cascade select_on (the_role "bob")) gives ok tag.Revoke
    ∷ b select_all gives no_rows
    ∷ c select_all gives refused state.InsufficientPrivilege
    ∷ [])

-- a later grant without the option takes no option away
abbrev pub option_stays : Type 0
option_stays = Shows (
    a (grant_with_option select_on (the_role "bob")) gives ok tag.Grant
    ∷ a (grant select_on (the_role "bob")) gives ok tag.Grant
    ∷ b (grant select_on (the_role "cid")) gives ok tag.Grant
    ∷ [])

-- REVOKE of what was not granted succeeds
abbrev pub revoke_of_nothing : Type 0
revoke_of_nothing = Shows (
    a (revoke select_on (the_role "bob")) gives ok tag.Revoke
    ∷ b select_all gives refused state.InsufficientPrivilege
    ∷ [])

-- a superuser grants and revokes as the owner
abbrev pub superuser_acts_as_owner : Type 0
superuser_acts_as_owner = Shows (
    a (grant select_on (the_role "bob")) gives ok tag.Grant
    ∷ r (revoke select_on (the_role "bob")) gives ok tag.Revoke
    ∷ b select_all gives refused state.InsufficientPrivilege
    ∷ [])

-- REVOKE takes nothing that another role granted
abbrev pub only_the_acting_grantors_grants : Type 0
only_the_acting_grantors_grants = Shows (
    a (grant_with_option select_on (the_role "bob")) gives ok tag.Grant
    ∷ b (grant select_on (the_role "cid")) gives ok tag.Grant
    ∷ a (revoke_cascade select_on (the_role "cid")) gives ok tag.Revoke
    ∷ c select_all gives no_rows
    ∷ [])

-- with a second chain to the owner nothing is abandoned
abbrev pub second_chain_holds : Type 0
second_chain_holds = Shows (
    a (grant_with_option select_on (the_role "bob" ++ the_role "cid")) gives ok tag.Grant
    ∷ c (grant_with_option select_on (the_role "bob")) gives ok tag.Grant
    ∷ b (grant select_on (the_role "dan")) gives ok tag.Grant
    ∷ a (revoke_restrict select_on (the_role "bob")) gives ok tag.Revoke
    ∷ d select_all gives no_rows
    ∷ c (revoke_cascade select_on (the_role "bob")) gives ok tag.Revoke
    ∷ d select_all gives refused state.InsufficientPrivilege
    ∷ [])

-- a grant to oneself supports nothing
abbrev pub grant_to_oneself : Type 0
grant_to_oneself = Shows (
    a (grant_with_option select_on (the_role "bob")) gives ok tag.Grant
    ∷ b (grant_with_option select_on (the_role "bob")) gives ok tag.Grant
    ∷ a (revoke_cascade select_on (the_role "bob")) gives ok tag.Revoke
    ∷ b select_all gives refused state.InsufficientPrivilege
    ∷ [])

-- a grant option that is lost takes a whole chain with it
abbrev pub lost_option_over_a_chain : Type 0
lost_option_over_a_chain = Shows (
    a (grant_with_option select_on (the_role "bob")) gives ok tag.Grant
    ∷ b (grant_with_option select_on (the_role "cid")) gives ok tag.Grant
    ∷ c (grant select_on (the_role "dan")) gives ok tag.Grant
    ∷ a (revoke_option_cascade select_on (the_role "bob")) gives ok tag.Revoke
    ∷ b select_all gives no_rows
    ∷ c select_all gives refused state.InsufficientPrivilege
    ∷ d select_all gives refused state.InsufficientPrivilege
    ∷ b (grant select_on (the_role "cid")) gives warning warning.PrivilegeNotGranted tag.Grant
    ∷ [])

-- of several actions one that has dependents refuses the whole REVOKE
abbrev pub one_dependent_action_refuses : Type 0
one_dependent_action_refuses = Shows (
    a (grant_with_option select_on (the_role "bob")) gives ok tag.Grant
    ∷ a (grant insert_on (the_role "bob")) gives ok tag.Grant
    ∷ b (grant select_on (the_role "cid")) gives ok tag.Grant
    ∷ a (revoke all_on (the_role "bob")) gives refused state.DependentPrivileges
    ∷ b (insert_key 1) gives inserted 1
    ∷ a (revoke insert_on (the_role "bob")) gives ok tag.Revoke
    ∷ b (insert_key 2) gives refused state.InsufficientPrivilege
    ∷ [])

-- a member grants as the group that holds the option, and what it gave goes with the group's option
abbrev pub grants_as_the_group : Type 0
grants_as_the_group = Shows (
    r (create_role "staff" []) gives ok tag.CreateRole
    ∷ r (grant_role "staff" "bob") gives ok tag.GrantRole
    ∷ a (grant_with_option select_on (the_role "staff")) gives ok tag.Grant
    ∷ b (grant select_on (the_role "cid")) gives ok tag.Grant
    ∷ r (revoke_role "staff" "bob") gives ok tag.RevokeRole
    ∷ c select_all gives no_rows
    ∷ a (revoke_cascade select_on (the_role "staff")) gives ok tag.Revoke
    ∷ c select_all gives refused state.InsufficientPrivilege
    ∷ [])

-- of several groups that hold the option the first by name grants
abbrev pub grants_as_the_least_group : Type 0
grants_as_the_least_group = Shows (
    r (create_role "zeta" []) gives ok tag.CreateRole
    ∷ r (create_role "alpha" []) gives ok tag.CreateRole
    ∷ r (grant_role "zeta" "bob") gives ok tag.GrantRole
    ∷ r (grant_role "alpha" "bob") gives ok tag.GrantRole
    ∷ a (grant_with_option select_on (the_role "zeta" ++ the_role "alpha")) gives ok tag.Grant
    ∷ b (grant select_on (the_role "cid")) gives ok tag.Grant
    ∷ a (revoke_cascade select_on (the_role "zeta")) gives ok tag.Revoke
    ∷ c select_all gives no_rows
    ∷ a (revoke_cascade select_on (the_role "alpha")) gives ok tag.Revoke
    ∷ c select_all gives refused state.InsufficientPrivilege
    ∷ [])

-- one who has any privilege is warned where another would be refused
abbrev pub warned_not_refused : Type 0
warned_not_refused = Shows (
    a (grant insert_on everyone) gives ok tag.Grant
    ∷ b (grant select_on (the_role "cid")) gives warning warning.PrivilegeNotGranted tag.Grant
    ∷ b (revoke select_on (the_role "cid")) gives warning warning.PrivilegeNotRevoked tag.Revoke
    ∷ c select_all gives refused state.InsufficientPrivilege
    ∷ [])

-- a grant option to PUBLIC is refused whatever the role may grant
abbrev pub no_option_to_public : Type 0
no_option_to_public = Shows (
    a (grant_with_option select_on (the_role "bob" ++ everyone)) gives refused state.InvalidGrantOperation
    ∷ b select_all gives refused state.InsufficientPrivilege
    ∷ [])

-- a role without any privilege on the table may neither grant nor revoke, and is refused so before its grant option to PUBLIC is
abbrev pub grants_without_a_privilege : Type 0
grants_without_a_privilege = Shows (
    b (revoke select_on (the_role "cid")) gives refused state.InsufficientPrivilege
    ∷ b (grant_with_option select_on everyone) gives refused state.InsufficientPrivilege
    ∷ a (grant insert_on (the_role "bob")) gives ok tag.Grant
    ∷ b (grant_with_option select_on everyone) gives refused state.InvalidGrantOperation
    ∷ [])

-- REVOKE is refused while a chain of grants hangs on it, and with CASCADE takes the chain from that link on
abbrev pub cascade_along_a_chain : Type 0
cascade_along_a_chain = Shows (
    r (create_role "eve" can_log_in) gives ok tag.CreateRole
    ∷ opens 6 (codes "eve") gives ok tag.Open
    ∷ a (grant_with_option select_on (the_role "bob")) gives ok tag.Grant
    ∷ b (grant_with_option select_on (the_role "cid")) gives ok tag.Grant
    ∷ c (grant_with_option select_on (the_role "dan")) gives ok tag.Grant
    ∷ d (grant select_on (the_role "eve")) gives ok tag.Grant
    ∷ b (revoke select_on (the_role "cid")) gives refused state.DependentPrivileges
    ∷ e select_all gives no_rows
    ∷ b (revoke_cascade select_on (the_role "cid")) gives ok tag.Revoke
    ∷ b select_all gives no_rows
    ∷ c select_all gives refused state.InsufficientPrivilege
    ∷ d select_all gives refused state.InsufficientPrivilege
    ∷ e select_all gives refused state.InsufficientPrivilege
    ∷ a (revoke_restrict select_on (the_role "bob")) gives ok tag.Revoke
    ∷ [])

-- what two grantors gave holds a third grant up until both have taken it
abbrev pub diamond_of_grants : Type 0
diamond_of_grants = Shows (
    r (create_role "eve" can_log_in) gives ok tag.CreateRole
    ∷ opens 6 (codes "eve") gives ok tag.Open
    ∷ a (grant_with_option select_on (the_roles ("bob" ∷ "cid" ∷ []))) gives ok tag.Grant
    ∷ b (grant_with_option select_on (the_role "dan")) gives ok tag.Grant
    ∷ c (grant_with_option select_on (the_role "dan")) gives ok tag.Grant
    ∷ d (grant select_on (the_role "eve")) gives ok tag.Grant
    ∷ a (revoke_cascade select_on (the_role "bob")) gives ok tag.Revoke
    ∷ b select_all gives refused state.InsufficientPrivilege
    ∷ e select_all gives no_rows
    ∷ c (revoke select_on (the_role "dan")) gives refused state.DependentPrivileges
    ∷ c (revoke_cascade select_on (the_role "dan")) gives ok tag.Revoke
    ∷ d select_all gives refused state.InsufficientPrivilege
    ∷ e select_all gives refused state.InsufficientPrivilege
    ∷ [])

-- a grant without the option does not hold up what its grantee granted
abbrev pub grant_without_option_holds_nothing_up : Type 0
grant_without_option_holds_nothing_up = Shows (
    a (grant_with_option select_on (the_roles ("bob" ∷ "cid" ∷ []))) gives ok tag.Grant
    ∷ b (grant_with_option select_on (the_role "dan")) gives ok tag.Grant
    ∷ c (grant select_on (the_role "dan")) gives ok tag.Grant
    ∷ d (grant select_on everyone) gives ok tag.Grant
    ∷ b (revoke select_on (the_role "dan")) gives refused state.DependentPrivileges
    ∷ b (revoke_cascade select_on (the_role "dan")) gives ok tag.Revoke
    ∷ b select_all gives no_rows
    ∷ d select_all gives no_rows
    ∷ d (grant select_on (the_role "bob")) gives warning warning.PrivilegeNotGranted tag.Grant
    ∷ c (revoke select_on (the_role "dan")) gives ok tag.Revoke
    ∷ d select_all gives refused state.InsufficientPrivilege
    ∷ [])

-- where the group holds the option, the group is the grantor: another member takes back what a former one
-- gave
abbrev pub group_is_the_grantor : Type 0
group_is_the_grantor = Shows (
    r (create_role "team" []) gives ok tag.CreateRole
    ∷ r (grant_roles ("team" ∷ []) ("bob" ∷ "cid" ∷ [])) gives ok tag.GrantRole
    ∷ a (grant_with_option select_on (the_role "team")) gives ok tag.Grant
    ∷ b (grant select_on (the_role "dan")) gives ok tag.Grant
    ∷ r (revoke_role "team" "bob") gives ok tag.RevokeRole
    ∷ d select_all gives no_rows
    ∷ b (revoke select_on (the_role "dan")) gives refused state.InsufficientPrivilege
    ∷ c (revoke select_on (the_role "dan")) gives ok tag.Revoke
    ∷ d select_all gives refused state.InsufficientPrivilege
    ∷ [])

-- the grantor is chosen for each action: here the role itself for SELECT, and its group for INSERT
abbrev pub grantor_of_each_action : Type 0
grantor_of_each_action = Shows (
    r (create_role "team" []) gives ok tag.CreateRole
    ∷ r (grant_role "team" "bob") gives ok tag.GrantRole
    ∷ a (grant_with_option select_on (the_role "bob")) gives ok tag.Grant
    ∷ a (grant_with_option insert_on (the_role "team")) gives ok tag.Grant
    ∷ b (grant select_and_insert (the_role "cid")) gives ok tag.Grant
    ∷ c (insert_key 1) gives inserted 1
    ∷ a (revoke_cascade select_on (the_role "bob")) gives ok tag.Revoke
    ∷ c select_all gives refused state.InsufficientPrivilege
    ∷ c (insert_key 2) gives inserted 1
    ∷ [])

-- a role that holds the option itself grants by it, whatever its groups hold
abbrev pub own_option_before_a_groups : Type 0
own_option_before_a_groups = Shows (
    r (create_role "alpha" []) gives ok tag.CreateRole
    ∷ r (grant_role "alpha" "bob") gives ok tag.GrantRole
    ∷ a (grant_with_option select_on (the_role "bob")) gives ok tag.Grant
    ∷ a (grant_with_option select_and_insert (the_role "alpha")) gives ok tag.Grant
    ∷ b (grant select_and_insert (the_role "cid")) gives ok tag.Grant
    ∷ a (revoke select_on (the_role "bob")) gives refused state.DependentPrivileges
    ∷ a (revoke_cascade select_on (the_role "bob")) gives ok tag.Revoke
    ∷ c select_all gives refused state.InsufficientPrivilege
    ∷ c (insert_key 1) gives inserted 1
    ∷ [])

-- one who joins the owner acts as the owner from then on, and no longer takes what it gave before
abbrev pub grantee_joins_the_owner : Type 0
grantee_joins_the_owner = Shows (
    a (grant_with_option select_on (the_role "bob")) gives ok tag.Grant
    ∷ b (grant select_on (the_role "cid")) gives ok tag.Grant
    ∷ r (grant_role "ann" "bob") gives ok tag.GrantRole
    ∷ b (revoke select_on (the_role "cid")) gives ok tag.Revoke
    ∷ c select_keys gives no_rows
    ∷ r (revoke_role "ann" "bob") gives ok tag.RevokeRole
    ∷ b (revoke select_on (the_role "cid")) gives ok tag.Revoke
    ∷ c select_keys gives refused state.InsufficientPrivilege
    ∷ [])

-- a superuser that has set a role grants as that role, and is refused where that role would be
abbrev pub superuser_under_a_set_role : Type 0
superuser_under_a_set_role = Shows (
    a (grant_with_option select_on (the_role "bob")) gives ok tag.Grant
    ∷ r (set_role "bob") gives ok tag.Set
    ∷ r (grant select_on (the_role "cid")) gives ok tag.Grant
    ∷ r (grant insert_on (the_role "cid")) gives warning warning.PrivilegeNotGranted tag.Grant
    ∷ r reset_role gives ok tag.Reset
    ∷ r (revoke select_on (the_role "cid")) gives ok tag.Revoke
    ∷ c select_keys gives no_rows
    ∷ b (revoke select_on (the_role "cid")) gives ok tag.Revoke
    ∷ c select_keys gives refused state.InsufficientPrivilege
    ∷ r (set_role "dan") gives ok tag.Set
    ∷ r (grant select_on (the_role "cid")) gives refused state.InsufficientPrivilege
    ∷ r (drop_table "t") gives refused state.InsufficientPrivilege
    ∷ [])

-- what a superuser gave is the owner's grant: the owner takes it back
abbrev pub owner_takes_what_a_superuser_gave : Type 0
owner_takes_what_a_superuser_gave = Shows (
    r (grant_with_option select_and_delete (the_role "bob")) gives ok tag.Grant
    ∷ b (grant select_on (the_role "cid")) gives ok tag.Grant
    ∷ a (revoke select_on (the_role "bob")) gives refused state.DependentPrivileges
    ∷ r (revoke_cascade select_on (the_role "bob")) gives ok tag.Revoke
    ∷ c select_all gives refused state.InsufficientPrivilege
    ∷ b delete gives deleted 0
    ∷ a (revoke delete_on (the_role "bob")) gives ok tag.Revoke
    ∷ b delete gives refused state.InsufficientPrivilege
    ∷ [])

-- REVOKE GRANT OPTION FOR where there is none changes nothing
abbrev pub option_that_is_not_there : Type 0
option_that_is_not_there = Shows (
    a (grant select_on (the_role "bob")) gives ok tag.Grant
    ∷ a (revoke_option select_on (the_role "bob")) gives ok tag.Revoke
    ∷ a (revoke_option select_on (the_role "cid")) gives ok tag.Revoke
    ∷ a (revoke_option_cascade all_on (everyone ++ the_role "bob")) gives ok tag.Revoke
    ∷ b select_all gives no_rows
    ∷ [])

-- one who holds the option takes back what it gave, and nothing that the owner gave
abbrev pub grantee_takes_its_own_grants_alone : Type 0
grantee_takes_its_own_grants_alone = Shows (
    a (grant_with_option select_on (the_role "bob")) gives ok tag.Grant
    ∷ a (grant select_on (the_role "cid")) gives ok tag.Grant
    ∷ b (revoke select_on (the_role "cid")) gives ok tag.Revoke
    ∷ c select_all gives no_rows
    ∷ b (revoke select_on (the_role "bob")) gives ok tag.Revoke
    ∷ b select_all gives no_rows
    ∷ b (revoke select_on (the_role "ann")) gives ok tag.Revoke
    ∷ a select_all gives no_rows
    ∷ [])

-- GRANT warns where an action that it names has no grantor, and with ALL only where none of the four has one
abbrev pub warnings_of_grant : Type 0
warnings_of_grant = Shows (
    a (grant_with_option select_on (the_role "bob")) gives ok tag.Grant
    ∷ a (grant update_on (the_role "bob")) gives ok tag.Grant
    ∷ b (grant select_and_update (the_role "cid")) gives warning warning.PrivilegeNotGranted tag.Grant
    ∷ b (grant delete_on (the_role "cid")) gives warning warning.PrivilegeNotGranted tag.Grant
    ∷ b (grant_with_option all_on (the_role "dan")) gives ok tag.Grant
    ∷ d (grant select_on (the_role "cid")) gives ok tag.Grant
    ∷ d (grant insert_on (the_role "cid")) gives warning warning.PrivilegeNotGranted tag.Grant
    ∷ c (grant all_on (the_role "dan")) gives warning warning.PrivilegeNotGranted tag.Grant
    ∷ [])

-- REVOKE warns as GRANT does, and is refused where the role has no privilege at all
abbrev pub warnings_of_revoke : Type 0
warnings_of_revoke = Shows (
    a (grant_with_option select_on (the_role "bob")) gives ok tag.Grant
    ∷ b (grant select_on (the_role "cid")) gives ok tag.Grant
    ∷ b (revoke update_on (the_role "cid")) gives warning warning.PrivilegeNotRevoked tag.Revoke
    ∷ b (revoke select_and_update (the_role "cid")) gives warning warning.PrivilegeNotRevoked tag.Revoke
    ∷ c (revoke select_on (the_role "dan")) gives refused state.InsufficientPrivilege
    ∷ b (revoke all_on (the_role "cid")) gives ok tag.Revoke
    ∷ b (grant select_on (the_role "cid")) gives ok tag.Grant
    ∷ c (revoke all_on (the_role "dan")) gives warning warning.PrivilegeNotRevoked tag.Revoke
    ∷ d (revoke all_on (the_role "cid")) gives refused state.InsufficientPrivilege
    ∷ [])

-- an action or a grantee that is named twice counts once
abbrev pub named_twice_counts_once : Type 0
named_twice_counts_once = Shows (
    a (grant (these_on (action.Select ∷ action.Select ∷ [])) (the_roles ("cid" ∷ "cid" ∷ [])))
    gives ok tag.Grant
    ∷ c select_all gives no_rows
    ∷ a (revoke select_on (the_role "cid")) gives ok tag.Revoke
    ∷ c select_all gives refused state.InsufficientPrivilege
    ∷ [])

-- the owner may be a grantee too; without that grant it has all that it had
abbrev pub owner_as_a_grantee : Type 0
owner_as_a_grantee = Shows (
    a (grant select_on (the_role "ann")) gives ok tag.Grant
    ∷ a (revoke select_on (the_role "ann")) gives ok tag.Revoke
    ∷ a select_all gives no_rows
    ∷ a (revoke_cascade all_on (the_role "ann")) gives ok tag.Revoke
    ∷ a (insert_key 1) gives inserted 1
    ∷ a (grant select_on (the_role "bob")) gives ok tag.Grant
    ∷ b select_keys gives numbers (1 ∷ [])
    ∷ [])

-- an option may go back to one from whom it came; the cycle goes with the first grant
abbrev pub option_given_back_to_the_grantor : Type 0
option_given_back_to_the_grantor = Shows (
    a (grant_with_option select_on (the_role "bob")) gives ok tag.Grant
    ∷ b (grant_with_option select_on (the_role "cid")) gives ok tag.Grant
    ∷ c (grant_with_option select_on (the_role "bob")) gives ok tag.Grant
    ∷ b (grant_with_option select_on (the_role "ann")) gives ok tag.Grant
    ∷ b (revoke select_on (the_role "cid")) gives refused state.DependentPrivileges
    ∷ a (revoke_cascade select_on (the_role "bob")) gives ok tag.Revoke
    ∷ b select_all gives refused state.InsufficientPrivilege
    ∷ c select_all gives refused state.InsufficientPrivilege
    ∷ a select_all gives no_rows
    ∷ [])

-- a plain grant to oneself depends on one's option, and refuses the owner's REVOKE without CASCADE
abbrev pub own_grant_depends_too : Type 0
own_grant_depends_too = Shows (
    a (grant_with_option select_on (the_role "bob")) gives ok tag.Grant
    ∷ b (grant select_on (the_role "bob")) gives ok tag.Grant
    ∷ a (revoke select_on (the_role "bob")) gives refused state.DependentPrivileges
    ∷ a (revoke_cascade select_on (the_role "bob")) gives ok tag.Revoke
    ∷ b select_keys gives refused state.InsufficientPrivilege
    ∷ [])

-- GRANT ALL, REVOKE ALL and GRANT OPTION FOR are refused to a role without any privilege, too
abbrev pub strangers_neither_grant_nor_revoke : Type 0
strangers_neither_grant_nor_revoke = Shows (
    b (grant all_on (the_role "bob")) gives refused state.InsufficientPrivilege
    ∷ b (revoke_cascade all_on (the_role "ann")) gives refused state.InsufficientPrivilege
    ∷ b (revoke_option_cascade all_on (the_role "ann")) gives refused state.InsufficientPrivilege
    ∷ r (create_role "team" []) gives ok tag.CreateRole
    ∷ r (grant_role "team" "dan") gives ok tag.GrantRole
    ∷ a (grant select_on (the_role "team")) gives ok tag.Grant
    ∷ d (revoke select_on (the_role "cid")) gives warning warning.PrivilegeNotRevoked tag.Revoke
    ∷ [])

-- the option for one action or on one table holds up no grant of another
abbrev pub option_for_another_action_or_table : Type 0
option_for_another_action_or_table = Shows (
    a create_u gives ok tag.CreateTable
    ∷ a (grant_with_option select_and_insert (the_role "bob")) gives ok tag.Grant
    ∷ a (on "u" (grant_with_option select_on (the_role "bob"))) gives ok tag.Grant
    ∷ b (grant insert_on (the_role "cid")) gives ok tag.Grant
    ∷ b (on "u" (grant select_on (the_role "cid"))) gives ok tag.Grant
    ∷ a (revoke insert_on (the_role "bob")) gives refused state.DependentPrivileges
    ∷ a (on "u" (revoke select_on (the_role "bob"))) gives refused state.DependentPrivileges
    ∷ a (revoke select_on (the_role "bob")) gives ok tag.Revoke
    ∷ a (revoke_cascade insert_on (the_role "bob")) gives ok tag.Revoke
    ∷ c (insert_key 1) gives refused state.InsufficientPrivilege
    ∷ c (select_all_of_u) gives no_rows
    ∷ [])

-- GRANT and REVOKE look for the table first, and then for each role
abbrev pub names_of_a_grant : Type 0
names_of_a_grant = Shows (
    b (on "nothere" (grant select_on (the_role "nobody"))) gives refused state.UndefinedTable
    ∷ b (on "nothere" (revoke select_on (the_role "nobody"))) gives refused state.UndefinedTable
    ∷ b (grant select_on (the_roles ("cid" ∷ "nobody" ∷ []))) gives refused state.UndefinedObject
    ∷ b (revoke select_on (the_role "nobody" ++ everyone)) gives refused state.UndefinedObject
    ∷ b (grant select_on everyone) gives refused state.InsufficientPrivilege
    ∷ [])
