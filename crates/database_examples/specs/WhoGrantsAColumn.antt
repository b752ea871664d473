-- GRANT and REVOKE of columns: grant options, chains of grants, warnings, and names.
use Rattle.std.specs.Prelude.{[], ◌++◌, ◌∷◌}
use Rattle.sql_types.specs.declared.state.SqlState.TheVariants as state
use Rattle.sql_types.specs.declared.tag.Tag.TheVariants as tag
use Rattle.sql_types.specs.declared.warning.Warning.TheVariants as warning
use Rattle.sql_ast.specs.declared.privilege.Action.TheVariants as action
use Rattle.sql_ast.specs.Read.{IsReadPrivileges}
use Rattle.database_examples.specs.Expressions.{num}
use Rattle.database_examples.specs.Wording.{all_of, all_on, create_role, everyone, from_t, grant, grant_role, grant_roles, grant_with_option, insert_anns, insert_key, insert_of, of_columns, on, one, reset_role, revoke, revoke_cascade, revoke_option, revoke_option_cascade, select_all, select_and_update, select_count, select_keys, select_of, select_on, select_these, set_role, the_role, the_roles, these, update, update_of, update_on, whole}
use Rattle.database_examples.specs.Lines.{Shows, a, anns_row, b, c, d, inserted, no_rows, number_rows, numbers, ok, r, refused, updated, warning, ◌gives◌}

-- REVOKE on the table takes what was granted on its columns, and one on columns leaves what was granted on the table
abbrev pub revoke_on_a_table_takes_columns : Type 0
revoke_on_a_table_takes_columns = Shows (
    a insert_anns gives inserted 1
    ∷ a (grant (these (of_columns action.Select ("k" ∷ "x" ∷ []) ∷ of_columns action.Update ("x" ∷ []) ∷ [])) (the_role "bob")) gives ok tag.Grant
    ∷ a (revoke select_on (the_role "bob")) gives ok tag.Revoke
    ∷ b select_keys gives refused state.InsufficientPrivilege
    ∷ b (select_count from_t) gives refused state.InsufficientPrivilege
    ∷ b (update "x" (num 6)) gives updated 1
    ∷ a (grant select_on (the_role "bob")) gives ok tag.Grant
    ∷ a (revoke (select_of ("k" ∷ "x" ∷ "s" ∷ "o" ∷ [])) (the_role "bob")) gives ok tag.Revoke
    ∷ b select_keys gives numbers (1 ∷ [])
    ∷ a (grant (select_of ("k" ∷ [])) (the_role "bob")) gives ok tag.Grant
    ∷ a (revoke select_on (the_role "bob")) gives ok tag.Revoke
    ∷ b select_keys gives refused state.InsufficientPrivilege
    ∷ a (revoke all_on (the_role "bob")) gives ok tag.Revoke
    ∷ b (update "x" (num 7)) gives refused state.InsufficientPrivilege
    ∷ [])

-- a grant option on a column lets its holder grant that column, and not another one, another action or the table
abbrev pub column_option_grants_that_column : Type 0
column_option_grants_that_column = Shows (
    a insert_anns gives inserted 1
    ∷ a (grant_with_option (select_of ("k" ∷ [])) (the_role "bob")) gives ok tag.Grant
    ∷ b (grant (select_of ("k" ∷ "x" ∷ [])) (the_role "cid")) gives warning warning.PrivilegeNotGranted tag.Grant
    ∷ c select_keys gives numbers (1 ∷ [])
    ∷ c (select_these ("x" ∷ [])) gives refused state.InsufficientPrivilege
    ∷ b (grant select_on (the_role "dan")) gives warning warning.PrivilegeNotGranted tag.Grant
    ∷ d (select_count from_t) gives refused state.InsufficientPrivilege
    ∷ b (grant (update_of ("k" ∷ [])) (the_role "dan")) gives warning warning.PrivilegeNotGranted tag.Grant
    ∷ b (grant_with_option (select_of ("k" ∷ [])) (the_role "dan")) gives ok tag.Grant
    ∷ d (grant (select_of ("k" ∷ [])) (the_role "cid")) gives ok tag.Grant
    ∷ d select_keys gives numbers (1 ∷ [])
    ∷ d select_all gives refused state.InsufficientPrivilege
    ∷ [])

-- a grant option on the table lets its columns be granted, and supports what was granted
abbrev pub table_option_grants_columns : Type 0
table_option_grants_columns = Shows (
    a insert_anns gives inserted 1
    ∷ a (grant_with_option select_on (the_role "bob")) gives ok tag.Grant
    ∷ b (grant (select_of ("k" ∷ [])) (the_role "cid")) gives ok tag.Grant
    ∷ c select_keys gives numbers (1 ∷ [])
    ∷ c (select_these ("x" ∷ [])) gives refused state.InsufficientPrivilege
    ∷ a (revoke select_on (the_role "bob")) gives refused state.DependentPrivileges
    ∷ a (revoke_cascade select_on (the_role "bob")) gives ok tag.Revoke
    ∷ c select_keys gives refused state.InsufficientPrivilege
    ∷ b select_keys gives refused state.InsufficientPrivilege
    ∷ [])

-- options on all the columns support no grant on the table
abbrev pub columns_do_not_support_the_table : Type 0
columns_do_not_support_the_table = Shows (
    a (grant_with_option (select_of ("k" ∷ "x" ∷ "s" ∷ "o" ∷ [])) (the_role "bob")) gives ok tag.Grant
    ∷ b (grant select_on (the_role "cid")) gives warning warning.PrivilegeNotGranted tag.Grant
    ∷ c (select_count from_t) gives refused state.InsufficientPrivilege
    ∷ a (grant_with_option select_on (the_role "bob")) gives ok tag.Grant
    ∷ b (grant select_on (the_role "cid")) gives ok tag.Grant
    ∷ c select_all gives no_rows
    ∷ a (grant_with_option select_on (the_role "dan")) gives ok tag.Grant
    ∷ d (grant_with_option (select_of ("k" ∷ "x" ∷ "s" ∷ "o" ∷ [])) (the_role "bob")) gives ok tag.Grant
    ∷ a (revoke select_on (the_role "bob")) gives refused state.DependentPrivileges
    ∷ a (revoke_cascade select_on (the_role "bob")) gives ok tag.Revoke
    ∷ b select_all gives no_rows
    ∷ c select_keys gives refused state.InsufficientPrivilege
    ∷ [])

-- a grant on a column that an option on the table and one on the column support goes with the last of them
abbrev pub column_on_two_legs : Type 0
column_on_two_legs = Shows (
    a (grant_with_option select_on (the_role "bob")) gives ok tag.Grant
    ∷ a (grant_with_option (select_of ("k" ∷ [])) (the_role "bob")) gives ok tag.Grant
    ∷ b (grant (select_of ("k" ∷ [])) (the_role "cid")) gives ok tag.Grant
    ∷ a (revoke (select_of ("k" ∷ [])) (the_role "bob")) gives ok tag.Revoke
    ∷ c select_keys gives no_rows
    ∷ a (grant_with_option (select_of ("k" ∷ [])) (the_role "dan")) gives ok tag.Grant
    ∷ d (grant_with_option (select_of ("k" ∷ [])) (the_role "bob")) gives ok tag.Grant
    ∷ a (revoke select_on (the_role "bob")) gives ok tag.Revoke
    ∷ c select_keys gives no_rows
    ∷ b (select_these ("x" ∷ [])) gives refused state.InsufficientPrivilege
    ∷ a (revoke select_on (the_role "dan")) gives refused state.DependentPrivileges
    ∷ a (revoke_cascade select_on (the_role "dan")) gives ok tag.Revoke
    ∷ c select_keys gives refused state.InsufficientPrivilege
    ∷ b select_keys gives refused state.InsufficientPrivilege
    ∷ [])

-- grants of a column in a cycle hold no longer than a chain from the owner does
abbrev pub cycle_of_columns_goes : Type 0
cycle_of_columns_goes = Shows (
    a (grant_with_option select_on (the_role "bob")) gives ok tag.Grant
    ∷ b (grant_with_option (select_of ("k" ∷ [])) (the_role "cid")) gives ok tag.Grant
    ∷ c (grant_with_option (select_of ("k" ∷ [])) (the_role "bob")) gives ok tag.Grant
    ∷ a (revoke select_on (the_role "bob")) gives refused state.DependentPrivileges
    ∷ a (revoke_cascade select_on (the_role "bob")) gives ok tag.Revoke
    ∷ b select_keys gives refused state.InsufficientPrivilege
    ∷ c select_keys gives refused state.InsufficientPrivilege
    ∷ c (grant (select_of ("k" ∷ [])) (the_role "dan")) gives refused state.InsufficientPrivilege
    ∷ [])

-- CASCADE takes what a grant on the table supported on a column, and nothing beside it
abbrev pub cascade_over_columns : Type 0
cascade_over_columns = Shows (
    a insert_anns gives inserted 1
    ∷ a (grant_with_option select_and_update (the_role "bob")) gives ok tag.Grant
    ∷ b (grant_with_option (these (of_columns action.Select ("k" ∷ "x" ∷ []) ∷ of_columns action.Update ("x" ∷ []) ∷ [])) (the_role "cid")) gives ok tag.Grant
    ∷ c (grant (these (of_columns action.Select ("k" ∷ []) ∷ of_columns action.Update ("x" ∷ []) ∷ [])) (the_role "dan")) gives ok tag.Grant
    ∷ b (revoke (select_of ("k" ∷ [])) (the_role "cid")) gives refused state.DependentPrivileges
    ∷ b (revoke (select_of ("x" ∷ [])) (the_role "cid")) gives ok tag.Revoke
    ∷ b (revoke_cascade (select_of ("k" ∷ [])) (the_role "cid")) gives ok tag.Revoke
    ∷ d select_keys gives refused state.InsufficientPrivilege
    ∷ d (update "x" (num 7)) gives updated 1
    ∷ a (revoke_cascade update_on (the_role "bob")) gives ok tag.Revoke
    ∷ d (update "x" (num 8)) gives refused state.InsufficientPrivilege
    ∷ c (update "x" (num 8)) gives refused state.InsufficientPrivilege
    ∷ b (select_these ("x" ∷ [])) gives numbers (7 ∷ [])
    ∷ [])

-- GRANT OPTION FOR with columns takes the option on these alone, and the privilege stays
abbrev pub option_on_columns_revoked : Type 0
option_on_columns_revoked = Shows (
    a insert_anns gives inserted 1
    ∷ a (grant_with_option (select_of ("k" ∷ "x" ∷ [])) (the_role "bob")) gives ok tag.Grant
    ∷ b (grant (select_of ("k" ∷ "x" ∷ [])) (the_role "cid")) gives ok tag.Grant
    ∷ a (revoke_option (select_of ("k" ∷ [])) (the_role "bob")) gives refused state.DependentPrivileges
    ∷ a (revoke_option_cascade (select_of ("k" ∷ [])) (the_role "bob")) gives ok tag.Revoke
    ∷ c (select_these ("x" ∷ [])) gives numbers (5 ∷ [])
    ∷ c select_keys gives refused state.InsufficientPrivilege
    ∷ b (select_these ("k" ∷ "x" ∷ [])) gives number_rows ((1 ∷ 5 ∷ []) ∷ [])
    ∷ b (grant (select_of ("k" ∷ "x" ∷ [])) (the_role "dan")) gives warning warning.PrivilegeNotGranted tag.Grant
    ∷ d (select_these ("x" ∷ [])) gives numbers (5 ∷ [])
    ∷ d select_keys gives refused state.InsufficientPrivilege
    ∷ [])

-- GRANT OPTION FOR on the table takes the options on its columns too
abbrev pub option_on_the_table_revoked : Type 0
option_on_the_table_revoked = Shows (
    a (grant_with_option select_on (the_role "bob")) gives ok tag.Grant
    ∷ a (grant_with_option (select_of ("k" ∷ [])) (the_role "bob")) gives ok tag.Grant
    ∷ b (grant (select_of ("k" ∷ [])) (the_role "cid")) gives ok tag.Grant
    ∷ a (revoke_option select_on (the_role "bob")) gives refused state.DependentPrivileges
    ∷ a (revoke_option_cascade select_on (the_role "bob")) gives ok tag.Revoke
    ∷ b (grant (select_of ("k" ∷ [])) (the_role "cid")) gives warning warning.PrivilegeNotGranted tag.Grant
    ∷ c select_keys gives refused state.InsufficientPrivilege
    ∷ b select_all gives no_rows
    ∷ a (revoke select_on (the_role "bob")) gives ok tag.Revoke
    ∷ b (select_count from_t) gives refused state.InsufficientPrivilege
    ∷ [])

-- a column that is granted again keeps its option or is given one, and the table has an option of its own
abbrev pub column_granted_again : Type 0
column_granted_again = Shows (
    a (grant (select_of ("k" ∷ [])) (the_role "bob")) gives ok tag.Grant
    ∷ b (grant (select_of ("k" ∷ [])) (the_role "cid")) gives warning warning.PrivilegeNotGranted tag.Grant
    ∷ a (grant_with_option (select_of ("k" ∷ [])) (the_role "bob")) gives ok tag.Grant
    ∷ a (grant (select_of ("k" ∷ [])) (the_role "bob")) gives ok tag.Grant
    ∷ b (grant (select_of ("k" ∷ [])) (the_role "cid")) gives ok tag.Grant
    ∷ a (grant select_on (the_role "bob")) gives ok tag.Grant
    ∷ b (grant select_on (the_role "dan")) gives warning warning.PrivilegeNotGranted tag.Grant
    ∷ b (grant (select_of ("x" ∷ [])) (the_role "dan")) gives warning warning.PrivilegeNotGranted tag.Grant
    ∷ b (grant (select_of ("k" ∷ [])) (the_role "dan")) gives ok tag.Grant
    ∷ d select_keys gives no_rows
    ∷ [])

-- the grantor is chosen for each column: the role itself, or the least of its groups that hold the option
abbrev pub grantor_of_each_column : Type 0
grantor_of_each_column = Shows (
    r (create_role "alpha" []) gives ok tag.CreateRole
    ∷ r (create_role "zeta" []) gives ok tag.CreateRole
    ∷ r (grant_roles ("alpha" ∷ "zeta" ∷ []) (one "bob")) gives ok tag.GrantRole
    ∷ a (grant_with_option select_on (the_role "zeta")) gives ok tag.Grant
    ∷ a (grant_with_option (select_of ("x" ∷ [])) (the_role "alpha")) gives ok tag.Grant
    ∷ a (grant_with_option (select_of ("k" ∷ [])) (the_role "bob")) gives ok tag.Grant
    ∷ b (grant (select_of ("k" ∷ "x" ∷ "s" ∷ [])) (the_role "cid")) gives ok tag.Grant
    ∷ a (revoke_option (select_of ("k" ∷ [])) (the_role "bob")) gives refused state.DependentPrivileges
    ∷ a (revoke_option (select_of ("x" ∷ [])) (the_role "alpha")) gives refused state.DependentPrivileges
    ∷ a (revoke_cascade select_on (the_role "zeta")) gives ok tag.Revoke
    ∷ c (select_these ("s" ∷ [])) gives refused state.InsufficientPrivilege
    ∷ c (select_these ("k" ∷ "x" ∷ [])) gives no_rows
    ∷ a (revoke_cascade (select_of ("k" ∷ [])) (the_role "bob")) gives ok tag.Revoke
    ∷ c (select_these ("x" ∷ [])) gives no_rows
    ∷ c select_keys gives refused state.InsufficientPrivilege
    ∷ [])

-- one who holds options on columns alone takes nothing by a REVOKE on the table
abbrev pub column_holder_takes_by_columns : Type 0
column_holder_takes_by_columns = Shows (
    a (grant_with_option (select_of ("k" ∷ "x" ∷ [])) (the_role "bob")) gives ok tag.Grant
    ∷ b (grant (select_of ("k" ∷ [])) (the_role "cid")) gives ok tag.Grant
    ∷ b (revoke select_on (the_role "cid")) gives warning warning.PrivilegeNotRevoked tag.Revoke
    ∷ b (revoke all_on (the_role "cid")) gives warning warning.PrivilegeNotRevoked tag.Revoke
    ∷ c select_keys gives no_rows
    ∷ b (revoke (select_of ("x" ∷ [])) (the_role "cid")) gives ok tag.Revoke
    ∷ c select_keys gives no_rows
    ∷ b (revoke (select_of ("k" ∷ "s" ∷ [])) (the_role "cid")) gives warning warning.PrivilegeNotRevoked tag.Revoke
    ∷ c select_keys gives refused state.InsufficientPrivilege
    ∷ [])

-- REVOKE takes what its own grantor granted, on columns too
abbrev pub columns_of_another_grantor_stay : Type 0
columns_of_another_grantor_stay = Shows (
    a (grant_with_option select_on (the_role "bob")) gives ok tag.Grant
    ∷ a (grant (select_of ("k" ∷ [])) (the_role "cid")) gives ok tag.Grant
    ∷ b (grant (select_of ("k" ∷ "x" ∷ [])) (the_role "cid")) gives ok tag.Grant
    ∷ b (revoke select_on (the_role "cid")) gives ok tag.Revoke
    ∷ c select_keys gives no_rows
    ∷ c (select_these ("x" ∷ [])) gives refused state.InsufficientPrivilege
    ∷ b (grant (select_of ("x" ∷ [])) (the_role "cid")) gives ok tag.Grant
    ∷ a (revoke select_on (the_role "cid")) gives ok tag.Revoke
    ∷ c (select_these ("x" ∷ [])) gives no_rows
    ∷ c select_keys gives refused state.InsufficientPrivilege
    ∷ [])

-- what is to lose its option alone is lost where nothing supports it afterwards
abbrev pub named_and_unsupported : Type 0
named_and_unsupported = Shows (
    r (create_role "alpha" []) gives ok tag.CreateRole
    ∷ r (grant_role "alpha" "bob") gives ok tag.GrantRole
    ∷ a (grant_with_option select_on (the_role "alpha")) gives ok tag.Grant
    ∷ b (set_role "alpha") gives ok tag.Set
    ∷ b (grant_with_option (select_of ("k" ∷ [])) (the_role "bob")) gives ok tag.Grant
    ∷ b reset_role gives ok tag.Reset
    ∷ b (grant_with_option (select_of ("k" ∷ [])) (the_role "cid")) gives ok tag.Grant
    ∷ b (revoke_option (these (whole action.Select ∷ of_columns action.Select ("k" ∷ []) ∷ [])) (the_roles ("bob" ∷ "cid" ∷ []))) gives refused state.DependentPrivileges
    ∷ c select_keys gives no_rows
    ∷ b (revoke_option_cascade (these (whole action.Select ∷ of_columns action.Select ("k" ∷ []) ∷ [])) (the_roles ("bob" ∷ "cid" ∷ []))) gives ok tag.Revoke
    ∷ c select_keys gives refused state.InsufficientPrivilege
    ∷ b select_keys gives no_rows
    ∷ [])

-- a superuser and a member of the owner grant columns as the owner
abbrev pub columns_by_the_owner : Type 0
columns_by_the_owner = Shows (
    r (grant_role "ann" "dan") gives ok tag.GrantRole
    ∷ r (grant_with_option (select_of ("k" ∷ [])) (the_role "bob")) gives ok tag.Grant
    ∷ d (grant (select_of ("x" ∷ [])) (the_role "bob")) gives ok tag.Grant
    ∷ b (select_these ("k" ∷ "x" ∷ [])) gives no_rows
    ∷ b (grant (select_of ("k" ∷ [])) (the_role "cid")) gives ok tag.Grant
    ∷ a (revoke (select_of ("x" ∷ [])) (the_role "bob")) gives ok tag.Revoke
    ∷ b (select_these ("x" ∷ [])) gives refused state.InsufficientPrivilege
    ∷ a (revoke (select_of ("k" ∷ [])) (the_role "bob")) gives refused state.DependentPrivileges
    ∷ d (revoke_cascade select_on (the_role "bob")) gives ok tag.Revoke
    ∷ c select_keys gives refused state.InsufficientPrivilege
    ∷ r (revoke (select_of ("k" ∷ [])) (the_role "ann")) gives ok tag.Revoke
    ∷ a select_keys gives no_rows
    ∷ [])

-- a statement of ALL warns where nothing that it names has a grantor, and another one where anything has none
abbrev pub all_warns_where_no_column_is_granted : Type 0
all_warns_where_no_column_is_granted = Shows (
    a (grant_with_option (select_of ("k" ∷ [])) (the_role "bob")) gives ok tag.Grant
    ∷ b (grant (all_of ("k" ∷ [])) (the_role "cid")) gives ok tag.Grant
    ∷ b (grant (all_of ("x" ∷ [])) (the_role "cid")) gives warning warning.PrivilegeNotGranted tag.Grant
    ∷ b (grant (all_of ("k" ∷ "x" ∷ [])) (the_role "cid")) gives ok tag.Grant
    ∷ b (grant all_on (the_role "cid")) gives warning warning.PrivilegeNotGranted tag.Grant
    ∷ b (grant (these (of_columns action.Select ("k" ∷ []) ∷ of_columns action.Insert ("k" ∷ []) ∷ [])) (the_role "cid")) gives warning warning.PrivilegeNotGranted tag.Grant
    ∷ c select_keys gives no_rows
    ∷ c (select_these ("x" ∷ [])) gives refused state.InsufficientPrivilege
    ∷ c (insert_key 1) gives refused state.InsufficientPrivilege
    ∷ b (revoke (all_of ("k" ∷ [])) (the_role "cid")) gives ok tag.Revoke
    ∷ b (revoke (all_of ("x" ∷ "s" ∷ [])) (the_role "cid")) gives warning warning.PrivilegeNotRevoked tag.Revoke
    ∷ b (revoke select_on (the_role "cid")) gives warning warning.PrivilegeNotRevoked tag.Revoke
    ∷ c select_keys gives refused state.InsufficientPrivilege
    ∷ [])

-- one who has any privilege on a column is warned where another would be refused
abbrev pub column_is_some_privilege : Type 0
column_is_some_privilege = Shows (
    a (grant (insert_of ("x" ∷ [])) (the_role "bob")) gives ok tag.Grant
    ∷ b (grant select_on (the_role "cid")) gives warning warning.PrivilegeNotGranted tag.Grant
    ∷ b (grant (insert_of ("x" ∷ [])) (the_role "cid")) gives warning warning.PrivilegeNotGranted tag.Grant
    ∷ b (revoke (select_of ("k" ∷ [])) (the_role "cid")) gives warning warning.PrivilegeNotRevoked tag.Revoke
    ∷ c (grant select_on (the_role "bob")) gives refused state.InsufficientPrivilege
    ∷ b (grant_with_option (select_of ("k" ∷ [])) everyone) gives refused state.InvalidGrantOperation
    ∷ a (revoke (insert_of ("x" ∷ [])) (the_role "bob")) gives ok tag.Revoke
    ∷ b (grant select_on (the_role "cid")) gives refused state.InsufficientPrivilege
    ∷ [])

-- a column that is named twice counts once, and an action may stand with and without columns
abbrev pub columns_named_twice : Type 0
columns_named_twice = Shows (
    a insert_anns gives inserted 1
    ∷ a (grant (select_of ("k" ∷ "k" ∷ [])) (the_role "bob")) gives ok tag.Grant
    ∷ b select_keys gives numbers (1 ∷ [])
    ∷ a (grant (these (of_columns action.Select ("k" ∷ []) ∷ whole action.Select ∷ [])) (the_role "dan")) gives ok tag.Grant
    ∷ d select_all gives anns_row
    ∷ a (revoke (these (of_columns action.Select ("k" ∷ "k" ∷ []) ∷ of_columns action.Select ("k" ∷ []) ∷ [])) (the_role "bob" ++ the_role "bob")) gives ok tag.Revoke
    ∷ b select_keys gives refused state.InsufficientPrivilege
    ∷ a (revoke (these (of_columns action.Select ("k" ∷ []) ∷ whole action.Select ∷ [])) (the_role "dan")) gives ok tag.Revoke
    ∷ d (select_count from_t) gives refused state.InsufficientPrivilege
    ∷ [])

-- GRANT and REVOKE look for the table, the roles and the columns, and then for the right to grant
abbrev pub missing_columns : Type 0
missing_columns = Shows (
    b (on "nowhere" (grant (select_of ("zz" ∷ [])) (the_role "nobody"))) gives refused state.UndefinedTable
    ∷ b (grant (select_of ("zz" ∷ [])) (the_role "nobody")) gives refused state.UndefinedObject
    ∷ b (grant (select_of ("zz" ∷ [])) (the_role "cid")) gives refused state.UndefinedColumn
    ∷ b (grant (select_of ("k" ∷ [])) (the_role "cid")) gives refused state.InsufficientPrivilege
    ∷ a (grant_with_option (select_of ("zz" ∷ [])) everyone) gives refused state.UndefinedColumn
    ∷ a (grant_with_option (select_of ("k" ∷ [])) everyone) gives refused state.InvalidGrantOperation
    ∷ b (grant_with_option (select_of ("k" ∷ [])) everyone) gives refused state.InsufficientPrivilege
    ∷ a (grant (these (of_columns action.Select ("k" ∷ []) ∷ of_columns action.Update ("x" ∷ "zz" ∷ []) ∷ [])) (the_role "bob")) gives refused state.UndefinedColumn
    ∷ b select_keys gives refused state.InsufficientPrivilege
    ∷ a (grant (all_of ("zz" ∷ [])) (the_role "bob")) gives refused state.UndefinedColumn
    ∷ b (revoke (select_of ("zz" ∷ [])) (the_role "nobody")) gives refused state.UndefinedObject
    ∷ b (revoke (select_of ("zz" ∷ [])) (the_role "cid")) gives refused state.UndefinedColumn
    ∷ b (revoke (select_of ("k" ∷ [])) (the_role "cid")) gives refused state.InsufficientPrivilege
    ∷ a (revoke (all_of ("k" ∷ "zz" ∷ [])) (the_role "bob")) gives refused state.UndefinedColumn
    ∷ [])

-- DELETE is of whole rows: no text is read as DELETE (k)
abbrev pub delete_takes_no_columns : Type 0
delete_takes_no_columns = IsReadPrivileges (these (one (of_columns action.Delete ("k" ∷ [])))) → ⊥
