-- Which rows the policies of a table hide.
use Rattle.std.specs.Prelude.{List, [], ◌++◌, ◌∷◌}
use Rattle.sql_types.specs.declared.state.SqlState.TheVariants as state
use Rattle.sql_types.specs.declared.tag.Tag.TheVariants as tag
use Rattle.sql_ast.specs.declared.columns.ColumnType.TheVariants as type
use Rattle.sql_ast.specs.declared.privilege.Action.TheVariants as action
use Rattle.database_examples.specs.Expressions.{E, col, col_of, div, eq, ge, gt, is_not_null, lt, me, my_login, ne, not_so, not_that, null, num, str, yes}
use Rattle.database_examples.specs.Wording.{all_on, called_as, create, create_role, create_table, create_u, delete, delete_where, disable_rls, drop, drop_table, dropped, enable_rls, everyone, from_t, from_tables, grant, grant_role, insert, insert_key, key_column, limited_to, on, one, only_for, only_to, ordered_by, owned, p_of, pair, plain_column, policy, q_of, restrictive, revoke, select, select_all, select_all_of_u, select_and_insert, select_count, select_keys, select_on, set_role, t_and_u, t_joined, t_joined_u, t_twice, the_role, the_table, update, using, where_is, with_check}
use Rattle.database_examples.specs.Lines.{Line, Shows, a, a_misread, b, c, create_t, d, deleted, inserted, no_rows, number_rows, numbers, ok, r, refused, updated, ◌gives◌}

-- two tenants in one table: each sees its own rows alone, puts in no row of the other, and sees nothing once its privilege is revoked
abbrev pub two_tenants : Type 0
two_tenants = Shows (
    a (grant select_and_insert (the_role "bob")) gives ok tag.Grant
    ∷ a (grant select_and_insert (the_role "cid")) gives ok tag.Grant
    ∷ a enable_rls gives ok tag.AlterTable
    ∷ a (create (using (eq (col "o") me) (policy "own_rows"))) gives ok tag.CreatePolicy
    ∷ b (insert ((num 1 ∷ num 7 ∷ yes ∷ str "bob" ∷ []) ∷ [])) gives inserted 1
    ∷ b (insert ((num 2 ∷ num 7 ∷ yes ∷ str "cid" ∷ []) ∷ [])) gives refused state.InsufficientPrivilege
    ∷ c select_keys gives no_rows
    ∷ b select_keys gives numbers (1 ∷ [])
    ∷ a (revoke select_on (the_role "bob")) gives ok tag.Revoke
    ∷ b select_keys gives refused state.InsufficientPrivilege
    ∷ [])

-- row security without a policy shows nothing and lets nothing in
abbrev pub no_policy : Type 0
no_policy = Shows (
    a (insert ((num 1 ∷ num 1 ∷ yes ∷ str "bob" ∷ []) ∷ [])) gives inserted 1
    ∷ a (grant select_and_insert (the_role "bob")) gives ok tag.Grant
    ∷ a enable_rls gives ok tag.AlterTable
    ∷ b select_all gives no_rows
    ∷ b (insert_key 2) gives refused state.InsufficientPrivilege
    ∷ a select_keys gives numbers (1 ∷ [])
    ∷ [])

-- restrictive policies alone show nothing either
abbrev pub restrictive_alone : Type 0
restrictive_alone = Shows (
    a (insert ((num 1 ∷ num 1 ∷ yes ∷ str "bob" ∷ []) ∷ [])) gives inserted 1
    ∷ a (grant select_and_insert (the_role "bob")) gives ok tag.Grant
    ∷ a enable_rls gives ok tag.AlterTable
    ∷ a (create (restrictive (using yes (policy "p")))) gives ok tag.CreatePolicy
    ∷ b select_all gives no_rows
    ∷ [])

-- one permissive and each restrictive policy must be true; null is not
abbrev pub policies_combine : Type 0
policies_combine = Shows (
    a (insert ((num 1 ∷ num 1 ∷ null ∷ str "bob" ∷ [])
    ∷ (num 2 ∷ null ∷ yes ∷ str "ann" ∷ [])
    ∷ (num 3 ∷ num 1 ∷ null ∷ str "ann" ∷ [])
    ∷ (num 4 ∷ num 5 ∷ yes ∷ str "bob" ∷ [])
    ∷ (num 5 ∷ num 2 ∷ yes ∷ str "ann" ∷ []) ∷ [])) gives inserted 5
    ∷ a (grant select_on (the_role "bob")) gives ok tag.Grant
    ∷ a enable_rls gives ok tag.AlterTable
    ∷ a (create (using (eq (col "o") me) (policy "p1"))) gives ok tag.CreatePolicy
    ∷ a (create (using (col "s") (policy "p2"))) gives ok tag.CreatePolicy
    ∷ a (create (restrictive (using (lt (col "x") (num 3)) (policy "p3")))) gives ok tag.CreatePolicy
    ∷ b select_keys gives numbers (1 ∷ 5 ∷ [])
    ∷ [])

-- the policy comes before the user's condition
abbrev pub policy_comes_first : Type 0
policy_comes_first = Shows (
    a (insert ((num 1 ∷ num 0 ∷ []) ∷ (num 2 ∷ num 1 ∷ []) ∷ (num 3 ∷ num 5 ∷ []) ∷ [])) gives inserted 3
    ∷ a (grant select_on (the_role "bob")) gives ok tag.Grant
    ∷ a enable_rls gives ok tag.AlterTable
    ∷ a (create (using (gt (col "x") (num 0)) (policy "p"))) gives ok tag.CreatePolicy
    ∷ b (select (one (col "k")) (where_is (gt (div (num 10) (col "x")) (num 1)) from_t)) gives numbers (2 ∷ 3 ∷ [])
    ∷ a (select (one (col "k")) (where_is (gt (div (num 10) (col "x")) (num 1)) from_t))
    gives refused state.DivisionByZero
    ∷ [])

abbrev pub guarded_division : E → E → List Line
guarded_division first second =
    (a (insert ((num 1 ∷ num 0 ∷ []) ∷ (num 2 ∷ num 5 ∷ []) ∷ [])) gives inserted 2)
    ∷ (a (grant select_on (the_role "bob")) gives ok tag.Grant)
    ∷ (a enable_rls gives ok tag.AlterTable)
    ∷ (a (create (using first (policy "p1"))) gives ok tag.CreatePolicy)
    ∷ (a (create (using second (policy "p2"))) gives ok tag.CreatePolicy)
    ∷ []

-- policies are taken in the order of their names, and the second only where the first does not decide
abbrev pub policies_in_order : Type 0
policies_in_order = Shows (guarded_division (eq (col "x") (num 0)) (gt (div (num 10) (col "x")) (num 1)) ++ (b select_keys gives numbers (1 ∷ 2 ∷ [])) ∷ [])

abbrev pub policies_in_other_order : Type 0
policies_in_other_order = Shows (guarded_division (gt (div (num 10) (col "x")) (num 1)) (eq (col "x") (num 0)) ++ (b select_keys gives refused state.DivisionByZero) ∷ [])

-- a policy is a condition; what its command has no use for is refused when the text is read
abbrev pub policies_that_are_refused : Type 0
policies_that_are_refused = Shows (
    a_misread state.SyntaxError gives refused state.SyntaxError
    ∷ a (create (using (col "x") (policy "p"))) gives refused state.DatatypeMismatch
    ∷ [])

-- a restrictive policy whose value is null hides the row
abbrev pub restrictive_null_hides : Type 0
restrictive_null_hides = Shows (
    a (insert ((num 1 ∷ null ∷ []) ∷ (num 2 ∷ num 1 ∷ []) ∷ [])) gives inserted 2
    ∷ a (grant select_on (the_role "bob")) gives ok tag.Grant
    ∷ a enable_rls gives ok tag.AlterTable
    ∷ a (create (using yes (policy "all"))) gives ok tag.CreatePolicy
    ∷ a (create (restrictive (using (lt (col "x") (num 5)) (policy "small")))) gives ok tag.CreatePolicy
    ∷ b select_keys gives numbers (2 ∷ [])
    ∷ [])

-- each restrictive policy must be true
abbrev pub each_restrictive_counts : Type 0
each_restrictive_counts = Shows (
    a (insert ((num 1 ∷ num 1 ∷ []) ∷ (num 2 ∷ num 2 ∷ []) ∷ (num 3 ∷ num 3 ∷ []) ∷ [])) gives inserted 3
    ∷ a (grant select_on (the_role "bob")) gives ok tag.Grant
    ∷ a enable_rls gives ok tag.AlterTable
    ∷ a (create (using yes (policy "all"))) gives ok tag.CreatePolicy
    ∷ a (create (restrictive (using (lt (col "x") (num 3)) (policy "r1")))) gives ok tag.CreatePolicy
    ∷ a (create (restrictive (using (gt (col "x") (num 1)) (policy "r2")))) gives ok tag.CreatePolicy
    ∷ b select_keys gives numbers (2 ∷ [])
    ∷ [])

-- one permissive policy that is true is enough, also beside a null
abbrev pub one_permissive_is_enough : Type 0
one_permissive_is_enough = Shows (
    a (insert ((num 1 ∷ num 1 ∷ null ∷ []) ∷ (num 2 ∷ num 2 ∷ null ∷ []) ∷ [])) gives inserted 2
    ∷ a (grant select_on (the_role "bob")) gives ok tag.Grant
    ∷ a enable_rls gives ok tag.AlterTable
    ∷ a (create (using (col "s") (policy "p1"))) gives ok tag.CreatePolicy
    ∷ a (create (using (eq (col "x") (num 2)) (policy "p2"))) gives ok tag.CreatePolicy
    ∷ b select_keys gives numbers (2 ∷ [])
    ∷ [])

-- a policy for INSERT shows nothing
abbrev pub insert_policy_shows_nothing : Type 0
insert_policy_shows_nothing = Shows (
    a (grant select_and_insert (the_role "bob")) gives ok tag.Grant
    ∷ a enable_rls gives ok tag.AlterTable
    ∷ a (create (only_for action.Insert (with_check yes (policy "p")))) gives ok tag.CreatePolicy
    ∷ b (insert_key 2) gives inserted 1
    ∷ b select_keys gives no_rows
    ∷ [])

-- policies for one command and for all commands are joined by OR
abbrev pub command_and_all_are_joined : Type 0
command_and_all_are_joined = Shows (
    a (insert ((num 1 ∷ []) ∷ (num 2 ∷ []) ∷ (num 3 ∷ []) ∷ [])) gives inserted 3
    ∷ a (grant select_on (the_role "bob")) gives ok tag.Grant
    ∷ a enable_rls gives ok tag.AlterTable
    ∷ a (create (using (eq (col "k") (num 1)) (policy "p"))) gives ok tag.CreatePolicy
    ∷ a (create (only_for action.Select (using (eq (col "k") (num 3)) (policy "q")))) gives ok tag.CreatePolicy
    ∷ b select_keys gives numbers (1 ∷ 3 ∷ [])
    ∷ [])

-- policies outlast DISABLE, and count again after ENABLE
abbrev pub disable_and_enable : Type 0
disable_and_enable = Shows (
    a (insert ((num 1 ∷ []) ∷ (num 2 ∷ []) ∷ [])) gives inserted 2
    ∷ a (grant select_on (the_role "bob")) gives ok tag.Grant
    ∷ a (create (using (eq (col "k") (num 1)) (policy "p"))) gives ok tag.CreatePolicy
    ∷ b select_keys gives numbers (1 ∷ 2 ∷ [])
    ∷ a enable_rls gives ok tag.AlterTable
    ∷ b select_keys gives numbers (1 ∷ [])
    ∷ a disable_rls gives ok tag.AlterTable
    ∷ b select_keys gives numbers (1 ∷ 2 ∷ [])
    ∷ [])

-- without its last permissive policy a table shows nothing
abbrev pub last_permissive_dropped : Type 0
last_permissive_dropped = Shows (
    a (insert ((num 1 ∷ []) ∷ [])) gives inserted 1
    ∷ a (grant select_on (the_role "bob")) gives ok tag.Grant
    ∷ a enable_rls gives ok tag.AlterTable
    ∷ a (create (using yes (policy "p"))) gives ok tag.CreatePolicy
    ∷ a (create (restrictive (using yes (policy "r")))) gives ok tag.CreatePolicy
    ∷ b select_keys gives numbers (1 ∷ [])
    ∷ a (drop "p") gives ok dropped
    ∷ b select_keys gives no_rows
    ∷ [])

-- without a permissive policy the restrictive ones are not evaluated
abbrev pub restrictive_is_not_reached : Type 0
restrictive_is_not_reached = Shows (
    a (insert ((num 1 ∷ num 0 ∷ []) ∷ [])) gives inserted 1
    ∷ a (grant select_on (the_role "bob")) gives ok tag.Grant
    ∷ a enable_rls gives ok tag.AlterTable
    ∷ a (create (restrictive (using (eq (div (num 1) (col "x")) (num 1)) (policy "r")))) gives ok tag.CreatePolicy
    ∷ b select_keys gives no_rows
    ∷ a (create (using (eq (col "s") yes) (policy "null"))) gives ok tag.CreatePolicy
    ∷ b select_keys gives refused state.DivisionByZero
    ∷ [])

-- a policy of a dropped table does not come back with its name
abbrev pub dropped_table_takes_policies : Type 0
dropped_table_takes_policies = Shows (
    a (create (using yes (policy "p"))) gives ok tag.CreatePolicy
    ∷ a (grant select_on (the_role "bob")) gives ok tag.Grant
    ∷ a (drop_table "t") gives ok tag.DropTable
    ∷ a create_t gives ok tag.CreateTable
    ∷ b select_keys gives refused state.InsufficientPrivilege
    ∷ a (create (using yes (policy "p"))) gives ok tag.CreatePolicy
    ∷ a (create (using yes (policy "p"))) gives refused state.DuplicateObject
    ∷ [])

-- what is missing is found before privileges are checked
abbrev pub names_before_privileges : Type 0
names_before_privileges = Shows (
    b (create (only_to (the_role "zoe") (using yes (policy "p")))) gives refused state.UndefinedObject
    ∷ b (create (using (col "zz") (policy "p"))) gives refused state.UndefinedColumn
    ∷ b (create (using (col "x") (policy "p"))) gives refused state.DatatypeMismatch
    ∷ b (create (using yes (policy "p"))) gives refused state.InsufficientPrivilege
    ∷ b (drop "p") gives refused state.UndefinedObject
    ∷ [])

-- a count is over the rows that are shown
abbrev pub count_of_shown_rows : Type 0
count_of_shown_rows = Shows (
    a (insert ((num 1 ∷ []) ∷ (num 2 ∷ []) ∷ (num 3 ∷ []) ∷ [])) gives inserted 3
    ∷ a (grant select_on (the_role "bob")) gives ok tag.Grant
    ∷ a enable_rls gives ok tag.AlterTable
    ∷ a (create (using (gt (col "k") (num 1)) (policy "p"))) gives ok tag.CreatePolicy
    ∷ b (select_count from_t) gives numbers (2 ∷ [])
    ∷ [])

-- row security and a policy of one table say nothing of another, and DROP POLICY takes the named table's alone
abbrev pub policies_on_two_tables : Type 0
policies_on_two_tables = Shows (
    a create_u gives ok tag.CreateTable
    ∷ a (insert_key 1) gives inserted 1
    ∷ a (on "u" (insert_key 1)) gives inserted 1
    ∷ a (grant select_on (the_role "bob")) gives ok tag.Grant
    ∷ a (on "u" (grant select_on (the_role "bob"))) gives ok tag.Grant
    ∷ a enable_rls gives ok tag.AlterTable
    ∷ b select_keys gives no_rows
    ∷ b select_all_of_u gives numbers (1 ∷ [])
    ∷ a (on "u" enable_rls) gives ok tag.AlterTable
    ∷ a (create (using yes (policy "p"))) gives ok tag.CreatePolicy
    ∷ b select_all_of_u gives no_rows
    ∷ a (on "u" (create (using yes (policy "p")))) gives ok tag.CreatePolicy
    ∷ b select_all_of_u gives numbers (1 ∷ [])
    ∷ a (drop "p") gives ok dropped
    ∷ b select_keys gives no_rows
    ∷ b select_all_of_u gives numbers (1 ∷ [])
    ∷ [])

-- each table of FROM shows the rows that its own guard lets pass, each time that it stands there
abbrev pub each_joined_table_is_guarded : Type 0
each_joined_table_is_guarded = Shows (
    a (create_table "u" (key_column "k" type.BigInt ∷ plain_column "y" type.Text ∷ [])) gives ok tag.CreateTable
    ∷ a (insert (owned 1 "bob" ∷ owned 2 "cid" ∷ owned 3 "bob" ∷ [])) gives inserted 3
    ∷ a (on "u" (insert ((num 1 ∷ str "bob" ∷ []) ∷ (num 2 ∷ str "bob" ∷ []) ∷ (num 3 ∷ str "cid" ∷ []) ∷ [])))
    gives inserted 3
    ∷ a (grant select_on (the_role "bob")) gives ok tag.Grant
    ∷ a (on "u" (grant select_on (the_role "bob"))) gives ok tag.Grant
    ∷ a enable_rls gives ok tag.AlterTable
    ∷ a (create (using (eq (col "o") me) (policy "p"))) gives ok tag.CreatePolicy
    ∷ b (select (col_of "t" "k" ∷ col_of "u" "k" ∷ []) (t_joined_u (eq (col_of "t" "k") (col_of "u" "k"))))
    gives number_rows ((1 ∷ 1 ∷ []) ∷ (3 ∷ 3 ∷ []) ∷ [])
    ∷ a (on "u" enable_rls) gives ok tag.AlterTable
    ∷ a (on "u" (create (using (eq (col "y") me) (policy "p")))) gives ok tag.CreatePolicy
    ∷ b (select (col_of "t" "k" ∷ col_of "u" "k" ∷ []) (where_is (ge (col_of "t" "k") (col_of "u" "k")) t_and_u))
    gives number_rows ((1 ∷ 1 ∷ []) ∷ (3 ∷ 1 ∷ []) ∷ (3 ∷ 2 ∷ []) ∷ [])
    ∷ b (select (p_of "k" ∷ q_of "k" ∷ []) (where_is (lt (p_of "k") (q_of "k")) t_twice))
    gives number_rows ((1 ∷ 3 ∷ []) ∷ [])
    ∷ b (select_count (from_tables (called_as "t" "p" ∷ called_as "u" "q" ∷ called_as "t" "r" ∷ [])))
    gives numbers (8 ∷ [])
    ∷ [])

-- the guard of each table is evaluated on all its rows, whatever the other tables, WHERE and LIMIT leave of
-- them
abbrev pub guard_beside_an_empty_table : Type 0
guard_beside_an_empty_table = Shows (
    a create_u gives ok tag.CreateTable
    ∷ a (insert (pair 1 0 ∷ [])) gives inserted 1
    ∷ a (grant select_on (the_role "bob")) gives ok tag.Grant
    ∷ a (on "u" (grant select_on (the_role "bob"))) gives ok tag.Grant
    ∷ a enable_rls gives ok tag.AlterTable
    ∷ a (create (using (eq (div (num 1) (col "x")) (num 1)) (policy "p"))) gives ok tag.CreatePolicy
    ∷ b (select_count (from_tables (the_table "u" ∷ the_table "t" ∷ []))) gives refused state.DivisionByZero
    ∷ b (select_count t_and_u) gives refused state.DivisionByZero
    ∷ b (select (one (col "k")) (limited_to 0 from_t)) gives refused state.DivisionByZero
    ∷ b (select (one (num 1)) (where_is not_so from_t)) gives refused state.DivisionByZero
    ∷ [])

-- a policy that fails on a row refuses each command that it guards, whichever row it is
abbrev pub failing_policy_refuses_each_command : Type 0
failing_policy_refuses_each_command = Shows (
    a (insert (pair 1 0 ∷ pair 2 2 ∷ [])) gives inserted 2
    ∷ a (grant all_on (the_role "bob")) gives ok tag.Grant
    ∷ a enable_rls gives ok tag.AlterTable
    ∷ a (create (using (gt (div (num 10) (col "x")) (num 1)) (policy "p"))) gives ok tag.CreatePolicy
    ∷ b select_keys gives refused state.DivisionByZero
    ∷ b (insert (pair 3 0 ∷ [])) gives refused state.DivisionByZero
    ∷ b (update "x" (num 1)) gives refused state.DivisionByZero
    ∷ b delete gives refused state.DivisionByZero
    ∷ a (delete_where (eq (col "x") (num 0))) gives deleted 1
    ∷ b select_keys gives numbers (2 ∷ [])
    ∷ b (update "x" (num 0)) gives refused state.DivisionByZero
    ∷ b (update "x" (num 20)) gives refused state.InsufficientPrivilege
    ∷ [])

-- a condition that would fail on a hidden row does not meet it, in SELECT, UPDATE, DELETE and a join
abbrev pub policy_before_each_condition : Type 0
policy_before_each_condition = Shows (
    a (insert (pair 1 0 ∷ pair 2 5 ∷ pair 3 10 ∷ [])) gives inserted 3
    ∷ a (grant all_on (the_role "bob")) gives ok tag.Grant
    ∷ a enable_rls gives ok tag.AlterTable
    ∷ a (create (using (ne (col "x") (num 0)) (policy "p"))) gives ok tag.CreatePolicy
    ∷ b (select (one (col "k")) (ordered_by (div (num 100) (col "x")) from_t)) gives numbers (3 ∷ 2 ∷ [])
    ∷ b (update "x" (div (num 100) (col "x"))) gives updated 2
    ∷ b (delete_where (eq (div (num 40) (col "x")) (num 2))) gives deleted 1
    ∷ b (select (p_of "k" ∷ q_of "k" ∷ []) (t_joined (eq (div (p_of "x") (q_of "x")) (num 1))))
    gives number_rows ((3 ∷ 3 ∷ []) ∷ [])
    ∷ a (select (p_of "k" ∷ q_of "k" ∷ []) (t_joined (eq (div (p_of "x") (q_of "x")) (num 1))))
    gives refused state.DivisionByZero
    ∷ [])

-- the restrictive policies are evaluated after all permissive ones, in the order of their names
abbrev pub restrictive_after_permissive : Type 0
restrictive_after_permissive = Shows (
    a (insert ((num 1 ∷ num 0 ∷ yes ∷ []) ∷ [])) gives inserted 1
    ∷ a (grant select_on (the_role "bob")) gives ok tag.Grant
    ∷ a enable_rls gives ok tag.AlterTable
    ∷ a (create (using (eq (div (num 1) (col "x")) (num 1)) (policy "a2"))) gives ok tag.CreatePolicy
    ∷ a (create (restrictive (using (not_that (col "s")) (policy "a1")))) gives ok tag.CreatePolicy
    ∷ b select_keys gives refused state.DivisionByZero
    ∷ a (drop "a2") gives ok dropped
    ∷ a (create (using (col "s") (policy "a3"))) gives ok tag.CreatePolicy
    ∷ b select_keys gives no_rows
    ∷ a (create (restrictive (using (eq (div (num 1) (col "x")) (num 1)) (policy "a2"))))
    gives ok tag.CreatePolicy
    ∷ b select_keys gives no_rows
    ∷ a (drop "a1") gives ok dropped
    ∷ b select_keys gives refused state.DivisionByZero
    ∷ [])

-- a policy whose expression is NULL lets no row pass, permissive or restrictive
abbrev pub null_policies_hide : Type 0
null_policies_hide = Shows (
    a (insert ((num 1 ∷ null ∷ []) ∷ (num 2 ∷ num 1 ∷ []) ∷ [])) gives inserted 2
    ∷ a (grant select_on (the_role "bob")) gives ok tag.Grant
    ∷ a enable_rls gives ok tag.AlterTable
    ∷ a (create (using null (policy "n"))) gives ok tag.CreatePolicy
    ∷ b select_keys gives no_rows
    ∷ a (create (using (gt (col "x") (num 0)) (policy "p"))) gives ok tag.CreatePolicy
    ∷ b select_keys gives numbers (2 ∷ [])
    ∷ a (create (restrictive (using null (policy "r")))) gives ok tag.CreatePolicy
    ∷ b select_keys gives no_rows
    ∷ [])

-- each further permissive policy shows more rows, and each further restrictive one fewer
abbrev pub permissive_widen_restrictive_narrow : Type 0
permissive_widen_restrictive_narrow = Shows (
    a (insert ((num 1 ∷ num 1 ∷ yes ∷ str "bob" ∷ []) ∷ (num 2 ∷ num 2 ∷ not_so ∷ str "bob" ∷ []) ∷ (num 3 ∷ num 3 ∷ yes ∷ str "cid" ∷ []) ∷ (num 4 ∷ null ∷ yes ∷ str "bob" ∷ []) ∷ []))
    gives inserted 4
    ∷ a (grant select_on everyone) gives ok tag.Grant
    ∷ a enable_rls gives ok tag.AlterTable
    ∷ a (create (using (eq (col "o") me) (policy "mine"))) gives ok tag.CreatePolicy
    ∷ b select_keys gives numbers (1 ∷ 2 ∷ 4 ∷ [])
    ∷ c select_keys gives numbers (3 ∷ [])
    ∷ a (create (only_for action.Select (using (lt (col "x") (num 2)) (policy "small"))))
    gives ok tag.CreatePolicy
    ∷ c select_keys gives numbers (1 ∷ 3 ∷ [])
    ∷ a (create (restrictive (only_for action.Select (using (col "s") (policy "flagged")))))
    gives ok tag.CreatePolicy
    ∷ b select_keys gives numbers (1 ∷ 4 ∷ [])
    ∷ a (create (restrictive (using (is_not_null (col "x")) (policy "known")))) gives ok tag.CreatePolicy
    ∷ b select_keys gives numbers (1 ∷ [])
    ∷ d select_keys gives numbers (1 ∷ [])
    ∷ [])

-- a policy names columns of its own table alone, under the table's name or none, and is a BOOLEAN
abbrev pub columns_of_a_policy : Type 0
columns_of_a_policy = Shows (
    a (create_table "u" (key_column "k" type.BigInt ∷ plain_column "y" type.Boolean ∷ []))
    gives ok tag.CreateTable
    ∷ a (create (using (col "y") (policy "p"))) gives refused state.UndefinedColumn
    ∷ a (create (using (col_of "u" "y") (policy "p"))) gives refused state.UndefinedColumn
    ∷ a (create (using (col "o") (policy "p"))) gives refused state.DatatypeMismatch
    ∷ a (create (using (eq (col "x") (col "o")) (policy "p"))) gives refused state.DatatypeMismatch
    ∷ a (create (using (col_of "t" "s") (policy "p"))) gives ok tag.CreatePolicy
    ∷ a (on "u" (create (using (col "y") (policy "p")))) gives ok tag.CreatePolicy
    ∷ a (create (only_for action.Insert (with_check me (policy "q")))) gives refused state.DatatypeMismatch
    ∷ a (create (only_for action.Insert (with_check (eq me (str "bob")) (policy "q"))))
    gives ok tag.CreatePolicy
    ∷ a (create (using yes (policy "q"))) gives refused state.DuplicateObject
    ∷ a (on "nothere" (create (using yes (policy "p")))) gives refused state.UndefinedTable
    ∷ [])

-- a policy that compares the two user names shows all rows while no role is set
abbrev pub user_names_compared : Type 0
user_names_compared = Shows (
    r (create_role "team" []) gives ok tag.CreateRole
    ∷ r (grant_role "team" "bob") gives ok tag.GrantRole
    ∷ a (insert_key 1) gives inserted 1
    ∷ a (grant select_on (the_role "team")) gives ok tag.Grant
    ∷ a enable_rls gives ok tag.AlterTable
    ∷ a (create (using (eq me my_login) (policy "p"))) gives ok tag.CreatePolicy
    ∷ b select_keys gives numbers (1 ∷ [])
    ∷ b (set_role "team") gives ok tag.Set
    ∷ b select_keys gives no_rows
    ∷ [])

-- CREATE POLICY is refused for its table, its roles, its name, its columns, its types and its privilege, in
-- this order
abbrev pub order_of_refusals_of_a_policy : Type 0
order_of_refusals_of_a_policy = Shows (
    a (create (using yes (policy "p"))) gives ok tag.CreatePolicy
    ∷ b (on "nothere" (create (only_to (the_role "nobody") (using (col "zz") (policy "p")))))
    gives refused state.UndefinedTable
    ∷ b (create (only_to (the_role "nobody") (using (col "zz") (policy "p"))))
    gives refused state.UndefinedObject
    ∷ b (create (using (col "zz") (policy "p"))) gives refused state.DuplicateObject
    ∷ b (create (with_check (col "zz") (using (col "x") (policy "q")))) gives refused state.UndefinedColumn
    ∷ b (create (with_check (col "x") (using yes (policy "q")))) gives refused state.DatatypeMismatch
    ∷ b (create (with_check (col "s") (using yes (policy "q")))) gives refused state.InsufficientPrivilege
    ∷ [])
