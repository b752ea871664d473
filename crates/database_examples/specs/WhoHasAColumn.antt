-- Who has a privilege on a column, and what a statement needs of columns.
use Rattle.std.specs.Prelude.{[], ◌++◌, ◌∷◌}
use Rattle.sql_types.specs.declared.state.SqlState.TheVariants as state
use Rattle.sql_types.specs.declared.tag.Tag.TheVariants as tag
use Rattle.sql_ast.specs.declared.columns.ColumnType.TheVariants as type
use Rattle.sql_ast.specs.declared.privilege.Action.TheVariants as action
use Rattle.sql_ast.specs.declared.statement.Statement.TheVariants as statement
use Rattle.sql_ast.specs.declared.statement.SessionStatement.TheVariants as of_session
use Rattle.database_examples.specs.Expressions.{and_also, col, col_of, div, either, eq, is_null, me, not_so, null, num, plus, str, yes}
use Rattle.database_examples.specs.Wording.{all_of, all_on, create, create_role, create_table, create_u, delete, delete_on, delete_where, drop_role, drop_table, enable_rls, everyone, from_t, grant, grant_role, grant_with_option, insert, insert_anns, insert_columns, insert_into, insert_key, insert_keys, insert_of, key_column, limited_to, of_columns, on, one, ordered_by, owned, p_of, pair, plain_column, policy, q_of, reset_role, revoke, revoke_role, select, select_all, select_count, select_keys, select_of, select_on, select_these, set_role, t_and_u, t_joined, t_joined_u, the_role, these, update, update_both, update_of, update_where, using, where_is}
use Rattle.database_examples.specs.Lines.{Shows, a, anns_row, b, c, d, deleted, inserted, no_rows, number_rows, numbers, ok, r, refused, updated, ◌gives◌}

-- one who has SELECT on a column reads that column and counts rows, and does not read the table
abbrev pub column_of_a_table : Type 0
column_of_a_table = Shows (
    a insert_anns gives inserted 1
    ∷ a (grant (select_of ("k" ∷ [])) (the_role "bob")) gives ok tag.Grant
    ∷ b select_keys gives numbers (1 ∷ [])
    ∷ b (select_count from_t) gives numbers (1 ∷ [])
    ∷ b (select (one (num 1)) from_t) gives numbers (1 ∷ [])
    ∷ b select_all gives refused state.InsufficientPrivilege
    ∷ b (select_these ("k" ∷ "x" ∷ [])) gives refused state.InsufficientPrivilege
    ∷ c (select_count from_t) gives refused state.InsufficientPrivilege
    ∷ [])

-- SELECT * needs each column, and does with privileges on all of them
abbrev pub every_column_is_the_table : Type 0
every_column_is_the_table = Shows (
    a insert_anns gives inserted 1
    ∷ a (grant (select_of ("k" ∷ "x" ∷ "s" ∷ [])) (the_role "bob")) gives ok tag.Grant
    ∷ b select_all gives refused state.InsufficientPrivilege
    ∷ b (select_these ("k" ∷ "x" ∷ [])) gives number_rows ((1 ∷ 5 ∷ []) ∷ [])
    ∷ a (grant (select_of ("o" ∷ [])) (the_role "bob")) gives ok tag.Grant
    ∷ b select_all gives anns_row
    ∷ a (revoke (select_of ("x" ∷ [])) (the_role "bob")) gives ok tag.Revoke
    ∷ b select_all gives refused state.InsufficientPrivilege
    ∷ a (grant (select_of ("x" ∷ [])) everyone) gives ok tag.Grant
    ∷ b select_all gives anns_row
    ∷ c select_all gives refused state.InsufficientPrivilege
    ∷ [])

-- WHERE and ORDER BY need the columns that they name, whatever their value depends on
abbrev pub conditions_and_order_name_columns : Type 0
conditions_and_order_name_columns = Shows (
    a insert_anns gives inserted 1
    ∷ a (grant (select_of ("k" ∷ "s" ∷ [])) (the_role "bob")) gives ok tag.Grant
    ∷ b (select (one (col "k")) (where_is (col "s") from_t)) gives numbers (1 ∷ [])
    ∷ b (select (one (col "k")) (where_is (is_null (col "x")) from_t)) gives refused state.InsufficientPrivilege
    ∷ b (select (one (col "k")) (where_is (and_also not_so (eq (col "x") (num 1))) from_t)) gives refused state.InsufficientPrivilege
    ∷ b (select (one (col "k")) (where_is (either yes (eq (col "o") me)) from_t)) gives refused state.InsufficientPrivilege
    ∷ b (select (one (col "k")) (ordered_by (col "s") from_t)) gives numbers (1 ∷ [])
    ∷ b (select (one (col "k")) (ordered_by (col "x") from_t)) gives refused state.InsufficientPrivilege
    ∷ b (select (one (col "k")) (ordered_by (plus (col "k") (col "x")) from_t)) gives refused state.InsufficientPrivilege
    ∷ b (select (one (col "s")) (limited_to 0 (ordered_by (col "x") from_t))) gives refused state.InsufficientPrivilege
    ∷ [])

-- each table of FROM needs a column of its own, and ON names columns too
abbrev pub each_table_needs_a_column : Type 0
each_table_needs_a_column = Shows (
    a insert_anns gives inserted 1
    ∷ a create_u gives ok tag.CreateTable
    ∷ a (on "u" (insert_keys (1 ∷ []))) gives inserted 1
    ∷ a (grant (select_of ("k" ∷ [])) (the_role "bob")) gives ok tag.Grant
    ∷ b (select (one (col_of "t" "k")) t_and_u) gives refused state.InsufficientPrivilege
    ∷ b (select_count t_and_u) gives refused state.InsufficientPrivilege
    ∷ a (on "u" (grant (select_of ("k" ∷ [])) (the_role "bob"))) gives ok tag.Grant
    ∷ b (select (one (col_of "t" "k")) t_and_u) gives numbers (1 ∷ [])
    ∷ b (select_count (t_joined_u (eq (col_of "t" "k") (col_of "u" "k")))) gives numbers (1 ∷ [])
    ∷ b (select_count (t_joined_u (eq (col "x") (col_of "u" "k")))) gives refused state.InsufficientPrivilege
    ∷ b (select (one (p_of "k")) (t_joined (eq (p_of "k") (q_of "k")))) gives numbers (1 ∷ [])
    ∷ b (select (one (p_of "k")) (t_joined (eq (p_of "k") (q_of "x")))) gives refused state.InsufficientPrivilege
    ∷ [])

-- INSERT needs the columns of its list, or without a list as many from the left as there are values
abbrev pub inserts_name_columns : Type 0
inserts_name_columns = Shows (
    a (grant (insert_of ("k" ∷ "x" ∷ [])) (the_role "bob")) gives ok tag.Grant
    ∷ b (insert_columns ("k" ∷ "x" ∷ []) (num 1 ∷ num 1 ∷ [])) gives inserted 1
    ∷ b (insert_key 2) gives inserted 1
    ∷ b (insert (one (num 3 ∷ []))) gives inserted 1
    ∷ b (insert (one (pair 4 4))) gives inserted 1
    ∷ b (insert (one (num 5 ∷ num 5 ∷ null ∷ []))) gives refused state.InsufficientPrivilege
    ∷ b (insert_columns ("k" ∷ "s" ∷ []) (num 6 ∷ yes ∷ [])) gives refused state.InsufficientPrivilege
    ∷ b (insert_into "x" (num 7)) gives refused state.NotNullViolation
    ∷ a (grant (insert_of ("x" ∷ [])) (the_role "cid")) gives ok tag.Grant
    ∷ c (insert_into "x" (num 1)) gives refused state.NotNullViolation
    ∷ c (insert_key 8) gives refused state.InsufficientPrivilege
    ∷ a (select_count from_t) gives numbers (4 ∷ [])
    ∷ [])

-- UPDATE needs UPDATE on each column that it sets, and SELECT on those that it reads
abbrev pub updates_name_columns : Type 0
updates_name_columns = Shows (
    a insert_anns gives inserted 1
    ∷ a (grant (update_of ("x" ∷ "s" ∷ [])) (the_role "bob")) gives ok tag.Grant
    ∷ b (update "x" (num 1)) gives updated 1
    ∷ b (update_both "s" not_so "x" (num 2)) gives updated 1
    ∷ b (update_both "x" (num 3) "o" (str "bob")) gives refused state.InsufficientPrivilege
    ∷ b (update "x" (col "x")) gives refused state.InsufficientPrivilege
    ∷ b (update_where "x" (num 4) (eq (col "k") (num 1))) gives refused state.InsufficientPrivilege
    ∷ b (update_where "x" (num 4) yes) gives updated 1
    ∷ a (grant (select_of ("k" ∷ [])) (the_role "bob")) gives ok tag.Grant
    ∷ b (update_where "x" (plus (col "k") (num 1)) (eq (col "k") (num 1))) gives updated 1
    ∷ b (update "x" (plus (col "x") (num 1))) gives refused state.InsufficientPrivilege
    ∷ b (update "k" (num 7)) gives refused state.InsufficientPrivilege
    ∷ a (select_these ("k" ∷ "x" ∷ [])) gives number_rows ((1 ∷ 2 ∷ []) ∷ [])
    ∷ [])

-- DELETE is granted on the table alone; the columns of its WHERE need SELECT
abbrev pub deletes_are_of_whole_rows : Type 0
deletes_are_of_whole_rows = Shows (
    a insert_anns gives inserted 1
    ∷ a (grant (all_of ("k" ∷ "x" ∷ "s" ∷ "o" ∷ [])) (the_role "bob")) gives ok tag.Grant
    ∷ b delete gives refused state.InsufficientPrivilege
    ∷ a (revoke (select_of ("x" ∷ [])) (the_role "bob")) gives ok tag.Revoke
    ∷ a (grant delete_on (the_role "bob")) gives ok tag.Grant
    ∷ b (delete_where (eq (col "x") (num 5))) gives refused state.InsufficientPrivilege
    ∷ b (delete_where (eq (col "k") (num 2))) gives deleted 0
    ∷ b delete gives deleted 1
    ∷ [])

-- ALL with columns is SELECT, INSERT and UPDATE on them, and no DELETE
abbrev pub all_of_a_column : Type 0
all_of_a_column = Shows (
    a insert_anns gives inserted 1
    ∷ a (grant (all_of ("k" ∷ "x" ∷ [])) (the_role "bob")) gives ok tag.Grant
    ∷ b (select_these ("k" ∷ "x" ∷ [])) gives number_rows ((1 ∷ 5 ∷ []) ∷ [])
    ∷ b (select_these ("s" ∷ [])) gives refused state.InsufficientPrivilege
    ∷ b (insert_columns ("k" ∷ "x" ∷ []) (num 2 ∷ num 2 ∷ [])) gives inserted 1
    ∷ b (update_where "x" (num 9) (eq (col "k") (num 2))) gives updated 1
    ∷ b (update "s" yes) gives refused state.InsufficientPrivilege
    ∷ b delete gives refused state.InsufficientPrivilege
    ∷ a (revoke (all_of ("k" ∷ [])) (the_role "bob")) gives ok tag.Revoke
    ∷ b (select_these ("x" ∷ [])) gives numbers (5 ∷ 9 ∷ [])
    ∷ b select_keys gives refused state.InsufficientPrivilege
    ∷ a (revoke all_on (the_role "bob")) gives ok tag.Revoke
    ∷ b (select_these ("x" ∷ [])) gives refused state.InsufficientPrivilege
    ∷ [])

-- privileges on columns come from each role that a role is in, and from PUBLIC
abbrev pub columns_through_groups : Type 0
columns_through_groups = Shows (
    r (create_role "staff" []) gives ok tag.CreateRole
    ∷ r (create_role "lead" []) gives ok tag.CreateRole
    ∷ r (grant_role "staff" "lead") gives ok tag.GrantRole
    ∷ r (grant_role "lead" "bob") gives ok tag.GrantRole
    ∷ a insert_anns gives inserted 1
    ∷ a (grant (select_of ("k" ∷ [])) (the_role "staff")) gives ok tag.Grant
    ∷ a (grant (select_of ("x" ∷ [])) (the_role "lead")) gives ok tag.Grant
    ∷ b (select_these ("k" ∷ "x" ∷ [])) gives number_rows ((1 ∷ 5 ∷ []) ∷ [])
    ∷ b (select_these ("o" ∷ [])) gives refused state.InsufficientPrivilege
    ∷ b (set_role "staff") gives ok tag.Set
    ∷ b (select_these ("x" ∷ [])) gives refused state.InsufficientPrivilege
    ∷ b reset_role gives ok tag.Reset
    ∷ r (revoke_role "staff" "lead") gives ok tag.RevokeRole
    ∷ b (select_these ("x" ∷ [])) gives numbers (5 ∷ [])
    ∷ b select_keys gives refused state.InsufficientPrivilege
    ∷ [])

-- PUBLIC may have columns, and no grant option on them
abbrev pub columns_of_public : Type 0
columns_of_public = Shows (
    a insert_anns gives inserted 1
    ∷ a (grant (select_of ("k" ∷ [])) everyone) gives ok tag.Grant
    ∷ b select_keys gives numbers (1 ∷ [])
    ∷ a (grant (select_of ("x" ∷ [])) (the_role "bob")) gives ok tag.Grant
    ∷ b (select_these ("k" ∷ "x" ∷ [])) gives number_rows ((1 ∷ 5 ∷ []) ∷ [])
    ∷ a (revoke (select_of ("k" ∷ [])) (the_role "bob")) gives ok tag.Revoke
    ∷ b select_keys gives numbers (1 ∷ [])
    ∷ a (revoke select_on everyone) gives ok tag.Revoke
    ∷ b select_keys gives refused state.InsufficientPrivilege
    ∷ b (select_these ("x" ∷ [])) gives numbers (5 ∷ [])
    ∷ a (grant_with_option (update_of ("x" ∷ [])) (everyone ++ the_role "bob")) gives refused state.InvalidGrantOperation
    ∷ a (grant (update_of ("x" ∷ [])) (everyone ++ the_role "bob")) gives ok tag.Grant
    ∷ c (update "x" (num 3)) gives updated 1
    ∷ c (update "k" (num 3)) gives refused state.InsufficientPrivilege
    ∷ [])

-- policies need no privilege on the columns that they read
abbrev pub policies_read_any_column : Type 0
policies_read_any_column = Shows (
    a insert_anns gives inserted 1
    ∷ a (insert (one (owned 2 "bob"))) gives inserted 1
    ∷ a (grant (these (of_columns action.Select ("k" ∷ []) ∷ of_columns action.Insert ("k" ∷ "o" ∷ []) ∷ of_columns action.Update ("x" ∷ []) ∷ [])) (the_role "bob")) gives ok tag.Grant
    ∷ a enable_rls gives ok tag.AlterTable
    ∷ a (create (using (eq (col "o") me) (policy "own"))) gives ok tag.CreatePolicy
    ∷ b select_keys gives numbers (2 ∷ [])
    ∷ b (select (one (col "k")) (where_is (eq (col "o") me) from_t)) gives refused state.InsufficientPrivilege
    ∷ b (insert_columns ("k" ∷ "o" ∷ []) (num 3 ∷ str "bob" ∷ [])) gives inserted 1
    ∷ b (insert_columns ("k" ∷ "o" ∷ []) (num 4 ∷ str "ann" ∷ [])) gives refused state.InsufficientPrivilege
    ∷ b (update "x" (num 9)) gives updated 2
    ∷ b (update_where "x" (num 10) (eq (col "k") (num 2))) gives updated 1
    ∷ a (select_these ("k" ∷ "x" ∷ [])) gives number_rows ((1 ∷ 5 ∷ []) ∷ (2 ∷ 10 ∷ []) ∷ (3 ∷ 9 ∷ []) ∷ [])
    ∷ [])

-- privileges on columns are granted and taken with the block
abbrev pub columns_in_blocks : Type 0
columns_in_blocks = Shows (
    a insert_anns gives inserted 1
    ∷ a (statement.OfSession of_session.Begin) gives ok tag.Begin
    ∷ a (grant (select_of ("k" ∷ [])) (the_role "bob")) gives ok tag.Grant
    ∷ b select_keys gives refused state.InsufficientPrivilege
    ∷ a (statement.OfSession of_session.Commit) gives ok tag.Commit
    ∷ b select_keys gives numbers (1 ∷ [])
    ∷ a (statement.OfSession of_session.Begin) gives ok tag.Begin
    ∷ a (revoke select_on (the_role "bob")) gives ok tag.Revoke
    ∷ b select_keys gives numbers (1 ∷ [])
    ∷ a (statement.OfSession of_session.Rollback) gives ok tag.Rollback
    ∷ b select_keys gives numbers (1 ∷ [])
    ∷ [])

-- a role that stands in a privilege on a column is not dropped, and with its table the privilege goes
abbrev pub column_of_a_table_made_again : Type 0
column_of_a_table_made_again = Shows (
    a (grant_with_option (select_of ("k" ∷ [])) (the_role "bob")) gives ok tag.Grant
    ∷ b (grant (select_of ("k" ∷ [])) (the_role "cid")) gives ok tag.Grant
    ∷ r (drop_role "cid") gives refused state.DependentObjects
    ∷ b (revoke (select_of ("k" ∷ [])) (the_role "cid")) gives ok tag.Revoke
    ∷ r (drop_role "cid") gives ok tag.DropRole
    ∷ r (drop_role "bob") gives refused state.DependentObjects
    ∷ a (drop_table "t") gives ok tag.DropTable
    ∷ r (drop_role "bob") gives ok tag.DropRole
    ∷ a (create_table "t" (key_column "x" type.BigInt ∷ plain_column "k" type.BigInt ∷ [])) gives ok tag.CreateTable
    ∷ a (grant (select_of ("k" ∷ [])) (the_role "dan")) gives ok tag.Grant
    ∷ d select_keys gives no_rows
    ∷ d (select_these ("x" ∷ [])) gives refused state.InsufficientPrivilege
    ∷ a (drop_table "t") gives ok tag.DropTable
    ∷ a (create_table "t" (key_column "x" type.BigInt ∷ plain_column "k" type.BigInt ∷ [])) gives ok tag.CreateTable
    ∷ d (select_count from_t) gives refused state.InsufficientPrivilege
    ∷ [])

-- names and types are looked at before privileges on columns, and these before limits and rows
abbrev pub names_before_privileges_on_columns : Type 0
names_before_privileges_on_columns = Shows (
    a insert_anns gives inserted 1
    ∷ a (grant (these (of_columns action.Select ("k" ∷ []) ∷ of_columns action.Update ("x" ∷ []) ∷ of_columns action.Insert ("k" ∷ []) ∷ [])) (the_role "bob")) gives ok tag.Grant
    ∷ b (select_these ("x" ∷ "zz" ∷ [])) gives refused state.UndefinedColumn
    ∷ b (select (one (col "x")) (where_is (col "k") from_t)) gives refused state.DatatypeMismatch
    ∷ b (select (div (num 1) (num 0) ∷ col "x" ∷ []) from_t) gives refused state.InsufficientPrivilege
    ∷ b (select (one (div (col "k") (num 0))) from_t) gives refused state.DivisionByZero
    ∷ b (update "o" (num 1)) gives refused state.DatatypeMismatch
    ∷ b (update_where "x" (div (num 1) (num 0)) (col "s")) gives refused state.InsufficientPrivilege
    ∷ b (update "x" (div (num 1) (num 0))) gives refused state.DivisionByZero
    ∷ b (insert_columns ("k" ∷ "x" ∷ []) (num 1 ∷ div (num 1) (num 0) ∷ [])) gives refused state.InsufficientPrivilege
    ∷ b (insert_into "k" (div (num 1) (num 0))) gives refused state.DivisionByZero
    ∷ b (insert_key 1) gives refused state.UniqueViolation
    ∷ [])
