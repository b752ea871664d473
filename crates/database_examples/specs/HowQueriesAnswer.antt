-- How queries answer: which columns a name finds, joins, conditions, order, first rows, counts.
use Rattle.std.specs.Prelude.{List, [], true, ◌++◌, ◌∷◌}
use Rattle.sql_types.specs.declared.state.SqlState.TheVariants as state
use Rattle.sql_types.specs.declared.tag.Tag.TheVariants as tag
use Rattle.sql_types.specs.declared.value.Value.TheVariants.{Bool as Boolean, Null}
use Rattle.sql_ast.specs.declared.columns.ColumnType.TheVariants as type
use Rattle.database_examples.specs.Expressions.{and_also, col, col_of, div, eq, gt, is_null, lt, me, ne, not_so, null, num, plus, str, times, yes}
use Rattle.database_examples.specs.Wording.{called_as, create, create_table, create_u, cross_join, delete_where, down, from_joined, from_t, from_tables, insert, insert_columns, insert_in, insert_keys, join_on, key_column, limited_to, on, one, ordered_by, ordered_by_both, ordered_down_by, p_of, pair, plain_column, policy, q_of, r_of, select, select_count, select_every, select_values, t_and_u, t_joined, t_joined_u, t_twice, the_table, up, update, using, where_is}
use Rattle.database_examples.specs.Lines.{Line, Shows, a, b, deleted, inserted, int, no_rows, number_rows, numbers, ok, refused, rows, text, updated, ◌gives◌}

abbrev pub with_a_null : List Line
with_a_null = (a (insert ((num 1 ∷ num 2 ∷ []) ∷ (num 2 ∷ null ∷ []) ∷ (num 3 ∷ num 1 ∷ []) ∷ [])) gives inserted 3) ∷ []

-- nulls come last ascending and first descending
abbrev pub order_of_rows : Type 0
order_of_rows = Shows (with_a_null
    ++ (a (select (one (col "k")) (ordered_by (col "x") from_t)) gives numbers (3 ∷ 1 ∷ 2 ∷ []))
    ∷ (a (select (one (col "k")) (ordered_down_by (col "x") from_t)) gives numbers (2 ∷ 1 ∷ 3 ∷ []))
    ∷ (a (select (one (col "k")) (limited_to 0 (ordered_by (col "x") from_t))) gives no_rows)
    ∷ [])

-- a table may be in FROM twice under two names
abbrev pub joins : Type 0
joins = Shows (with_a_null
    ++ (a (select (p_of "k" ∷ q_of "k" ∷ []) (t_joined (eq (p_of "x") (q_of "k"))))
    gives rows ((int 1 ∷ int 2 ∷ []) ∷ (int 3 ∷ int 1 ∷ []) ∷ []))
    ∷ (a (select_count t_twice) gives numbers (9 ∷ []))
    ∷ (a (select (one (col "k")) t_twice) gives refused state.AmbiguousColumn)
    ∷ (a (select (one (num 1)) (from_tables (the_table "t" ∷ the_table "t" ∷ []))) gives refused state.DuplicateAlias)
    ∷ [])

-- AND takes its right side only where the left one does not decide
abbrev pub order_of_conditions : Type 0
order_of_conditions = Shows (
    a (insert ((num 1 ∷ num 1 ∷ []) ∷ (num 2 ∷ num 0 ∷ []) ∷ [])) gives inserted 2
    ∷ a (select (one (col "k")) (where_is (and_also (gt (div (num 10) (col "x")) (num 1)) (eq (col "k") (num 1))) from_t))
    gives refused state.DivisionByZero
    ∷ a (select (one (col "k")) (where_is (and_also (eq (col "k") (num 1)) (gt (div (num 10) (col "x")) (num 1))) from_t))
    gives numbers (1 ∷ [])
    ∷ [])

-- an expression after ON may name the tables up to its own
abbrev pub scope_of_on : Type 0
scope_of_on = Shows (
    a (create_table "u" (key_column "k2" type.BigInt ∷ [])) gives ok tag.CreateTable
    ∷ a (create_table "v" (key_column "x" type.BigInt ∷ [])) gives ok tag.CreateTable
    ∷ a (insert ((num 1 ∷ num 5 ∷ []) ∷ [])) gives inserted 1
    ∷ a (insert_in "u" (num 5)) gives inserted 1
    ∷ a (insert_in "v" (num 8)) gives inserted 1
    ∷ a (select (one (p_of "k")) (from_joined (called_as "t" "p") (join_on (called_as "u" "q") (eq (col "k2") (col "x")) ∷ join_on (called_as "v" "r") yes ∷ [])))
    gives numbers (1 ∷ [])
    ∷ a (select (one (col "x")) (from_joined (called_as "t" "p") (join_on (called_as "u" "q") (eq (col "k2") (col "x")) ∷ join_on (called_as "v" "r") yes ∷ [])))
    gives refused state.AmbiguousColumn
    ∷ [])

-- a false ON hides a failure of WHERE, and a null one does not
abbrev pub on_before_where : Type 0
on_before_where = Shows (
    a (insert ((num 1 ∷ num 0 ∷ []) ∷ [])) gives inserted 1
    ∷ a (select_count (where_is (gt (div (num 1) (p_of "x")) (num 1)) (t_joined not_so))) gives numbers (0 ∷ [])
    ∷ a (select_count (where_is (gt (div (num 1) (p_of "x")) (num 1)) (t_joined null)))
    gives refused state.DivisionByZero
    ∷ [])

-- the first table varies slowest, and ties in ORDER BY keep that order
abbrev pub order_of_products : Type 0
order_of_products = Shows (
    a (insert ((num 1 ∷ num 0 ∷ []) ∷ (num 2 ∷ num 0 ∷ []) ∷ [])) gives inserted 2
    ∷ a (select (p_of "k" ∷ q_of "k" ∷ []) t_twice)
    gives rows ((int 1 ∷ int 1 ∷ []) ∷ (int 1 ∷ int 2 ∷ []) ∷ (int 2 ∷ int 1 ∷ []) ∷ (int 2 ∷ int 2 ∷ []) ∷ [])
    ∷ a (select (p_of "k" ∷ q_of "k" ∷ []) (ordered_down_by (q_of "k") t_twice))
    gives rows ((int 1 ∷ int 2 ∷ []) ∷ (int 2 ∷ int 2 ∷ []) ∷ (int 1 ∷ int 1 ∷ []) ∷ (int 2 ∷ int 1 ∷ []) ∷ [])
    ∷ [])

-- LIMIT 0 hides failures of the select list, and none of the condition or the keys
abbrev pub what_a_limit_hides : Type 0
what_a_limit_hides = Shows (
    a (insert ((num 1 ∷ num 0 ∷ []) ∷ [])) gives inserted 1
    ∷ a (select (one (div (num 1) (col "x"))) (limited_to 0 from_t)) gives no_rows
    ∷ a (select (one (num 1)) (limited_to 0 (ordered_by (div (num 1) (col "x")) from_t)))
    gives refused state.DivisionByZero
    ∷ a (select (one (num 1)) (limited_to 0 (where_is (gt (div (num 1) (col "x")) (num 1)) from_t)))
    gives refused state.DivisionByZero
    ∷ [])

-- texts are ordered by their bytes, and false before true
abbrev pub order_of_values : Type 0
order_of_values = Shows (
    a (insert ((num 1 ∷ null ∷ yes ∷ str "b" ∷ []) ∷ (num 2 ∷ null ∷ not_so ∷ str "Z" ∷ []) ∷ (num 3 ∷ null ∷ null ∷ str "ab" ∷ []) ∷ (num 4 ∷ null ∷ not_so ∷ str "a" ∷ []) ∷ []))
    gives inserted 4
    ∷ a (select (one (col "k")) (ordered_by (col "o") from_t)) gives numbers (2 ∷ 4 ∷ 3 ∷ 1 ∷ [])
    ∷ a (select (one (col "k")) (ordered_by (col "s") from_t)) gives numbers (2 ∷ 4 ∷ 1 ∷ 3 ∷ [])
    ∷ [])

-- rows that the first sort key does not tell apart are in the order of the second
abbrev pub second_sort_key : Type 0
second_sort_key = Shows (
    a (insert ((num 1 ∷ num 2 ∷ []) ∷ (num 2 ∷ num 1 ∷ []) ∷ (num 3 ∷ num 2 ∷ []) ∷ (num 4 ∷ num 1 ∷ []) ∷ []))
    gives inserted 4
    ∷ a (select (one (col "k")) (ordered_by_both (up (col "x")) (down (col "k")) from_t))
    gives numbers (4 ∷ 2 ∷ 3 ∷ 1 ∷ [])
    ∷ a (select (one (col "k")) (ordered_by_both (down (col "x")) (up (col "k")) from_t))
    gives numbers (1 ∷ 3 ∷ 2 ∷ 4 ∷ [])
    ∷ [])

-- a column that two tables have is named with its table; an alias hides the table's own name
abbrev pub columns_of_joined_tables : Type 0
columns_of_joined_tables = Shows (
    a (create_table "u" (key_column "k" type.BigInt ∷ plain_column "y" type.BigInt ∷ []))
    gives ok tag.CreateTable
    ∷ a (insert (pair 1 2 ∷ pair 2 3 ∷ [])) gives inserted 2
    ∷ a (on "u" (insert (pair 2 20 ∷ pair 3 30 ∷ []))) gives inserted 2
    ∷ a (select (col_of "t" "k" ∷ col "y" ∷ []) (t_joined_u (eq (col "x") (col_of "u" "k"))))
    gives number_rows ((1 ∷ 20 ∷ []) ∷ (2 ∷ 30 ∷ []) ∷ [])
    ∷ a (select (col "x" ∷ col "y" ∷ []) (where_is (eq (col "k") (num 2)) t_and_u))
    gives refused state.AmbiguousColumn
    ∷ a (select (one (p_of "k")) (from_tables (one (called_as "t" "p")))) gives numbers (1 ∷ 2 ∷ [])
    ∷ a (select (one (col_of "t" "k")) (from_tables (one (called_as "t" "p"))))
    gives refused state.UndefinedColumn
    ∷ a (select (one (col_of "zz" "k")) from_t) gives refused state.UndefinedColumn
    ∷ a (select (one (num 1)) (from_tables (called_as "t" "p" ∷ called_as "u" "p" ∷ [])))
    gives refused state.DuplicateAlias
    ∷ a (select (one (num 1)) (from_tables (the_table "t" ∷ called_as "u" "t" ∷ [])))
    gives refused state.DuplicateAlias
    ∷ [])

-- an asterisk stands for the columns of each table, in the order of FROM
abbrev pub all_columns_of_a_join : Type 0
all_columns_of_a_join = Shows (
    a (create_table "u" (key_column "k" type.BigInt ∷ plain_column "y" type.BigInt ∷ []))
    gives ok tag.CreateTable
    ∷ a (insert ((num 1 ∷ num 2 ∷ yes ∷ str "a" ∷ []) ∷ [])) gives inserted 1
    ∷ a (on "u" (insert ((num 2 ∷ num 20 ∷ []) ∷ (num 3 ∷ null ∷ []) ∷ []))) gives inserted 2
    ∷ a (select_every (from_joined (the_table "t") (one (cross_join (the_table "u")))))
    gives rows ((int 1 ∷ int 2 ∷ Boolean true ∷ text "a" ∷ int 2 ∷ int 20 ∷ []) ∷ (int 1 ∷ int 2 ∷ Boolean true ∷ text "a" ∷ int 3 ∷ Null ∷ []) ∷ [])
    ∷ a (select_every (where_is (eq (col "x") (col_of "u" "k")) (from_tables (the_table "u" ∷ the_table "t" ∷ []))))
    gives rows ((int 2 ∷ int 20 ∷ int 1 ∷ int 2 ∷ Boolean true ∷ text "a" ∷ []) ∷ [])
    ∷ [])

-- in a join of three tables each ON names the tables before it, and ORDER BY all of them
abbrev pub three_tables_joined : Type 0
three_tables_joined = Shows (
    a (insert ((num 1 ∷ num 2 ∷ []) ∷ (num 2 ∷ num 3 ∷ []) ∷ (num 3 ∷ null ∷ []) ∷ [])) gives inserted 3
    ∷ a (select (p_of "k" ∷ r_of "k" ∷ []) (from_joined (called_as "t" "p") (join_on (called_as "t" "q") (eq (p_of "x") (q_of "k")) ∷ join_on (called_as "t" "r") (eq (q_of "x") (r_of "k")) ∷ [])))
    gives number_rows ((1 ∷ 3 ∷ []) ∷ [])
    ∷ a (select (one (p_of "k")) (from_joined (called_as "t" "p") (join_on (called_as "t" "q") (eq (p_of "k") (r_of "k")) ∷ join_on (called_as "t" "r") yes ∷ [])))
    gives refused state.UndefinedColumn
    ∷ a (select (one (p_of "k")) (t_joined (eq (col "k") (num 1))))
    gives refused state.AmbiguousColumn
    ∷ a (select (one (p_of "k")) (ordered_by (col "k") (t_joined (lt (p_of "k") (q_of "k")))))
    gives refused state.AmbiguousColumn
    ∷ a (select (p_of "k" ∷ q_of "k" ∷ []) (ordered_by_both (down (q_of "k")) (up (p_of "k")) (t_joined (lt (p_of "k") (q_of "k")))))
    gives number_rows ((1 ∷ 3 ∷ []) ∷ (2 ∷ 3 ∷ []) ∷ (1 ∷ 2 ∷ []) ∷ [])
    ∷ [])

-- tables are looked up before columns, and columns in the order list, ON, WHERE, ORDER BY
abbrev pub tables_before_columns : Type 0
tables_before_columns = Shows (
    a (select (one (col_of "nothere" "k")) (from_tables (the_table "t" ∷ the_table "alsonot" ∷ [])))
    gives refused state.UndefinedTable
    ∷ a (select (one (col "zz")) (from_tables (the_table "t" ∷ the_table "t" ∷ [])))
    gives refused state.DuplicateAlias
    ∷ a (select (one (col "k")) (where_is (eq (col "zz") (num 1)) t_twice))
    gives refused state.AmbiguousColumn
    ∷ a (select (one (col "zz")) (where_is (eq (col "k") (num 1)) t_twice))
    gives refused state.UndefinedColumn
    ∷ a (select (one (p_of "k")) (where_is (eq (col "zz") (num 1)) (t_joined (eq (col "k") (num 1)))))
    gives refused state.AmbiguousColumn
    ∷ a (select (one (p_of "k")) (ordered_by (col "k") (where_is (eq (col "zz") (num 1)) t_twice)))
    gives refused state.UndefinedColumn
    ∷ a (select (one (plus (p_of "k") yes)) (where_is (eq (col "zz") (num 1)) (from_tables (one (called_as "t" "p")))))
    gives refused state.UndefinedColumn
    ∷ [])

-- a condition is evaluated on whole combinations: on none where a table of FROM is empty
abbrev pub condition_after_the_product : Type 0
condition_after_the_product = Shows (
    a create_u gives ok tag.CreateTable
    ∷ a (insert (pair 1 5 ∷ pair 2 0 ∷ [])) gives inserted 2
    ∷ a (select (one (col_of "t" "k")) (where_is (eq (div (num 10) (col "x")) (num 2)) t_and_u))
    gives no_rows
    ∷ a (on "u" (insert_keys (1 ∷ []))) gives inserted 1
    ∷ a (select (one (col_of "t" "k")) (where_is (eq (div (num 10) (col "x")) (num 2)) t_and_u))
    gives refused state.DivisionByZero
    ∷ a (select (one (col_of "t" "k")) (where_is (eq (div (num 10) (col "x")) (num 2)) (t_joined_u (eq (col_of "t" "k") (col_of "u" "k")))))
    gives numbers (1 ∷ [])
    ∷ a (select (one (col_of "t" "k")) (where_is (and_also (ne (col "x") (num 0)) (gt (div (num 10) (col "x")) (col_of "u" "k"))) t_and_u))
    gives numbers (1 ∷ [])
    ∷ [])

-- an expression that always fails does so where a row meets it, and not over an empty table
abbrev pub expressions_over_no_row : Type 0
expressions_over_no_row = Shows (
    a (select (one (div (num 1) (num 0))) from_t) gives no_rows
    ∷ a (select (one (col "k")) (where_is (eq (div (num 1) (num 0)) (num 1)) from_t)) gives no_rows
    ∷ a (update "x" (div (num 1) (num 0))) gives updated 0
    ∷ a (delete_where (eq (div (num 1) (num 0)) (num 1))) gives deleted 0
    ∷ a (insert_columns ("k" ∷ "x" ∷ []) (num 1 ∷ div (num 1) (num 0) ∷ [])) gives refused state.DivisionByZero
    ∷ a (create (using (eq (div (num 1) (num 0)) (num 1)) (policy "p"))) gives ok tag.CreatePolicy
    ∷ b (select (one (div (num 1) (num 0))) from_t) gives refused state.InsufficientPrivilege
    ∷ [])

-- a sort key is any expression; nulls come last, with DESC first, and false before true
abbrev pub keys_of_a_sort : Type 0
keys_of_a_sort = Shows (
    a (insert ((num 1 ∷ num 2 ∷ yes ∷ str "b" ∷ []) ∷ (num 2 ∷ null ∷ not_so ∷ str "a" ∷ []) ∷ (num 3 ∷ num 1 ∷ null ∷ str "b" ∷ []) ∷ (num 4 ∷ num 2 ∷ yes ∷ str "a" ∷ []) ∷ []))
    gives inserted 4
    ∷ a (select (one (col "k")) (ordered_by_both (up (col "o")) (down (col "x")) from_t))
    gives numbers (2 ∷ 4 ∷ 1 ∷ 3 ∷ [])
    ∷ a (select (one (col "k")) (ordered_by_both (down (col "s")) (up (col "o")) from_t))
    gives numbers (3 ∷ 4 ∷ 1 ∷ 2 ∷ [])
    ∷ a (select (one (col "k")) (ordered_by_both (up (times (col "x") (col "x"))) (down (col "k")) from_t))
    gives numbers (3 ∷ 4 ∷ 1 ∷ 2 ∷ [])
    ∷ a (select (one (col "k")) (ordered_by_both (up (is_null (col "x"))) (up (col "x")) from_t))
    gives numbers (3 ∷ 1 ∷ 4 ∷ 2 ∷ [])
    ∷ a (select (one (col "k")) (ordered_by null from_t)) gives numbers (1 ∷ 2 ∷ 3 ∷ 4 ∷ [])
    ∷ [])

-- LIMIT takes the first rows of the order, and the select list is evaluated on these alone
abbrev pub first_rows_of_an_order : Type 0
first_rows_of_an_order = Shows (
    a (insert (pair 1 5 ∷ pair 2 0 ∷ pair 3 2 ∷ [])) gives inserted 3
    ∷ a (select (one (col "k")) (limited_to 2 (ordered_by (col "x") from_t))) gives numbers (2 ∷ 3 ∷ [])
    ∷ a (select (one (col "k")) (limited_to 100 from_t)) gives numbers (1 ∷ 2 ∷ 3 ∷ [])
    ∷ a (select (one (div (num 10) (col "x"))) (limited_to 1 from_t)) gives numbers (2 ∷ [])
    ∷ a (select (one (div (num 10) (col "x"))) (limited_to 2 (ordered_down_by (col "x") from_t)))
    gives numbers (2 ∷ 5 ∷ [])
    ∷ a (select (one (div (num 10) (col "x"))) (limited_to 1 (ordered_by (col "x") from_t)))
    gives refused state.DivisionByZero
    ∷ a (select (one (col "k")) (limited_to 1 (ordered_by (div (num 10) (col "x")) from_t)))
    gives refused state.DivisionByZero
    ∷ [])

-- count(*) counts the combinations on which the condition is true, and is 0 where there is none
abbrev pub counts : Type 0
counts = Shows (
    a (select_count from_t) gives numbers (0 ∷ [])
    ∷ a (insert ((num 1 ∷ num 2 ∷ []) ∷ (num 2 ∷ null ∷ []) ∷ (num 3 ∷ num 1 ∷ []) ∷ [])) gives inserted 3
    ∷ a (select_count (where_is (is_null (col "x")) from_t)) gives numbers (1 ∷ [])
    ∷ a (select_count (where_is (gt (col "x") (num 1)) from_t)) gives numbers (1 ∷ [])
    ∷ a (select_count (where_is null from_t)) gives numbers (0 ∷ [])
    ∷ a (select_count (t_joined (lt (p_of "k") (q_of "k"))))
    gives numbers (3 ∷ [])
    ∷ [])

-- without FROM there is one row, and no column
abbrev pub queries_without_a_table : Type 0
queries_without_a_table = Shows (
    a (select_values (num 1 ∷ me ∷ null ∷ [])) gives rows ((int 1 ∷ text "ann" ∷ Null ∷ []) ∷ [])
    ∷ a (select_values (one (col "k"))) gives refused state.UndefinedColumn
    ∷ a (select_values (one (col_of "t" "k"))) gives refused state.UndefinedColumn
    ∷ [])
