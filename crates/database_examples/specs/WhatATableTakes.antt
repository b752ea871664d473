-- What a table takes: values and columns, NOT NULL, keys, and what UPDATE and DELETE leave.
use Rattle.std.specs.Prelude.{[], false, true, ◌∷◌}
use Rattle.sql_types.specs.declared.state.SqlState.TheVariants as state
use Rattle.sql_types.specs.declared.tag.Tag.TheVariants as tag
use Rattle.sql_types.specs.declared.value.Value.TheVariants.{Bool as Boolean, Null}
use Rattle.sql_ast.specs.declared.columns.ColumnType.TheVariants as type
use Rattle.database_examples.specs.Expressions.{and_also, below_zero, col, col_of, div, eq, gt, is_null, lt, me, minus, not_so, not_that, null, num, plus, str, yes}
use Rattle.database_examples.specs.Wording.{create_table, create_u, delete, delete_where, drop_table, from_t, insert, insert_columns, insert_into, insert_key, insert_keys, insert_pair, insert_rows, key_column, key_of, not_null_column, on, one, pair, plain_column, select, select_all, select_all_of_u, select_keys, update, update_both, update_where}
use Rattle.database_examples.specs.Lines.{Shows, a, b, deleted, inserted, int, minus_int, no_rows, number_rows, numbers, ok, refused, rows, text, updated, ◌gives◌}

-- the values of a SET all see the row before
abbrev pub assignments_see_the_old_row : Type 0
assignments_see_the_old_row = Shows (
    a (insert ((num 1 ∷ num 7 ∷ []) ∷ [])) gives inserted 1
    ∷ a (update_both "k" (col "x") "x" (col "k")) gives updated 1
    ∷ a (select (col "k" ∷ col "x" ∷ []) from_t) gives rows ((int 7 ∷ int 1 ∷ []) ∷ [])
    ∷ [])

-- UPDATE gives a column one value: a column that is set twice is refused, before columns are found
abbrev pub column_set_twice : Type 0
column_set_twice = Shows (
    a (update_both "x" (num 1) "x" (num 2)) gives refused state.DuplicateColumn
    ∷ a (update_both "zz" (num 1) "zz" (num 2)) gives refused state.DuplicateColumn
    ∷ a (update_both "x" (num 1) "zz" (num 2)) gives refused state.UndefinedColumn
    ∷ [])

-- a statement is checked from names over types to rows
abbrev pub order_of_refusals : Type 0
order_of_refusals = Shows (
    a (insert_columns ("zz" ∷ "zz" ∷ []) (num 1 ∷ [])) gives refused state.DuplicateColumn
    ∷ a (insert_columns ("zz" ∷ []) (num 1 ∷ num 2 ∷ [])) gives refused state.SyntaxError
    ∷ a (insert_columns ("zz" ∷ []) (str "1" ∷ [])) gives refused state.UndefinedColumn
    ∷ a (insert_columns ("x" ∷ []) (str "1" ∷ [])) gives refused state.DatatypeMismatch
    ∷ a (insert_columns ("x" ∷ []) (col "k" ∷ [])) gives refused state.UndefinedColumn
    ∷ b (insert_columns ("x" ∷ []) (div (num 1) (num 0) ∷ [])) gives refused state.InsufficientPrivilege
    ∷ a (insert_columns ("x" ∷ []) (div (num 1) (num 0) ∷ [])) gives refused state.DivisionByZero
    ∷ a (insert_columns ("x" ∷ []) (num 1 ∷ [])) gives refused state.NotNullViolation
    ∷ a (insert ((num 1 ∷ num 2 ∷ yes ∷ str "a" ∷ num 5 ∷ []) ∷ [])) gives refused state.SyntaxError
    ∷ [])

-- a table's definition is checked before the table is made
abbrev pub order_of_refusals_of_a_table : Type 0
order_of_refusals_of_a_table = Shows (
    a (create_table "t" (key_column "k" type.BigInt ∷ [])) gives refused state.DuplicateTable
    ∷ a (create_table "u" (plain_column "k" type.BigInt ∷ plain_column "k" type.Text ∷ key_of ("zz" ∷ []) ∷ []))
    gives refused state.DuplicateColumn
    ∷ a (create_table "u" (plain_column "k" type.BigInt ∷ key_of ("zz" ∷ []) ∷ []))
    gives refused state.UndefinedColumn
    ∷ a (create_table "u" (plain_column "k" type.BigInt ∷ plain_column "x" type.BigInt ∷ key_of ("x" ∷ "k" ∷ []) ∷ []))
    gives ok tag.CreateTable
    ∷ a (insert_pair "u" (num 2) (num 1)) gives inserted 1
    ∷ a (insert_pair "u" (num 1) (num 2)) gives inserted 1
    ∷ a (insert_pair "u" (num 9) (num 1)) gives inserted 1
    ∷ a (select_all_of_u) gives rows ((int 2 ∷ int 1 ∷ []) ∷ (int 9 ∷ int 1 ∷ []) ∷ (int 1 ∷ int 2 ∷ []) ∷ [])
    ∷ a (insert_pair "u" (num 9) (num 1)) gives refused state.UniqueViolation
    ∷ a (insert_pair "u" null (num 1)) gives refused state.NotNullViolation
    ∷ [])

-- with a column list each value goes to its column, and the others are null
abbrev pub values_by_column_names : Type 0
values_by_column_names = Shows (
    a (insert_columns ("o" ∷ "k" ∷ []) (str "a" ∷ num 1 ∷ [])) gives inserted 1
    ∷ a (insert_into "k" (plus (num 1) (num 1))) gives inserted 1
    ∷ a select_all gives rows ((int 1 ∷ Null ∷ Null ∷ text "a" ∷ []) ∷ (int 2 ∷ Null ∷ Null ∷ Null ∷ []) ∷ [])
    ∷ a (insert_columns ("k" ∷ "x" ∷ []) (num 5 ∷ [])) gives refused state.SyntaxError
    ∷ a (insert_columns ("k" ∷ []) (num 5 ∷ num 5 ∷ [])) gives refused state.SyntaxError
    ∷ a (insert ((num 5 ∷ num 5 ∷ yes ∷ str "a" ∷ num 5 ∷ []) ∷ [])) gives refused state.SyntaxError
    ∷ a (insert_into "k" (col "k")) gives refused state.UndefinedColumn
    ∷ a (insert_into "k" (col_of "t" "k")) gives refused state.UndefinedColumn
    ∷ [])

-- one row that is refused refuses all rows of its INSERT
abbrev pub rows_of_one_insert : Type 0
rows_of_one_insert = Shows (
    a (insert_keys (1 ∷ [])) gives inserted 1
    ∷ a (insert_keys (2 ∷ 1 ∷ [])) gives refused state.UniqueViolation
    ∷ a (insert_keys (7 ∷ 8 ∷ 7 ∷ [])) gives refused state.UniqueViolation
    ∷ a (insert_rows ("k" ∷ []) ((num 3 ∷ []) ∷ (null ∷ []) ∷ [])) gives refused state.NotNullViolation
    ∷ a (insert ((num 4 ∷ num 1 ∷ []) ∷ (num 5 ∷ div (num 1) (num 0) ∷ []) ∷ []))
    gives refused state.DivisionByZero
    ∷ a select_keys gives numbers (1 ∷ [])
    ∷ [])

-- a value has the type of its column, or is the word NULL; nothing is converted
abbrev pub types_of_values : Type 0
types_of_values = Shows (
    a (insert_into "k" (str "1")) gives refused state.DatatypeMismatch
    ∷ a (insert_columns ("k" ∷ "s" ∷ []) (num 1 ∷ num 1 ∷ [])) gives refused state.DatatypeMismatch
    ∷ a (insert_columns ("k" ∷ "o" ∷ []) (num 1 ∷ yes ∷ [])) gives refused state.DatatypeMismatch
    ∷ a (insert_columns ("k" ∷ "o" ∷ []) (num 3 ∷ me ∷ [])) gives inserted 1
    ∷ a (insert ((num 4 ∷ null ∷ null ∷ null ∷ []) ∷ [])) gives inserted 1
    ∷ a (update "x" (col "s")) gives refused state.DatatypeMismatch
    ∷ a (update "o" null) gives updated 2
    ∷ [])

-- a column that is NOT NULL takes no null, by INSERT or UPDATE, named or left out; a key column is NOT NULL
abbrev pub not_null_columns : Type 0
not_null_columns = Shows (
    a (create_table "u" (key_column "k" type.BigInt ∷ not_null_column "l" type.Text ∷ plain_column "m" type.Text ∷ []))
    gives ok tag.CreateTable
    ∷ a (on "u" (insert_keys (1 ∷ []))) gives refused state.NotNullViolation
    ∷ a (on "u" (insert ((num 1 ∷ null ∷ []) ∷ []))) gives refused state.NotNullViolation
    ∷ a (on "u" (insert ((null ∷ str "a" ∷ []) ∷ []))) gives refused state.NotNullViolation
    ∷ a (on "u" (insert ((num 1 ∷ str "a" ∷ []) ∷ []))) gives inserted 1
    ∷ a (on "u" (update "l" null)) gives refused state.NotNullViolation
    ∷ a (on "u" (update "m" (col "l"))) gives updated 1
    ∷ a (on "u" (update_where "l" null not_so)) gives updated 0
    ∷ a (select_all_of_u) gives rows ((int 1 ∷ text "a" ∷ text "a" ∷ []) ∷ [])
    ∷ [])

-- rows stand in the order of their key's columns as the key names them, and two rows may share one of these
abbrev pub key_of_two_columns : Type 0
key_of_two_columns = Shows (
    a (create_table "u" (key_of ("b" ∷ "a" ∷ []) ∷ plain_column "a" type.BigInt ∷ plain_column "b" type.Text ∷ []))
    gives ok tag.CreateTable
    ∷ a (on "u" (insert ((num 1 ∷ str "b" ∷ []) ∷ (num 2 ∷ str "a" ∷ []) ∷ (num 1 ∷ str "a" ∷ []) ∷ [])))
    gives inserted 3
    ∷ a (on "u" (insert ((num 1 ∷ str "a" ∷ []) ∷ []))) gives refused state.UniqueViolation
    ∷ a (on "u" (insert ((num 1 ∷ null ∷ []) ∷ []))) gives refused state.NotNullViolation
    ∷ a (select_all_of_u)
    gives rows ((int 1 ∷ text "a" ∷ []) ∷ (int 2 ∷ text "a" ∷ []) ∷ (int 1 ∷ text "b" ∷ []) ∷ [])
    ∷ [])

-- a key may be of any types: false stands before true, and a negative number before the others
abbrev pub key_of_a_boolean : Type 0
key_of_a_boolean = Shows (
    a (create_table "u" (plain_column "s" type.Boolean ∷ plain_column "n" type.BigInt ∷ key_of ("s" ∷ "n" ∷ []) ∷ []))
    gives ok tag.CreateTable
    ∷ a (on "u" (insert ((yes ∷ num 1 ∷ []) ∷ (not_so ∷ num 2 ∷ []) ∷ (yes ∷ below_zero 1 ∷ []) ∷ [])))
    gives inserted 3
    ∷ a (select_all_of_u)
    gives rows ((Boolean false ∷ int 2 ∷ []) ∷ (Boolean true ∷ minus_int 1 ∷ []) ∷ (Boolean true ∷ int 1 ∷ []) ∷ [])
    ∷ [])

-- a table's columns differ, those of its key too, and these are among the columns
abbrev pub columns_of_a_definition : Type 0
columns_of_a_definition = Shows (
    a (create_table "u" (plain_column "k" type.BigInt ∷ key_of ("k" ∷ "k" ∷ []) ∷ []))
    gives refused state.DuplicateColumn
    ∷ a (create_table "u" (key_column "k" type.BigInt ∷ plain_column "k" type.Text ∷ []))
    gives refused state.DuplicateColumn
    ∷ a (create_table "u" (plain_column "k" type.BigInt ∷ key_of ("zz" ∷ []) ∷ []))
    gives refused state.UndefinedColumn
    ∷ a create_u gives ok tag.CreateTable
    ∷ b create_u gives refused state.DuplicateTable
    ∷ a (drop_table "u") gives ok tag.DropTable
    ∷ b create_u gives ok tag.CreateTable
    ∷ a (drop_table "u") gives refused state.InsufficientPrivilege
    ∷ [])

-- keys are compared over all rows after the statement, so that an UPDATE may exchange or shift them
abbrev pub keys_that_move : Type 0
keys_that_move = Shows (
    a (insert (pair 1 10 ∷ pair 2 20 ∷ pair 3 30 ∷ [])) gives inserted 3
    ∷ a (update "k" (minus (num 4) (col "k"))) gives updated 3
    ∷ a (select (col "k" ∷ col "x" ∷ []) from_t)
    gives number_rows ((1 ∷ 30 ∷ []) ∷ (2 ∷ 20 ∷ []) ∷ (3 ∷ 10 ∷ []) ∷ [])
    ∷ a (update_where "k" (minus (col "k") (num 1)) (gt (col "k") (num 1))) gives refused state.UniqueViolation
    ∷ a (update "k" (num 5)) gives refused state.UniqueViolation
    ∷ a (delete_where (eq (col "k") (num 1))) gives deleted 1
    ∷ a (update "k" (plus (col "k") (num 1))) gives updated 2
    ∷ a (select (col "k" ∷ col "x" ∷ []) from_t) gives number_rows ((3 ∷ 20 ∷ []) ∷ (4 ∷ 10 ∷ []) ∷ [])
    ∷ [])

-- UPDATE sets the columns that it names, and leaves the others and the rows that WHERE does not choose
abbrev pub columns_of_an_update : Type 0
columns_of_an_update = Shows (
    a (insert ((num 2 ∷ num 1 ∷ yes ∷ str "a" ∷ []) ∷ [])) gives inserted 1
    ∷ a (update "zz" (num 1)) gives refused state.UndefinedColumn
    ∷ a (update "x" (col_of "u" "x")) gives refused state.UndefinedColumn
    ∷ a (update_both "s" (gt (col "x") (num 1)) "o" (col "o")) gives updated 1
    ∷ a (update_where "x" (col "x") (eq (col_of "t" "k") (num 2))) gives updated 1
    ∷ a (update_where "x" (num 5) not_so) gives updated 0
    ∷ a (update_where "x" (num 5) null) gives updated 0
    ∷ a select_all gives rows ((int 2 ∷ int 1 ∷ Boolean false ∷ text "a" ∷ []) ∷ [])
    ∷ [])

-- DELETE takes the rows on which its condition is true, not those on which it is null
abbrev pub rows_that_a_delete_takes : Type 0
rows_that_a_delete_takes = Shows (
    a (insert ((num 1 ∷ num 1 ∷ []) ∷ (num 2 ∷ null ∷ []) ∷ (num 3 ∷ num 3 ∷ []) ∷ [])) gives inserted 3
    ∷ a (delete_where (lt (col "x") (num 2))) gives deleted 1
    ∷ a (delete_where (not_that (lt (col "x") (num 2)))) gives deleted 1
    ∷ a select_keys gives numbers (2 ∷ [])
    ∷ a (delete_where (and_also (is_null (col "x")) (eq (col "k") (num 2)))) gives deleted 1
    ∷ a delete gives deleted 0
    ∷ [])

-- DROP TABLE takes the rows with the table
abbrev pub dropped_rows : Type 0
dropped_rows = Shows (
    a (insert_key 1) gives inserted 1
    ∷ a (drop_table "t") gives ok tag.DropTable
    ∷ a (create_table "t" (one (key_column "k" type.Text))) gives ok tag.CreateTable
    ∷ a select_all gives no_rows
    ∷ a (insert ((str "a" ∷ []) ∷ [])) gives inserted 1
    ∷ a select_all gives rows ((text "a" ∷ []) ∷ [])
    ∷ [])
