-- Limits: how much fits into a statement, a record, a table, a database and a server.
use Rattle.std.specs.Prelude.{[], codes, map, ◌++◌, ◌+◌, ◌∷◌}
use Rattle.sql_types.specs.declared.state.SqlState.TheVariants as state
use Rattle.sql_types.specs.declared.tag.Tag.TheVariants as tag
use Rattle.sql_ast.specs.declared.columns.ColumnType.TheVariants as type
use Rattle.abstract_database.specs.Machine.{closes, number_in, opens}
use Rattle.database_examples.specs.Expressions.{div, long_text, null, num, str, yes}
use Rattle.database_examples.specs.Wording.{called_as, column_named, counting, create, create_named, create_role_named, create_table, create_u, drop_table, from_t, from_tables, insert, insert_columns, insert_in, insert_keys, key_column, not_null_column, numbered_names, on, only_to, plain_column, policy, roles_named, select_count, the_role, update, using, using_blanks}
use Rattle.database_examples.specs.Lines.{Shows, a, b, c, inserted, numbers, ok, r, refused, updated, ◌gives◌}

-- a row's key has 200 bytes at most: a text takes one more than it has
abbrev pub longest_key : Type 0
longest_key = Shows (
    a (create_table "n" (key_column "v" type.Text ∷ [])) gives ok tag.CreateTable
    ∷ a (insert_in "n" (long_text 199)) gives inserted 1
    ∷ a (insert_in "n" (long_text 200)) gives refused state.ProgramLimitExceeded
    ∷ [])

-- the columns of a row beside its key have 1,200 bytes at most: two nulls of one byte here, and a text with three
abbrev pub longest_row : Type 0
longest_row = Shows (
    a (insert_columns ("k" ∷ "o" ∷ []) (num 1 ∷ long_text 1196 ∷ [])) gives refused state.ProgramLimitExceeded
    ∷ a (insert_columns ("k" ∷ "o" ∷ []) (num 1 ∷ long_text 1195 ∷ [])) gives inserted 1
    ∷ a (update "o" (long_text 1196)) gives refused state.ProgramLimitExceeded
    ∷ a (update "x" (num 1)) gives refused state.ProgramLimitExceeded
    ∷ a (update "s" yes) gives updated 1
    ∷ [])

-- nulls are refused before sizes, and sizes before keys
abbrev pub nulls_before_sizes : Type 0
nulls_before_sizes = Shows (
    a (create_table "u" (key_column "k" type.BigInt ∷ not_null_column "l" type.Text ∷ plain_column "m" type.Text ∷ []))
    gives ok tag.CreateTable
    ∷ a (on "u" (insert ((num 1 ∷ null ∷ long_text 1200 ∷ []) ∷ []))) gives refused state.NotNullViolation
    ∷ a (on "u" (insert ((num 1 ∷ long_text 1200 ∷ []) ∷ (num 2 ∷ []) ∷ []))) gives refused state.NotNullViolation
    ∷ a (on "u" (insert ((num 1 ∷ str "a" ∷ []) ∷ []))) gives inserted 1
    ∷ a (on "u" (insert ((num 1 ∷ long_text 1200 ∷ []) ∷ []))) gives refused state.ProgramLimitExceeded
    ∷ a (on "u" (insert ((num 1 ∷ str "a" ∷ []) ∷ []))) gives refused state.UniqueViolation
    ∷ [])

-- an INSERT has 256 rows at most, and more are refused before any value is evaluated
abbrev pub rows_of_a_statement : Type 0
rows_of_a_statement = Shows (
    a (insert_keys (counting 257)) gives refused state.ProgramLimitExceeded
    ∷ b (insert_keys (counting 257)) gives refused state.InsufficientPrivilege
    ∷ a (insert (map (λ k. div (num 1) (num 0) ∷ []) (counting 257))) gives refused state.ProgramLimitExceeded
    ∷ a (insert_keys (counting 256)) gives inserted 256
    ∷ a (select_count from_t) gives numbers (256 ∷ [])
    ∷ [])

-- a table has 16 columns at most
abbrev pub columns_of_a_table : Type 0
columns_of_a_table = Shows (
    a (create_table "u" (key_column "k" type.BigInt ∷ map column_named (numbered_names 16)))
    gives refused state.ProgramLimitExceeded
    ∷ a (create_table "u" (key_column "k" type.BigInt ∷ map column_named (numbered_names 15)))
    gives ok tag.CreateTable
    ∷ [])

-- a database has 1,024 tables at most, of all owners together
abbrev pub tables_of_a_database : Type 0
tables_of_a_database = Shows (
    map (λ n. b (create_named n) gives ok tag.CreateTable) (numbered_names 1023)
    ++ (a create_u gives refused state.ProgramLimitExceeded)
    ∷ (a (drop_table "t") gives ok tag.DropTable)
    ∷ (a create_u gives ok tag.CreateTable)
    ∷ (c (create_named (codes "v")) gives refused state.ProgramLimitExceeded)
    ∷ [])

-- four tables may be in FROM, and no more
abbrev pub tables_in_from : Type 0
tables_in_from = Shows (
    a (select_count (from_tables (map (called_as "t") ("p" ∷ "q" ∷ "r" ∷ "s" ∷ [])))) gives numbers (0 ∷ [])
    ∷ a (select_count (from_tables (map (called_as "t") ("p" ∷ "q" ∷ "r" ∷ "s" ∷ "v" ∷ []))))
    gives refused state.ProgramLimitExceeded
    ∷ b (select_count (from_tables (map (called_as "t") ("p" ∷ "q" ∷ "r" ∷ "s" ∷ "v" ∷ []))))
    gives refused state.InsufficientPrivilege
    ∷ [])

-- a policy is to 255 roles at most
abbrev pub roles_of_one_policy : Type 0
roles_of_one_policy = Shows (
    map (λ n. r (create_role_named n) gives ok tag.CreateRole) (numbered_names 256)
    ++ (a (create (only_to (roles_named (numbered_names 256)) (using yes (policy "p")))) gives refused state.ProgramLimitExceeded)
    ∷ (a (create (only_to (roles_named (numbered_names 255)) (using yes (policy "p")))) gives ok tag.CreatePolicy)
    ∷ [])

-- a policy's record has 1,200 bytes at most: 3 of its own, each text as it was written and 3 more or 1 where it is missing,
-- and the name of each role and 1 more
abbrev pub longest_policy : Type 0
longest_policy = Shows (
    a (create (using_blanks 1188 (policy "p"))) gives refused state.ProgramLimitExceeded
    ∷ b (create (using_blanks 1188 (policy "p"))) gives refused state.InsufficientPrivilege
    ∷ a (create (using_blanks 1187 (policy "p"))) gives ok tag.CreatePolicy
    ∷ a (create (only_to (the_role "bob") (using_blanks 1184 (policy "q"))))
    gives refused state.ProgramLimitExceeded
    ∷ a (create (only_to (the_role "bob") (using_blanks 1183 (policy "q")))) gives ok tag.CreatePolicy
    ∷ [])

-- 256 sessions of a client may be open, and a closed one makes room; a number that is open and the limit come before the login.
-- Another client has its own
abbrev pub open_sessions : Type 0
open_sessions = Shows (
    map (λ n. opens (n + 5) (codes "bob") gives ok tag.Open) (counting 251)
    ++ (opens 300 (codes "bob") gives refused state.TooManyConnections)
    ∷ (opens 300 (codes "nobody") gives refused state.TooManyConnections)
    ∷ (opens 2 (codes "nobody") gives refused state.ConnectionNameInUse)
    ∷ (closes 2 gives ok tag.Close)
    ∷ (opens 300 (codes "nobody") gives refused state.InvalidAuthorization)
    ∷ (opens 300 (codes "bob") gives ok tag.Open)
    ∷ (opens 2 (codes "ann") gives refused state.TooManyConnections)
    ∷ (opens (number_in 1 2) (codes "ann") gives ok tag.Open)
    ∷ [])
