-- Laws of the rows of tables, through each statement.
use Rattle.std.specs.Prelude.{◌≡◌, slice_get, ℕ, true, false, Ok}
use Rattle.sql_ast.specs.declared.statement.DatabaseStatement.{DatabaseStatement}
use Rattle.sql_ast.specs.Layout.{all_differ, same_name}
use Rattle.sql_ast.specs.Scope.{type_of}
use Rattle.expressions.specs.Types.{is_of}
use Rattle.abstract_database.specs.Lists.{Among}
use Rattle.abstract_database.specs.Database.{Table, Database}
use Rattle.sql_types.specs.Row.{Row, value_at}
use Rattle.abstract_database.specs.Changes.{has_double_key, keeps_not_null, IsInKeyOrder}
use Rattle.abstract_database.specs.Statements.{Effect, UserPair, exec}

-- ---- rows

abbrev pub EachTable : (Table → Type 0) → Database → Type 0
EachTable Q db = (t : Table) → Among t db.tables → Q t

-- no two rows of the table have one key
abbrev pub HasDistinctKeys : Table → Type 0
HasDistinctKeys t = has_double_key t.definition.layout.key t.rows ≡ false

-- no row has a null in a column that is NOT NULL
abbrev pub KeepsNotNull : Table → Type 0
KeepsNotNull t = (row : Row) → Among row t.rows → keeps_not_null t.definition.layout.columns row ≡ true

-- each value is null or of its column's type
abbrev pub HasTypes : Table → Type 0
HasTypes t = (row : Row) → Among row t.rows → (index : ℕ) → is_of (type_of (slice_get t.definition.layout.columns index)) (value_at row index) ≡ true

-- keys stay distinct through every statement
abbrev pub keys_stay_distinct : Type 0
keys_stay_distinct = (db : Database) (pair : UserPair) (x : DatabaseStatement) (e : Effect) → exec db pair x ≡ Ok e → EachTable HasDistinctKeys db → EachTable HasDistinctKeys e.database

-- and no null comes into a column that is NOT NULL
abbrev pub nulls_stay_out : Type 0
nulls_stay_out = (db : Database) (pair : UserPair) (x : DatabaseStatement) (e : Effect) → exec db pair x ≡ Ok e → EachTable KeepsNotNull db → EachTable KeepsNotNull e.database

-- the columns have names that differ, and each value is null or of its column's type
abbrev pub IsTyped : Table → Type 0
IsTyped t = (all_differ same_name t.definition.layout.columns ≡ true) × HasTypes t

-- and each value stays of its column's type
abbrev pub types_stay : Type 0
types_stay = (db : Database) (pair : UserPair) (x : DatabaseStatement) (e : Effect) → exec db pair x ≡ Ok e → EachTable IsTyped db → EachTable IsTyped e.database

-- and rows stay in key order
abbrev pub rows_stay_in_order : Type 0
rows_stay_in_order = (db : Database) (pair : UserPair) (x : DatabaseStatement) (e : Effect) → exec db pair x ≡ Ok e → EachTable IsTyped db → EachTable IsInKeyOrder db → EachTable IsInKeyOrder e.database
