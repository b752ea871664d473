-- Laws of the stages of a statement: its checks come first, and read no row.
use Rattle.std.specs.Prelude.{◌≡◌, Ok}
use Rattle.sql_ast.specs.declared.statement.DatabaseStatement.{DatabaseStatement}
use Rattle.expressions.specs.Meaning.{UserNames}
use Rattle.expressions.specs.Stages.{◌>>=◌}
use Rattle.abstract_database.specs.Database.{Database, without_rows}
use Rattle.abstract_database.specs.Statements.{UserPair, as_seen, exec, Checked, defines, inserts, updates, deletes, selects, checked, performed}

-- a statement is executed as it is checked, and then performed
abbrev pub checked_then_performed : Type 0
checked_then_performed = (db : Database) (pair : UserPair) (x : DatabaseStatement) → exec db pair x ≡ (checked db (as_seen pair db) x >>= performed db (as_seen pair db))

-- what was checked, in a database without rows
abbrev pub apart_from_rows : Checked → Checked
apart_from_rows (defines e) = defines (record e { database = without_rows e.database })
apart_from_rows (inserts c) = inserts c
apart_from_rows (updates c) = updates c
apart_from_rows (deletes c) = deletes c
apart_from_rows (selects c) = selects c

-- the checks of a statement are the same whatever rows there are
abbrev pub checks_read_no_rows : Type 0
checks_read_no_rows = (db : Database) (users : UserNames) (x : DatabaseStatement) → checked (without_rows db) users x ≡ (checked db users x >>= λ c. Ok (apart_from_rows c))
