-- Tables on which a role has no privilege: what it is answered, whatever rows they have.
use Rattle.std.specs.Prelude.{◌≡◌, Bool, true, false, Result, Ok, Err}
use Rattle.sql_types.specs.declared.state.SqlState.{SqlState}
use Rattle.sql_ast.specs.declared.statement.DatabaseStatement.TheVariants as on_database
use Rattle.sql_ast.specs.declared.statement.RowStatement.{RowStatement}
use Rattle.abstract_database.specs.Lists.{TheName}
use Rattle.abstract_database.specs.Database.{Database, rows_named, without_rows}
use Rattle.abstract_database.specs.Privileges.{has_some_privilege}
use Rattle.abstract_database.specs.Statements.{Effect, UserPair, exec}

-- the role has no privilege on tables of these names, nor on a column of one
abbrev pub AreClosedTo : (TheName → Bool) → Database → TheName → Type 0
AreClosedTo closed db role = (name : TheName) → closed name ≡ true → has_some_privilege db role name ≡ false

-- the same definitions, and the same rows but in these tables
pub record DifferInClosed (closed : TheName → Bool) (d e : Database) : Type 0 where
  pub definitions : without_rows d ≡ without_rows e
  pub rows : (name : TheName) → closed name ≡ false → rows_named d name ≡ rows_named e name

-- refused with one code, or carried out with one answer, and what they leave differs in these tables alone
abbrev pub EndBesideClosed : (TheName → Bool) → Result Effect SqlState → Result Effect SqlState → Type 0
EndBesideClosed closed (Ok a) (Ok b) = (a.answer ≡ b.answer) × DifferInClosed closed a.database b.database
EndBesideClosed closed (Err c) (Err k) = c ≡ k
EndBesideClosed closed (Ok a) (Err k) = ⊥
EndBesideClosed closed (Err c) (Ok b) = ⊥

-- a statement over rows ends so, without exception
abbrev pub closed_tables_tell_nothing : Type 0
closed_tables_tell_nothing = (closed : TheName → Bool) (pair : UserPair) (d e : Database) (x : RowStatement) → AreClosedTo closed d pair.current → DifferInClosed closed d e →
    EndBesideClosed closed (exec d pair (on_database.OverRows x)) (exec e pair (on_database.OverRows x))
