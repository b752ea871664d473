-- Databases of which some users see the same: what these are answered over both, and what they see of both afterwards.
use Rattle.std.specs.Prelude.{ℕ, ◌≡◌, ◌&&◌, Bool, true, false, List, Some, Result, Ok, Err}
use Rattle.sql_types.specs.Row.{Row}
use Rattle.sql_types.specs.declared.state.SqlState.{SqlState}
use Rattle.sql_types.specs.declared.state.SqlState.TheVariants.{UniqueViolation}
use Rattle.sql_types.specs.declared.value.Value.TheVariants.{Null, Int, Text, Bool as Boolean}
use Rattle.sql_types.specs.declared.answer.Answer.{Answer}
use Rattle.sql_types.specs.declared.answer.Answer.TheVariants as answer
use Rattle.sql_ast.specs.declared.privilege.Action.TheVariants as action
use Rattle.sql_ast.specs.declared.statement.Statement.TheVariants as statement
use Rattle.sql_ast.specs.declared.statement.DatabaseStatement.TheVariants as on_database
use Rattle.sql_ast.specs.declared.statement.RowStatement.{RowStatement}
use Rattle.sql_ast.specs.declared.statement.RowStatement.TheVariants as over_rows
use Rattle.sql_ast.specs.declared.statement.Insert.{Insert}
use Rattle.sql_ast.specs.declared.statement.Update.{Update}
use Rattle.sql_ast.specs.declared.statement.Delete.{Delete}
use Rattle.expressions.specs.Outcome.{Outcome}
use Rattle.expressions.specs.Meaning.{UserNames}
use Rattle.abstract_database.specs.Lists.{drop_where}
use Rattle.abstract_database.specs.Database.{TableOf, Database, definition_named, rows_named, without_rows}
use Rattle.abstract_database.specs.Guards.{guard, using_clause}
use Rattle.abstract_database.specs.Needs.{has_any}
use Rattle.abstract_database.specs.Statements.{Effect, insert, update, delete, UserPair, as_seen, exec}
use Rattle.abstract_database.specs.Machine.{Session, Machine, session_of, users_of, is_held_by_other, seen, executes, transition}
use Rattle.database_laws.specs.Readings.{columns_read_by_update, columns_read_by_delete}
use Rattle.database_laws.specs.Invariants.{IsSound}
use Rattle.database_laws.specs.Visible.{SameVisibleRows, NoGuardFails}

-- ---- rows that say nothing

abbrev pub has_value : Outcome → Bool
has_value (Ok v) = true
has_value (Err code) = false

-- a value that is not true
abbrev pub is_unmet : Outcome → Bool
is_unmet (Ok (Boolean true)) = false
is_unmet (Ok (Boolean false)) = true
is_unmet (Ok Null) = true
is_unmet (Ok (Int n)) = true
is_unmet (Ok (Text t)) = true
is_unmet (Err code) = false

-- the guard of SELECT does not let the row pass, and no guard of existing rows fails on it
abbrev pub is_silent : Database → UserNames → TableOf → Row → Bool
is_silent db users t row =
    is_unmet (guard db users t action.Select using_clause row)
    && (has_value (guard db users t action.Update using_clause row) && has_value (guard db users t action.Delete using_clause row))

-- what users see of a table: the other rows, in their order
abbrev pub apparent_rows : Database → UserNames → TableOf → List Row
apparent_rows db users t = drop_where (is_silent db users t) (rows_named db t.name)

-- the same definitions, and in each table the same rows that say something
pub record SameApparentRows (users : UserNames) (d e : Database) : Type 0 where
  pub definitions : without_rows d ≡ without_rows e
  pub rows : (t : TableOf) → definition_named d t.name ≡ Some t → apparent_rows d users t ≡ apparent_rows e users t

-- ---- what comes of one statement over both

-- refused with one code, or carried out with one answer, and what they leave looks alike again
abbrev pub EndAlike : UserNames → Result Effect SqlState → Result Effect SqlState → Type 0
EndAlike users (Ok a) (Ok b) = (a.answer ≡ b.answer) × SameApparentRows users a.database b.database
EndAlike users (Err c) (Err k) = c ≡ k
EndAlike users (Ok a) (Err k) = ⊥
EndAlike users (Err c) (Ok b) = ⊥

-- the same, where no key of a new row stands already
abbrev pub EndAlikeWithoutKeys : UserNames → Result Effect SqlState → Result Effect SqlState → Type 0
EndAlikeWithoutKeys users r s = (r ≡ Err UniqueViolation → ⊥) → (s ≡ Err UniqueViolation → ⊥) → EndAlike users r s

-- a DELETE that reads a column
abbrev pub deletes_alike : Type 0
deletes_alike = (users : UserNames) (d e : Database) (s : Delete) → has_any (columns_read_by_delete s) ≡ true → SameApparentRows users d e →
    EndAlike users (delete d users s) (delete e users s)

-- an INSERT
abbrev pub inserts_alike : Type 0
inserts_alike = (users : UserNames) (d e : Database) (s : Insert) → IsSound d → IsSound e → SameApparentRows users d e → EndAlikeWithoutKeys users (insert d users s) (insert e users s)

-- an UPDATE that reads a column
abbrev pub updates_alike : Type 0
updates_alike = (users : UserNames) (d e : Database) (s : Update) → has_any (columns_read_by_update s) ≡ true → IsSound d → IsSound e →
    SameApparentRows users d e → EndAlikeWithoutKeys users (update d users s) (update e users s)

-- ---- two worlds

-- a SELECT, an INSERT, or an UPDATE or a DELETE that reads a column
abbrev pub is_told : RowStatement → Bool
is_told (over_rows.Select s) = true
is_told (over_rows.Insert s) = true
is_told (over_rows.Update s) = has_any (columns_read_by_update s)
is_told (over_rows.Delete s) = has_any (columns_read_by_delete s)

-- over databases that look alike to its users, such a statement ends alike
abbrev pub two_worlds : Type 0
two_worlds = (pair : UserPair) (d e : Database) (x : RowStatement) → is_told x ≡ true → IsSound d → IsSound e → SameApparentRows (as_seen pair d) d e →
    EndAlikeWithoutKeys (as_seen pair d) (exec d pair (on_database.OverRows x)) (exec e pair (on_database.OverRows x))

-- no guard of existing rows fails for these users
pub record AreInfallible (users : UserNames) (db : Database) : Type 0 where
  pub select : NoGuardFails action.Select users db
  pub update : NoGuardFails action.Update users db
  pub delete : NoGuardFails action.Delete users db

-- refused with one code, or carried out with one answer, and what they leave agrees in all that the users may see
abbrev pub EndAgreeing : UserNames → Result Effect SqlState → Result Effect SqlState → Type 0
EndAgreeing users (Ok a) (Ok b) = (a.answer ≡ b.answer) × SameVisibleRows users a.database b.database
EndAgreeing users (Err c) (Err k) = c ≡ k
EndAgreeing users (Ok a) (Err k) = ⊥
EndAgreeing users (Err c) (Ok b) = ⊥

-- so over databases that agree in all but rows that the guard of SELECT hides, where no guard fails
abbrev pub worlds_agree : Type 0
worlds_agree = (pair : UserPair) (d e : Database) (x : RowStatement) → is_told x ≡ true → IsSound d → IsSound e → SameVisibleRows (as_seen pair d) d e →
    AreInfallible (as_seen pair d) d → AreInfallible (as_seen pair d) e → (exec d pair (on_database.OverRows x) ≡ Err UniqueViolation → ⊥) → (exec e pair (on_database.OverRows x) ≡ Err UniqueViolation → ⊥) →
    EndAgreeing (as_seen pair d) (exec d pair (on_database.OverRows x)) (exec e pair (on_database.OverRows x))

-- ---- sessions

-- over both machines the session may do the same, and sees databases that look alike to its users
pub record MachinesAlikeForStatement (number : ℕ) (s : Session) (m k : Machine) : Type 0 where
  pub sessions : m.sessions ≡ k.sessions
  pub stopped : m.stopped ≡ k.stopped
  pub lock : is_held_by_other number m.holder ≡ is_held_by_other number k.holder
  pub rows : SameApparentRows (as_seen (users_of s) (seen m number)) (seen m number) (seen k number)

abbrev pub answer_from : Machine → ℕ → RowStatement → Answer
answer_from m number x = (transition m (executes number (Ok (statement.OnDatabase (on_database.OverRows x))))).answer

-- a session is answered the same by both, unless one of the answers is that a key stands already
abbrev pub answers_hide : Type 0
answers_hide = (number : ℕ) (s : Session) (m k : Machine) (x : RowStatement) → is_told x ≡ true → session_of number m.sessions ≡ Some s → MachinesAlikeForStatement number s m k →
    IsSound (seen m number) → IsSound (seen k number) →
    (answer_from m number x ≡ answer.Refused UniqueViolation → ⊥) → (answer_from k number x ≡ answer.Refused UniqueViolation → ⊥) →
    answer_from m number x ≡ answer_from k number x

-- a DELETE over databases that look alike to others leaves databases that look alike to them
abbrev pub deletes_before_others : Type 0
deletes_before_others = (users v : UserNames) (d e : Database) (s : Delete) (a b : Effect) → SameApparentRows v d e → delete d users s ≡ Ok a → delete e users s ≡ Ok b →
    SameApparentRows v a.database b.database

-- so does an INSERT over databases that look alike to its users too
abbrev pub inserts_before_others : Type 0
inserts_before_others = (users v : UserNames) (d e : Database) (s : Insert) (a b : Effect) → IsSound d → IsSound e → SameApparentRows users d e → SameApparentRows v d e →
    insert d users s ≡ Ok a → insert e users s ≡ Ok b → SameApparentRows v a.database b.database

-- and an UPDATE that reads a column
abbrev pub updates_before_others : Type 0
updates_before_others = (users v : UserNames) (d e : Database) (s : Update) (a b : Effect) → has_any (columns_read_by_update s) ≡ true → IsSound d → IsSound e →
    SameApparentRows users d e → SameApparentRows v d e → update d users s ≡ Ok a → update e users s ≡ Ok b → SameApparentRows v a.database b.database
