-- Statements over rows that are out of the sight of others: what they leave looks to these as it did before.
use Rattle.std.specs.Prelude.{◌≡◌, ℕ, Bool, true, [], ◌∷◌, filter, bytes_eq, Some, None, Ok, Err}
use Rattle.sql_types.specs.Row.{Row}
use Rattle.sql_ast.specs.declared.expression.ColumnName.{ColumnName}
use Rattle.sql_ast.specs.declared.expression.Comparison.TheVariants.{Equal}
use Rattle.sql_ast.specs.declared.policy.Policy.{Policy}
use Rattle.sql_ast.specs.declared.policy.PolicyClause.{PolicyClause}
use Rattle.sql_ast.specs.declared.policy.PolicyCommand.TheVariants as command
use Rattle.sql_ast.specs.declared.privilege.Action.TheVariants as action
use Rattle.sql_ast.specs.declared.statement.Statement.{Statement}
use Rattle.sql_ast.specs.declared.statement.Statement.TheVariants as statement
use Rattle.sql_ast.specs.declared.statement.DatabaseStatement.TheVariants as on_database
use Rattle.sql_ast.specs.declared.statement.RowStatement.{RowStatement}
use Rattle.sql_ast.specs.Term.{column, current_user, comparison}
use Rattle.expressions.specs.Meaning.{UserNames}
use Rattle.abstract_database.specs.Database.{TableOf, Database, definition_named}
use Rattle.abstract_database.specs.Guards.{is_guarded, guard, using_clause, check_clause}
use Rattle.abstract_database.specs.Statements.{Effect, UserPair, as_seen, exec}
use Rattle.abstract_database.specs.Machine.{Session, Event, opens, executes, closes, Reading, Machine, session_of, users_of, seen}
use Rattle.database_laws.specs.Invariants.{IsSound}
use Rattle.database_laws.specs.Sessions.{number_of}
use Rattle.database_laws.specs.HiddenRuns.{MayActAs, SameApparentRowsForPairs, AreSound, after}
use Rattle.database_laws.specs.OnePolicy.{target_of, HasPoliciesForAll}
use Rattle.database_laws.specs.Writes.{Passes}
use Rattle.database_laws.specs.Worlds.{is_unmet, is_silent, SameApparentRows}

-- the guards let these users write the row: insert it, make it of another one, change it, or remove it
pub data MayWrite (db : Database) (users : UserNames) (t : TableOf) (row : Row) : Type 0 where
  inserts : Passes (guard db users t action.Insert check_clause) row → MayWrite db users t row
  makes : Passes (guard db users t action.Update check_clause) row → MayWrite db users t row
  changes : Passes (guard db users t action.Update using_clause) row → MayWrite db users t row
  removes : Passes (guard db users t action.Delete using_clause) row → MayWrite db users t row

-- each row that the users may write is silent for the others
abbrev pub IsOutOfSight : Database → UserNames → UserNames → TableOf → Type 0
IsOutOfSight db users others t = (row : Row) → MayWrite db users t row → is_silent db others t row ≡ true

-- so it is in the table that a statement changes
abbrev pub WritesOutOfSight : Database → UserNames → UserNames → RowStatement → Type 0
WritesOutOfSight db users others x = (t : TableOf) → target_of x ≡ Some t.name → definition_named db t.name ≡ Some t → IsOutOfSight db users others t

-- what such a statement leaves looks to the others as it did before
abbrev pub unseen_by_others : Type 0
unseen_by_others = (pair : UserPair) (others : UserNames) (db : Database) (x : RowStatement) (e : Effect) → IsSound db → WritesOutOfSight db (as_seen pair db) others x →
    exec db pair (on_database.OverRows x) ≡ Ok e → SameApparentRows others db e.database

-- ---- all the pairs as which sessions act

-- the statement is out of the sight of each of these pairs
abbrev pub IsOutOfSightOf : (UserPair → Bool) → Database → UserNames → RowStatement → Type 0
IsOutOfSightOf pairs db users x = (pair : UserPair) → MayActAs db pairs pair → WritesOutOfSight db users (as_seen pair db) x

-- what it leaves looks to all of them as it did before
abbrev pub unseen_by_all : Type 0
unseen_by_all = (pair : UserPair) (pairs : UserPair → Bool) (db : Database) (x : RowStatement) (e : Effect) → IsSound db → IsOutOfSightOf pairs db (as_seen pair db) x →
    exec db pair (on_database.OverRows x) ≡ Ok e → SameApparentRowsForPairs pairs db e.database

-- ---- events of sessions

-- what the session of this number sees looks, to all of the pairs, like what is committed
abbrev pub LooksCommitted : (UserPair → Bool) → ℕ → Machine → Type 0
LooksCommitted pairs number m = SameApparentRowsForPairs pairs m.committed (seen m number)

-- a statement over rows that is out of their sight, or one that concerns the session alone
abbrev pub IsUnseenIn : (UserPair → Bool) → Database → UserPair → Statement → Type 0
IsUnseenIn pairs db pair (statement.OnDatabase (on_database.OverRows x)) = IsOutOfSightOf pairs db (as_seen pair db) x
IsUnseenIn pairs db pair (statement.OnDatabase (on_database.Defining x)) = ⊥
IsUnseenIn pairs db pair (statement.OfSession x) = Unit {0}

abbrev pub IsUnseenReading : (UserPair → Bool) → Machine → ℕ → Reading → Type 0
IsUnseenReading pairs m number (Ok x) = (s : Session) → session_of number m.sessions ≡ Some s → IsUnseenIn pairs (seen m number) (users_of s) x
IsUnseenReading pairs m number (Err code) = Unit {0}

-- an event that makes no statement but such a one
abbrev pub IsUnseen : (UserPair → Bool) → Machine → Event Reading → Type 0
IsUnseen pairs m (opens number l) = Unit {0}
IsUnseen pairs m (executes number reading) = IsUnseenReading pairs m number reading
IsUnseen pairs m (closes number) = Unit {0}

-- it changes what is committed, and what its session sees, only out of the sight of all of the pairs
abbrev pub unseen_events : Type 0
unseen_events = (pairs : UserPair → Bool) (m : Machine) (event : Event Reading) → AreSound m → LooksCommitted pairs (number_of event) m → IsUnseen pairs m event →
    SameApparentRowsForPairs pairs m.committed (after m event).committed × LooksCommitted pairs (number_of event) (after m event)

-- ---- tables of tenants

-- each row that passes the guard of SELECT for the users has for the others a value there that is not true
abbrev pub AreApart : Database → UserNames → UserNames → TableOf → Type 0
AreApart db users others t = (row : Row) → Passes (guard db users t action.Select using_clause) row → is_unmet (guard db others t action.Select using_clause row) ≡ true

-- where each policy of the table that is for one of them is FOR ALL without WITH CHECK, this is enough
abbrev pub apart_is_out_of_sight : Type 0
apart_is_out_of_sight = (db : Database) (users others : UserNames) (t : TableOf) → HasPoliciesForAll db users.current t.name → HasPoliciesForAll db others.current t.name → AreApart db users others t → IsOutOfSight db users others t

-- CREATE POLICY .. USING (c = current_user) is the one policy of the table
pub record IsOfTenants (db : Database) (t : TableOf) (c : ColumnName) : Type 0 where
  pub policy : Policy
  pub clause : PolicyClause
  pub only : filter (λ p. bytes_eq p.table t.name) db.policies ≡ policy ∷ []
  pub command : policy.command ≡ command.All
  pub check : policy.check ≡ None
  pub using : policy.using ≡ Some clause
  pub condition : clause.expression ≡ comparison Equal (column c) current_user

-- it puts the rows of one whom row security concerns out of the sight of each other one
abbrev pub tenants_are_out_of_sight : Type 0
tenants_are_out_of_sight = (db : Database) (users others : UserNames) (t : TableOf) (c : ColumnName) → IsOfTenants db t c →
    is_guarded db users.current t ≡ true → is_guarded db others.current t ≡ true → (users.current ≡ others.current → ⊥) → IsOutOfSight db users others t
