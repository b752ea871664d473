-- Databases stay whole: from a new one on, through each statement and each event.
use Rattle.std.specs.Prelude.{◌≡◌, Result, Ok, Err, ◌⊎◌}
use Rattle.sql_types.specs.Name.{IsUtf8Name}
use Rattle.sql_types.specs.declared.state.SqlState.{SqlState}
use Rattle.sql_ast.specs.Read.{IsReadInsert, IsReadUpdate, IsReadDelete, IsReadSelect}
use Rattle.sql_ast.specs.Defining.{IsReadDefining}
use Rattle.sql_ast.specs.Statements.{IsReadOnDatabase, IsRead, clauses_on_database}
use Rattle.sql_ast.specs.declared.statement.DatabaseStatement.{DatabaseStatement}
use Rattle.sql_ast.specs.declared.policy.PolicyClause.{PolicyClause}
use Rattle.expressions.specs.Meaning.{UserNames}
use Rattle.abstract_database.specs.Lists.{TheName, Among}
use Rattle.abstract_database.specs.Database.{Database, new_database}
use Rattle.abstract_database.specs.Statements.{Effect, UserPair, as_seen, define, insert, update, delete, select, exec}
use Rattle.abstract_database.specs.Machine.{Event, opens, executes, closes, Reading, Machine, transition}
use Rattle.abstract_database.specs.Whole.{IsWhole, AreRolesOf, clauses_of}
use Rattle.database_laws.specs.Invariants.{HoldsOfHolder, IsSound}

-- a new database is whole
abbrev pub new_databases_are_whole : Type 0
new_databases_are_whole = (admin : TheName) → IsUtf8Name admin → IsWhole (new_database admin)

-- a whole database is sound: its columns are typed, its rows in key order with distinct keys, and no null where none may be
abbrev pub whole_databases_are_sound : Type 0
whole_databases_are_sound = (db : Database) → IsWhole db → IsSound db

-- a statement that a text may be read as, executed for roles of a whole database, leaves a whole database
abbrev pub KeepsWhole : {S : Type 0} → (S → Type 0) → (Database → UserNames → S → Result Effect SqlState) → Type 0
KeepsWhole {S} MayBeRead run =
    (db : Database) (users : UserNames) (s : S) (e : Effect) → MayBeRead s → IsWhole db → AreRolesOf db users → run db users s ≡ Ok e → IsWhole e.database

-- ---- statements that define

abbrev pub each_definition_keeps_whole : Type 0
each_definition_keeps_whole = KeepsWhole IsReadDefining define

-- ---- rows

abbrev pub insert_keeps_whole : Type 0
insert_keeps_whole = KeepsWhole IsReadInsert insert

abbrev pub update_keeps_whole : Type 0
update_keeps_whole = KeepsWhole IsReadUpdate update

abbrev pub delete_keeps_whole : Type 0
delete_keeps_whole = KeepsWhole IsReadDelete delete

abbrev pub select_keeps_whole : Type 0
select_keeps_whole = KeepsWhole IsReadSelect select

-- ---- all statements, and events

abbrev pub each_statement_keeps_whole : Type 0
each_statement_keeps_whole = (db : Database) (pair : UserPair) (x : DatabaseStatement) (e : Effect) → IsReadOnDatabase x → IsWhole db → AreRolesOf db (as_seen pair db) → exec db pair x ≡ Ok e → IsWhole e.database

-- the statement of an event, if it has one, is one that a text may be read as
abbrev pub IsReadReading : Reading → Type 0
IsReadReading (Ok x) = IsRead x
IsReadReading (Err code) = Unit {0}

abbrev pub IsReadEvent : Event Reading → Type 0
IsReadEvent (opens number login) = Unit {0}
IsReadEvent (executes number reading) = IsReadReading reading
IsReadEvent (closes number) = Unit {0}

-- the committed database and the holder's stay whole
abbrev pub whole_for_ever : Type 0
whole_for_ever = (m : Machine) (event : Event Reading) → IsReadEvent event → IsWhole m.committed → HoldsOfHolder IsWhole m.holder →
    IsWhole (transition m event).machine.committed × HoldsOfHolder IsWhole (transition m event).machine.holder

-- ---- texts of policies

-- a condition of a policy was one before the statement, or is one of the policy that the statement makes
abbrev pub conditions_come_from_statements : Type 0
conditions_come_from_statements = (db : Database) (pair : UserPair) (x : DatabaseStatement) (e : Effect) → exec db pair x ≡ Ok e →
    (c : PolicyClause) → Among c (clauses_of e.database) → Among c (clauses_of db) ⊎ Among c (clauses_on_database x)
