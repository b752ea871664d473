-- Laws of databases, through each event of each session.
use Rattle.std.specs.Prelude.{◌≡◌, Option, Some, None, Ok}
use Rattle.sql_ast.specs.declared.statement.DatabaseStatement.{DatabaseStatement}
use Rattle.abstract_database.specs.Database.{Database}
use Rattle.abstract_database.specs.Whole.{IsInOrder}
use Rattle.abstract_database.specs.Statements.{Effect, UserPair, exec}
use Rattle.abstract_database.specs.Machine.{Event, Reading, Machine, Holder, transition}
use Rattle.database_laws.specs.Tables.{EachTable, HasDistinctKeys, KeepsNotNull, IsTyped}
use Rattle.abstract_database.specs.Changes.{IsInKeyOrder}

-- ---- machines

-- a fact about databases that each statement keeps
abbrev pub IsStatementInvariant : (Database → Type 0) → Type 0
IsStatementInvariant Q = (db : Database) (pair : UserPair) (x : DatabaseStatement) (e : Effect) → exec db pair x ≡ Ok e → Q db → Q e.database

abbrev pub HoldsOfHolder : (Database → Type 0) → Option Holder → Type 0
HoldsOfHolder Q None = Unit {0}
HoldsOfHolder Q (Some h) = Q h.database

-- what each statement keeps is kept by each event, of the committed database and of the holder's
abbrev pub IsEventInvariant : (Database → Type 0) → Type 0
IsEventInvariant Q = (m : Machine) (event : Event Reading) → Q m.committed → HoldsOfHolder Q m.holder → Q (transition m event).machine.committed × HoldsOfHolder Q (transition m event).machine.holder

-- the columns are typed, rows in key order with distinct keys, and no null where none may be
abbrev pub IsSound : Database → Type 0
IsSound db = EachTable IsTyped db × EachTable IsInKeyOrder db × EachTable HasDistinctKeys db × EachTable KeepsNotNull db

abbrev pub sound_for_ever : Type 0
sound_for_ever = IsEventInvariant IsSound

abbrev pub in_order_for_ever : Type 0
in_order_for_ever = IsEventInvariant IsInOrder
