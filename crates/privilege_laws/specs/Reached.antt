-- Tables on which a tenant has no privilege: it is told the same, whatever rows they have.
use Rattle.std.specs.Prelude.{◌≡◌, Bool, true, false, Some, Ok}
use Rattle.sql_types.specs.declared.state.SqlState.{SqlState}
use Rattle.sql_types.specs.declared.state.SqlState.TheVariants.{LockNotAvailable, TooManyConnections}
use Rattle.sql_ast.specs.declared.statement.DatabaseStatement.TheVariants as on_database
use Rattle.sql_ast.specs.declared.statement.RowStatement.{RowStatement}
use Rattle.abstract_database.specs.Lists.{TheName}
use Rattle.abstract_database.specs.Database.{Database, rows_named, without_rows}
use Rattle.abstract_database.specs.Roles.{is_in as is_in_role}
use Rattle.abstract_database.specs.Privileges.{has_some_privilege}
use Rattle.abstract_database.specs.Statements.{Effect, UserPair, exec}
use Rattle.abstract_database.specs.Machine.{Event, Reading, Machine}
use Rattle.database_laws.specs.Sessions.{number_of}
use Rattle.database_laws.specs.HiddenRuns.{MayActAs, AreSound, answer_to, after}
use Rattle.database_laws.specs.Told.{Tenant, Act, happens, declares, restarts, OpensItsOwn, LeavesTenant}
use Rattle.database_laws.specs.OnePolicy.{target_of}
use Rattle.privilege_laws.specs.Related.{Relation, NothingTells, MachinesRelated, AreCrowdedAlike, RunsAreTold, PatternsTellAll, RunsPartWhereTold, RunsPartBehindOthers}

-- the tenant reaches the tables of a name: a role that it acts as, or one that such a role is in, has a privilege on the table or on a
-- column of it, by itself, by a membership or as PUBLIC; and a superuser has each
pub record IsReachedTable (pairs : UserPair → Bool) (db : Database) (name : TheName) : Type 0 where
  pub pair : UserPair
  pub acts : MayActAs db pairs pair
  pub role : TheName
  pub in_role : is_in_role db.memberships pair.current role ≡ true
  pub has : has_some_privilege db role name ≡ true

-- the same definitions, and the same rows in each table that the tenant reaches
pub record SameReachedRows (pairs : UserPair → Bool) (d e : Database) : Type 0 where
  pub definitions : without_rows d ≡ without_rows e
  pub rows : (name : TheName) → IsReachedTable pairs d name → rows_named d name ≡ rows_named e name

abbrev pub reached_by : Tenant → Relation
reached_by a = SameReachedRows a.pairs

-- each own event is answered the same by both machines, and leaves them so again, without exception: the tenant sets its own roles alone, and
-- what others hold or have open is the same
abbrev pub unreached_tables_tell_nothing : Type 0
unreached_tables_tell_nothing = (a : Tenant) (m k : Machine) (event : Event Reading) → MachinesRelated (reached_by a) a m k → AreSound m → AreSound k →
    a.sessions (number_of event) ≡ true → OpensItsOwn a m (happens event) → (LeavesTenant a (number_of event) m event → ⊥) → AreCrowdedAlike (number_of event) m k →
    (answer_to m event ≡ answer_to k event) × MachinesRelated (reached_by a) a (after m event) (after k event)

-- so it is in runs, with whatever events of others between them that keep to such tables
abbrev pub runs_beside_unreached_tables : Type 0
runs_beside_unreached_tables = RunsAreTold reached_by NothingTells

-- ---- patterns

-- the refusals that come of what others hold or have open: for the writer lock, and beside 256 sessions
abbrev pub is_of_crowds : SqlState → Bool
is_of_crowds LockNotAvailable = true
is_of_crowds TooManyConnections = true
is_of_crowds _ = false

-- the act sets no role that is none of the tenant's
abbrev pub KeepsItsRoles : Tenant → Machine → Act → Type 0
KeepsItsRoles a m (happens event) = a.sessions (number_of event) ≡ true → LeavesTenant a (number_of event) m event → ⊥
KeepsItsRoles a m (declares event) = Unit {0}
KeepsItsRoles a m restarts = Unit {0}

-- of a tenant that sets its own roles alone: where these refusals are the same, all of its answers are
abbrev pub crowds_tell_all : Type 0
crowds_tell_all = PatternsTellAll reached_by is_of_crowds KeepsItsRoles

-- ---- others that write to such tables

-- a statement over rows whose table the tenant does not reach leaves what it reaches
abbrev pub other_tables_are_out_of_sight : Type 0
other_tables_are_out_of_sight = (pairs : UserPair → Bool) (db : Database) (pair : UserPair) (x : RowStatement) (e : Effect) → exec db pair (on_database.OverRows x) ≡ Ok e →
    ((table : TheName) → target_of x ≡ Some table → IsReachedTable pairs db table → ⊥) → SameReachedRows pairs db e.database

-- ---- what the law of runs forbids

abbrev pub parts_beside_unreached_tables : Type 0
parts_beside_unreached_tables = RunsPartWhereTold reached_by NothingTells

abbrev pub parts_behind_others : Type 0
parts_behind_others = RunsPartBehindOthers reached_by NothingTells
