-- What privileges and policies hide together: the rows of tables that a tenant does not reach, and in the others rows that are silent to it.
use Rattle.std.specs.Prelude.{◌≡◌, Bool, Some}
use Rattle.abstract_database.specs.Database.{TableOf, Database, definition_named, without_rows}
use Rattle.abstract_database.specs.Statements.{UserPair, as_seen}
use Rattle.abstract_database.specs.Machine.{Machine}
use Rattle.database_laws.specs.Worlds.{apparent_rows}
use Rattle.database_laws.specs.HiddenRuns.{MayActAs, SameApparentRowsForPairs, IsException}
use Rattle.database_laws.specs.Told.{Tenant, IsAlikeTo}
use Rattle.database_laws.specs.Patterns.{is_listed, TellsListedOnly}
use Rattle.privilege_laws.specs.Related.{Relation, MachinesRelated, RunsAreTold, PatternsTellAll, RunsPartWhereTold}
use Rattle.privilege_laws.specs.Reached.{IsReachedTable, SameReachedRows, reached_by}

-- the same definitions, and in each table that the tenant reaches, to each pair that it acts as, the same rows that say something
pub record SameShownRows (pairs : UserPair → Bool) (d e : Database) : Type 0 where
  pub definitions : without_rows d ≡ without_rows e
  pub rows : (pair : UserPair) → MayActAs d pairs pair → (t : TableOf) → definition_named d t.name ≡ Some t → IsReachedTable pairs d t.name → apparent_rows d (as_seen pair d) t ≡ apparent_rows e (as_seen pair d) t

abbrev pub shown_to : Tenant → Relation
shown_to a = SameShownRows a.pairs

-- so look databases that differ in tables that it does not reach, and databases that look alike to it
abbrev pub reached_rows_are_shown : Type 0
reached_rows_are_shown = (pairs : UserPair → Bool) (d e : Database) → SameReachedRows pairs d e → SameShownRows pairs d e

abbrev pub apparent_rows_are_shown : Type 0
apparent_rows_are_shown = (pairs : UserPair → Bool) (d e : Database) → SameApparentRowsForPairs pairs d e → SameShownRows pairs d e

-- and machines of them
abbrev pub reached_machines_are_shown : Type 0
reached_machines_are_shown = (a : Tenant) (m k : Machine) → MachinesRelated (reached_by a) a m k → MachinesRelated (shown_to a) a m k

abbrev pub alike_machines_are_shown : Type 0
alike_machines_are_shown = (a : Tenant) (m k : Machine) → IsAlikeTo a m k → MachinesRelated (shown_to a) a m k

-- runs are told alike, up to the exceptions of hidden rows
abbrev pub runs_over_shown_rows : Type 0
runs_over_shown_rows = RunsAreTold shown_to IsException

-- and what that forbids
abbrev pub parts_over_shown_rows : Type 0
parts_over_shown_rows = RunsPartWhereTold shown_to IsException

-- and where its listed refusals are the same, and it makes no event of its own that tells without one, all of its answers are
abbrev pub patterns_tell_all_that_is_shown : Type 0
patterns_tell_all_that_is_shown = PatternsTellAll shown_to is_listed TellsListedOnly
