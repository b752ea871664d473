-- What opening a server over a store comes to.
use Rattle.std.specs.Prelude.{◌≡◌, ◌⊎◌, ◌≤◌, ◌+◌, ◌^◌, ◌-◌, ℕ, Bool, true, Option, Result, Ok, Err}
use Rattle.sector_device.specs.Timeline.{LeavesOnly}
use Rattle.storage_sizes.specs.declared.record_format.RecordFormat.{RecordFormat}
use Rattle.storage_sizes.specs.declared.record_format.RecordFormat.TheVariants.{V1, V2}
use Rattle.store.specs.declared.fault.Fault.TheVariants as read
use Rattle.store.specs.Readers.{HasRead}
use Rattle.store.specs.Records.{Records}
use Rattle.store.specs.Store.{StoreState, Contents, Rose, HasDeviceCause}
use Rattle.abstract_database.specs.Database.{Database}
use Rattle.stored_database.specs.Definitions.{Definitions}
use Rattle.stored_database.specs.Records.{Shows}
use Rattle.stored_database.specs.BothRecordFormats.{Stands, Means}
use Rattle.recovery.specs.declared.fault.OpeningFault.{OpeningFault}
use Rattle.recovery.specs.declared.fault.OpeningFault.TheVariants.{Read, Commit}
pub use Rattle.recovery.specs.Migrated.{failed_after_opening, HasOpeningCause, KeepsDatabase}
use Rattle.server.specs.declared.server.Server.{Server}
use Rattle.server.specs.Standing.{Represents, at_start}
use Rattle.recovery.specs.declared.opening.Refused.{Refused}

-- the records stand for a database with these definitions
abbrev pub AreOfDatabase : Records → Definitions → Type 0
AreOfDatabase records d = (db : Database) × Shows records d db

-- the store: the server's, or the one that is handed back
abbrev pub store_of : {S X : Type 0} → Result (Server S X) (Refused S) → S
store_of (Ok server) = server.store
store_of (Err refused) = refused.store

-- whether a server was opened, or the fault alone
abbrev pub outcome_of : {S X : Type 0} → Result (Server S X) (Refused S) → Result (Unit {0}) OpeningFault
outcome_of (Ok server) = Ok tt
outcome_of (Err refused) = Err refused.fault

-- ---- what is written

-- contents of record format 1
abbrev pub AreOfFirst : Contents → Type 0
AreOfFirst contents = contents.record_format ≡ V1

-- the number of a store that was opened, by what it contained before: no commit was made, or, of contents of record format 1,
-- one at most
abbrev pub IsNumberAfter : RecordFormat → ℕ → ℕ → Type 0
IsNumberAfter V1 before number = (before ≤ number) × (number ≤ before + 1)
IsNumberAfter V2 before number = number ≡ before

-- records of record format 2 are only read, and so are those of record format 1 that stand for no database
abbrev pub OnlyLooks : RecordFormat → Result (Unit {0}) OpeningFault → Type 0
OnlyLooks V2 outcome = Unit {0}
OnlyLooks V1 (Ok x) = ⊥
OnlyLooks V1 (Err (Read read.Memory)) = ⊥
OnlyLooks V1 (Err (Read read.Device)) = ⊥
OnlyLooks V1 (Err (Read read.Damaged)) = Unit {0}
OnlyLooks V1 (Err (Commit fault)) = ⊥

-- reads, with this outcome, which is none of a commit
abbrev pub HasLooked : Result (Unit {0}) OpeningFault → StoreState → StoreState → Type 0
HasLooked (Ok x) old new = HasRead (Ok x) old new
HasLooked (Err (Read fault)) old new = HasRead {T = Unit {0}} (Err fault) old new
HasLooked (Err (Commit fault)) old new = ⊥

-- the server has just been opened over the database that these contents stand for, and its store is of record format 2
pub record IsOpened {S X : Type 0} (state : S → StoreState) (contents : Contents) (server : Server S X) : Type 0 where
  pub database : Database
  pub stands : Stands contents database
  pub second : (state server.store).record_format ≡ V2
  pub represents : Represents state server (at_start (state server.store) database)
