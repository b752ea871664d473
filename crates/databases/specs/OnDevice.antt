-- Lives of a database on a device.
use Rattle.std.specs.Prelude.{◌≡◌, ◌⊎◌, ◌≤◌, ◌^◌, ◌-◌, ℕ, false, ◌/◌, List, ◌++◌, Option, Result, Ok, Err}
use Rattle.sector_device.specs.Timeline.{LeavesOnly}
use Rattle.sector_device.specs.Device.{DeviceState, HasFailed}
use Rattle.sector_device.specs.declared.device.Device.{Ghosts}
use Rattle.sql_types.specs.declared.answer.Answer.{Answer}
use Rattle.store.specs.Store.{Contents}
use Rattle.cow_pages.specs.declared.open.OpenFault.{OpenFault}
use Rattle.cow_pages.specs.declared.open.OpenFault.TheVariants as pages
use Rattle.store.specs.declared.fault.Fault.TheVariants as read
use Rattle.store.specs.declared.fault.StoreFault.TheVariants as commit
use Rattle.cow_pages.specs.Image.{is_size}
use Rattle.cow_pages.specs.Held.{KeepsContent}
use Rattle.journal_store.specs.declared.device_stores.DeviceStore.{DeviceStore}
pub use Rattle.journal_store.specs.DeviceImages.{HasContents, records_on}
use Rattle.journal_store.specs.DeviceOpening.{IsNamedFor}
use Rattle.journal_store.specs.DeviceStores.{device_of, store_state}
use Rattle.abstract_database.specs.Database.{Database}
use Rattle.abstract_database.specs.Runs.{ReadingRelation, Standing, At}
use Rattle.server.specs.Standing.{Stands, Means}
use Rattle.recovery.specs.declared.fault.OpeningFault.{OpeningFault}
use Rattle.recovery.specs.declared.fault.OpeningFault.TheVariants.{Read, Commit}
use Rattle.recovery.specs.Openings.{AreOfFirst, IsNumberAfter, OnlyLooks}
use Rattle.databases.specs.declared.fault.DatabaseFault.{DatabaseFault}
use Rattle.databases.specs.declared.fault.DatabaseFault.TheVariants.{Pages, Records}
use Rattle.databases.specs.Lives.{ClientEvent, LeavesFound, IsLife, IsNoLife, IsServed}

-- the fault says that the device failed
abbrev pub IsOfDevice : DatabaseFault → Type 0
IsOfDevice (Pages pages.Device) = Unit {0}
IsOfDevice (Records (Read read.Device)) = Unit {0}
IsOfDevice (Records (Commit commit.Device)) = Unit {0}
IsOfDevice fault = ⊥

-- what a life over a store came to, as of a life on a device
abbrev pub life_result_of : Result (Unit {0}) OpeningFault → Result (Unit {0}) DatabaseFault
life_result_of (Ok x) = Ok x
life_result_of (Err why) = Err (Records why)

-- ---- a life on a device

-- the number of the last commit to a device: that of what its content stands for
abbrev pub IsNumberOf : DeviceState → ℕ → Type 0
IsNumberOf d number = (contents : Contents) × (has : HasContents (d.sectors / 8) contents d.content) × (number ≡ has.number)

-- the number before the first event: that of what the content stands for; where that is of record format 1, the next at most
abbrev pub IsFirstNumberOf : DeviceState → ℕ → Type 0
IsFirstNumberOf d number = (contents : Contents) × (has : HasContents (d.sectors / 8) contents d.content) × IsNumberAfter contents.record_format has.number number

-- what the content stands for is of record format 1
abbrev pub HoldsRecordFormat1 : DeviceState → Type 0
HoldsRecordFormat1 d = (contents : Contents) × HasContents (d.sectors / 8) contents d.content × AreOfFirst contents

-- What is known of the counts before the first event and after the last. The numbers are those of the content that the device
-- had and, unless the machine has stopped, of the one that it has now; the device itself counts its failures. How often the
-- store was full nobody can see once it is closed.
pub record AreCountedOn (old new : DeviceState) (begin end : At) : Type 0 where
  pub first_number : IsFirstNumberOf old begin.counts.number
  pub first_faults : old.failures ≤ begin.counts.faults
  pub last_number : end.standing.machine.stopped ≡ false → IsNumberOf new end.counts.number
  pub last_faults : end.counts.faults ≡ new.failures

-- a life by what a device leaves and by what is known of the counts
abbrev pub IsLifeOn : ReadingRelation → Standing → List ClientEvent → List Answer → List ℕ → DeviceState → DeviceState → Type 0
IsLifeOn Reads last events told moments old new = (life : IsLife Reads last events told moments (records_on old) (records_on new)) × AreCountedOn old new life.begin life.end

-- a server over a store on the device made a step for each of the events, at its moment by the store's clock, and this is the device then
pub record IsServedOn {D : Type 0} (g : Ghosts D) (X : Type 0) (Reads : ReadingRelation) (begin : At) (events : List ClientEvent) (told : List Answer) (moments : List ℕ) (new : D) : Type 0 where
  pub store : DeviceStore D g
  pub served : IsServed X Reads store_state begin events told moments store
  pub device : new ≡ device_of store

-- A life was lived by a server, and its answers, each given at its moment, were added; or none was lived, for want of memory, for the
-- device, or for its size, or since contents of record format 1 were not committed in record format 2.
abbrev pub LivesOn : {D : Type 0} (g : Ghosts D) (X : Type 0) → ReadingRelation → Standing → List ClientEvent → List Answer → List Answer → D → D → Result (Unit {0}) DatabaseFault → Type 0
LivesOn g X Reads last events before after old new (Ok x) = (told : List Answer) × (moments : List ℕ) × (after ≡ before ++ told)
    × ((is : IsLifeOn Reads last events told moments (g.state old) (g.state new)) × IsServedOn g X Reads is.0.begin events told moments new)
LivesOn g X Reads last events before after old new (Err (Pages pages.Memory)) = (after ≡ before) × IsNoLife last (records_on (g.state old)) (records_on (g.state new))
LivesOn g X Reads last events before after old new (Err (Pages pages.Device)) = (after ≡ before) × IsNoLife last (records_on (g.state old)) (records_on (g.state new))
LivesOn g X Reads last events before after old new (Err (Pages pages.WrongSize)) =
    (is_size (g.state old).sectors ≡ false) × (after ≡ before) × IsNoLife last (records_on (g.state old)) (records_on (g.state new))
LivesOn g X Reads last events before after old new (Err (Pages pages.NotADatabase)) = ⊥
LivesOn g X Reads last events before after old new (Err (Pages (pages.NewerFormat format))) = ⊥
LivesOn g X Reads last events before after old new (Err (Pages pages.Damaged)) = ⊥
LivesOn g X Reads last events before after old new (Err (Records (Read read.Memory))) = (after ≡ before) × IsNoLife last (records_on (g.state old)) (records_on (g.state new))
LivesOn g X Reads last events before after old new (Err (Records (Read read.Device))) = (after ≡ before) × IsNoLife last (records_on (g.state old)) (records_on (g.state new))
LivesOn g X Reads last events before after old new (Err (Records (Read read.Damaged))) = ⊥
LivesOn g X Reads last events before after old new (Err (Records (Commit fault))) =
    HoldsRecordFormat1 (g.state old) × (after ≡ before) × IsNoLife last (records_on (g.state old)) (records_on (g.state new))

-- what a life on a faithful device promises: it goes on from wherever the last one may have left the device
abbrev pub PromisesLife : {D : Type 0} (g : Ghosts D) (X : Type 0) → ReadingRelation → List ClientEvent → List Answer → List Answer → D → D → Result (Unit {0}) DatabaseFault → Type 0
PromisesLife g X Reads events before after old new result =
    (g.state old).faithful → (last : Standing) → LeavesFound last (records_on (g.state old)) → LivesOn g X Reads last events before after old new result

-- ---- no life, whatever the device held

-- No store was opened, and nothing was written: the fault is the first that stands in the content, or that of a call.
pub record IsNotOpened (fault : DatabaseFault) (old new : DeviceState) : Type 0 where
  pub why : OpenFault
  pub told : fault ≡ Pages why
  pub named : IsNamedFor why old
  pub content : KeepsContent old new

-- why no life began over these contents, which have this number
abbrev pub AreRefused : OpeningFault → Contents → ℕ → Type 0
AreRefused (Read read.Memory) contents number = Unit {0}
AreRefused (Read read.Device) contents number = Unit {0}
AreRefused (Read read.Damaged) contents number = (db : Database) → Stands contents db → ⊥
AreRefused (Commit commit.Number) contents number = AreOfFirst contents × (number ≡ 2 ^ 64 - 1)
AreRefused (Commit fault) contents number = AreOfFirst contents

-- nothing was written: each sector has its content, and a stop leaves contents that it might have left before, and no others
pub record IsOnlyRead (old new : DeviceState) : Type 0 where
  pub content : KeepsContent old new
  pub leaves : LeavesOnly (records_on old).left (records_on old) (records_on new)

-- a stop leaves this database, or, while the contents are still read, what it might have left before
pub record LeavesDatabase (db : Database) (old new : DeviceState) : Type 0 where
  pub during : LeavesOnly (λ x. (records_on old).left x ⊎ Means x db) (records_on old) (records_on new)
  pub now : (x : Option Contents) → (records_on new).left x → Means x db

-- A store was opened, and no life began over its contents. Of record format 2 they were only read, and so were those that
-- stand for no database; others may have been spelled in the second by then, but are those of the same database.
pub record IsNotBegun (fault : DatabaseFault) (old new : DeviceState) : Type 0 where
  pub why : OpeningFault
  pub told : fault ≡ Records why
  pub contents : Contents
  pub has : HasContents (old.sectors / 8) contents old.content
  pub refused : AreRefused why contents has.number
  pub looked : OnlyLooks contents.record_format (Err why) → IsOnlyRead old new
  pub same : (db : Database) → Stands contents db → LeavesDatabase db old new

-- no life began: no store was opened, or a store was, and no life began over its contents; for the device only where it failed
pub record IsRefusedOn (fault : DatabaseFault) (old new : DeviceState) : Type 0 where
  pub cause : IsOfDevice fault → HasFailed old new
  pub outcome : IsNotOpened fault old new ⊎ IsNotBegun fault old new
