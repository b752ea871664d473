-- What each call on pages over a device does, by its answer.
use Rattle.std.specs.Prelude.{◌≡◌, ◌+◌, ◌-◌, ◌^◌, ◌<◌, ◌⊎◌, ℕ, List, Some, None, Result, Err, IsOk, IsSome, OnOk, MatchResult, true, false, slice_index}
use Rattle.sector_device.specs.Device.{DeviceState, KeepsHistory, KeepsSize, HasFailed, IsSynced}
use Rattle.sector_device.specs.Sectors.{HoldsSectors, WritesSectors}
use Rattle.sector_device.specs.declared.device.Device.{Ghosts}
use Rattle.page_roots.specs.declared.format.Format.{Format}
use Rattle.cow_pages.specs.declared.cow.CowPages.{CowPages}
use Rattle.cow_pages.specs.declared.open.OpenFault.{OpenFault}
use Rattle.cow_pages.specs.declared.open.OpenFault.TheVariants.{Device as DeviceFailed}
use Rattle.cow_pages.specs.declared.page_map.CommitFault.{CommitFault}
use Rattle.cow_pages.specs.declared.page_map.CommitFault.TheVariants.{Number, NoFirstPage, Full as NoRoom, Device as CommitFailed}
use Rattle.pages.specs.declared.array.PageFault.{PageFault}
use Rattle.pages.specs.declared.array.PageFault.TheVariants.{Full, Memory, Device, Malformed}
use Rattle.cow_pages.specs.Image.{Means, first_fault}
use Rattle.cow_pages.specs.Held.{KeepsContent, IsRecoverable}
use Rattle.cow_pages.specs.Opening.{IsNamedFor}
use Rattle.cow_pages.specs.DirtyPages.{dirty_bytes, HasRoom}
use Rattle.cow_pages.specs.Cow.{durable_array, working_array, IsDirty, HasDirtySpace, IsOpen, KeepsMemory, ChangesPage, IsRefused, IsFaulted, HasNoRoom, HasNoRoomForMaps}

-- once the device has failed the answer is this fault, and no device call is made
abbrev pub IsClosed : {D : Type 0} {g : Ghosts D} {T E : Type 0} → E → Result T E → CowPages D g → CowPages D g → Type 0
IsClosed fault result old new = old.has_failed ≡ true → (result ≡ Err fault) × (new.device ≡ old.device)

-- ---- open

-- what the device held is open: it has no fault, and both arrays are the one that it means
pub record HoldsContent {D : Type 0} {g : Ghosts D} (d : DeviceState) (p : CowPages D g) : Type 0 where
  pub no_fault : first_fault d.sectors d.content ≡ None
  pub means : Means p.map.root.pages p.map.root.format p.map.root.number (durable_array p) d.content
  pub is_open : IsOpen p
  pub content : KeepsContent d (g.state p.device)

pub record IsOpened {D : Type 0} {g : Ghosts D} (d : DeviceState) (p : CowPages D g) : Type 0 where
  pub history : KeepsHistory d (g.state p.device)
  pub has_not_failed : p.has_failed ≡ false
  pub same_maps : p.map.working.items ≡ p.map.durable.items
  pub same_arrays : (l : ℕ) → working_array p l ≡ durable_array p l
  pub space : HasDirtySpace p
  pub holds : d.faithful → HoldsContent d p

-- the device is handed back with its content, and the fault is one that stands in it, or that of a call
pub record CannotOpen (d : DeviceState) (fault : OpenFault) (e : DeviceState) : Type 0 where
  pub history : KeepsHistory d e
  pub cause : fault ≡ DeviceFailed → HasFailed d e
  pub content : d.faithful → KeepsContent d e
  pub named : d.faithful → IsNamedFor fault (first_fault d.sectors d.content)

abbrev pub Opens : {D : Type 0} {g : Ghosts D} → DeviceState → Result (CowPages D g) (D × OpenFault) → Type 0
Opens {D} {g} d result = MatchResult result (λ p. IsOpened d p) (λ e. CannotOpen d e.1 (g.state e.0))

-- ---- read

-- no page has changed, and no byte of the device
pub record OnlyReadsPages {D : Type 0} {g : Ghosts D} (old new : CowPages D g) : Type 0 where
  pub map : new.map ≡ old.map
  pub dirty : new.dirty ≡ old.dirty
  pub content : (g.state old.device).faithful → KeepsContent (g.state old.device) (g.state new.device)
  pub array : (g.state old.device).faithful → (l : ℕ) → working_array new l ≡ working_array old l

-- these are the bytes of the page
pub record IsRead {D : Type 0} {g : Ghosts D} (page : ℕ) (bytes : List ℕ) (old new : CowPages D g) : Type 0 where
  pub has_not_failed : new.has_failed ≡ false
  pub found : (g.state old.device).faithful → working_array old page ≡ Some bytes

-- the page is not in use, or the device failed
abbrev pub CannotRead : {D : Type 0} {g : Ghosts D} → ℕ → PageFault → CowPages D g → CowPages D g → Type 0
CannotRead page Full old new = ⊥
CannotRead page Memory old new = ⊥
CannotRead page Device old new = IsFaulted old new
CannotRead page Malformed old new = (working_array old page ≡ None) × (new.has_failed ≡ false)

abbrev pub ReadsPage : {D : Type 0} {g : Ghosts D} → ℕ → List ℕ → Result (Unit {0}) PageFault → CowPages D g → CowPages D g → Type 0
ReadsPage page bytes result old new = MatchResult result (λ _. IsRead page bytes old new) (λ fault. CannotRead page fault old new)

-- ---- write

-- the page has these bytes, in memory
pub record IsWritten {D : Type 0} {g : Ghosts D} (page : ℕ) (bytes : List ℕ) (old new : CowPages D g) : Type 0 where
  pub has_not_failed : new.has_failed ≡ false
  pub is_dirty : IsDirty page new
  pub changes : (g.state old.device).faithful → ChangesPage page (Some bytes) old new

-- the page has its durable physical page, and there is no other for it
pub record FindsNoRoom {D : Type 0} {g : Ghosts D} (page : ℕ) (old new : CowPages D g) : Type 0 where
  pub shared : slice_index old.map.working.items page ≡ slice_index old.map.durable.items page
  pub no_room : HasNoRoom old
  pub refused : IsRefused old new

abbrev pub CannotWrite : {D : Type 0} {g : Ghosts D} → ℕ → PageFault → CowPages D g → CowPages D g → Type 0
CannotWrite page Full old new = FindsNoRoom page old new
CannotWrite page Memory old new = ⊥
CannotWrite page Device old new = IsFaulted old new
CannotWrite page Malformed old new = (working_array old page ≡ None) × IsRefused old new

abbrev pub WritesPage : {D : Type 0} {g : Ghosts D} → ℕ → List ℕ → Result (Unit {0}) PageFault → CowPages D g → CowPages D g → Type 0
WritesPage page bytes result old new = MatchResult result
    (λ _. IsSome (working_array old page) × IsWritten page bytes old new) (λ fault. CannotWrite page fault old new)

-- ---- new_page

-- the number of a logical page that is not in use
abbrev pub IsUnused : {D : Type 0} {g : Ghosts D} → ℕ → CowPages D g → Type 0
IsUnused page p = (page < 65536) × (working_array p page ≡ None)

abbrev pub CannotTake : {D : Type 0} {g : Ghosts D} → PageFault → CowPages D g → CowPages D g → Type 0
CannotTake Full old new = HasNoRoom old × IsRefused old new
CannotTake Memory old new = ⊥
CannotTake Device old new = IsFaulted old new
CannotTake Malformed old new = ⊥

abbrev pub TakesPage : {D : Type 0} {g : Ghosts D} → List ℕ → Result ℕ PageFault → CowPages D g → CowPages D g → Type 0
TakesPage bytes result old new = MatchResult result
    (λ page. IsUnused page old × IsWritten page bytes old new) (λ fault. CannotTake fault old new)

-- ---- free_page

-- the page was in use, and is no more
pub record IsFreed {D : Type 0} {g : Ghosts D} (page : ℕ) (old new : CowPages D g) : Type 0 where
  pub has_not_failed : new.has_failed ≡ false
  pub used : IsSome (working_array old page)
  pub changes : ChangesPage page None old new

abbrev pub CannotFree : {D : Type 0} {g : Ghosts D} → ℕ → PageFault → CowPages D g → CowPages D g → Type 0
CannotFree page Full old new = ⊥
CannotFree page Memory old new = ⊥
CannotFree page Device old new = (old.has_failed ≡ true) × (new.has_failed ≡ true)
CannotFree page Malformed old new = (working_array old page ≡ None) × IsRefused old new

abbrev pub FreesPage : {D : Type 0} {g : Ghosts D} → ℕ → Result (Unit {0}) PageFault → CowPages D g → CowPages D g → Type 0
FreesPage page result old new = MatchResult result (λ _. IsFreed page old new) (λ fault. CannotFree page fault old new)

-- ---- abandon

-- the working array is the durable one, each logical page has its durable physical page, and there is room for dirty pages
pub record IsAbandoned {D : Type 0} {g : Ghosts D} (old new : CowPages D g) : Type 0 where
  pub device : new.device ≡ old.device
  pub has_failed : new.has_failed ≡ old.has_failed
  pub is_open : IsOpen old → IsOpen new
  pub array : (l : ℕ) → working_array new l ≡ durable_array old l
  pub same_maps : new.map.working.items ≡ new.map.durable.items
  pub space : HasDirtySpace new

-- ---- commit

-- either nothing was to be done, or the number is the next one
abbrev pub IsNumbered : {D : Type 0} {g : Ghosts D} → Format → CowPages D g → CowPages D g → Type 0
IsNumbered next old new = ((old.map.root.format ≡ next) × (old.map.working.items ≡ old.map.durable.items) × (new.device ≡ old.device) × (new.map.root ≡ old.map.root))
    ⊎ (new.map.root.number ≡ old.map.root.number + 1)

-- the working array has become the durable one, which alone a stop leaves from now on
pub record MakesDurable {D : Type 0} {g : Ghosts D} (next : Format) (old new : CowPages D g) : Type 0 where
  pub is_open : IsOpen new
  pub pages : new.map.root.pages ≡ old.map.root.pages
  pub numbered : IsNumbered next old new
  pub durable : (l : ℕ) → durable_array new l ≡ working_array old l
  pub working : (l : ℕ) → working_array new l ≡ working_array old l

-- the root is of the next format, the durable map is the one that was worked on, each logical page has its durable physical page, and there is room for
-- dirty pages
pub record IsCommitted {D : Type 0} {g : Ghosts D} (next : Format) (old new : CowPages D g) : Type 0 where
  pub has_not_failed : new.has_failed ≡ false
  pub format : new.map.root.format ≡ next
  pub map : new.map.durable.items ≡ old.map.working.items
  pub same_maps : new.map.working.items ≡ new.map.durable.items
  pub space : HasDirtySpace new
  pub durable : IsOpen old → MakesDurable next old new

-- the device failed: a stop leaves the durable array, which is as it was, or one of the next number
pub record IsBroken {D : Type 0} {g : Ghosts D} (old new : CowPages D g) : Type 0 where
  pub memory : KeepsMemory old new
  pub faulted : IsFaulted old new
  pub recoverable : IsOpen old → IsRecoverable (g.state new.device) old.map.root old.map.durable.items
  pub same : IsOpen old → (l : ℕ) → durable_array new l ≡ durable_array old l

abbrev pub CannotCommit : {D : Type 0} {g : Ghosts D} → CommitFault → CowPages D g → CowPages D g → Type 0
CannotCommit NoRoom old new = HasNoRoomForMaps old × IsRefused old new
CannotCommit Number old new = (old.map.root.number ≡ 2 ^ 64 - 1) × IsRefused old new
CannotCommit NoFirstPage old new = (working_array old 0 ≡ None) × IsRefused old new
CannotCommit CommitFailed old new = IsBroken old new

abbrev pub Commits : {D : Type 0} {g : Ghosts D} → Format → Result (Unit {0}) CommitFault → CowPages D g → CowPages D g → Type 0
Commits next result old new = MatchResult result (λ _. IsCommitted next old new) (λ fault. CannotCommit fault old new)

-- where the map and the format are the durable ones no device call is made, and without a failure before the commit succeeds
abbrev pub CommitsNothing : {D : Type 0} {g : Ghosts D} → Format → Result (Unit {0}) CommitFault → CowPages D g → CowPages D g → Type 0
CommitsNothing next result old new = old.map.root.format ≡ next → old.map.working.items ≡ old.map.durable.items
    → (new.device ≡ old.device) × (old.has_failed ≡ false → IsOk result)

-- ---- write_protected

-- each of these sectors is written by itself, and no other; where that is done they have these bytes, which alone a stop leaves
pub record WritesProtected {E : Type 0} (first : ℕ) (sectors : List (List ℕ)) (result : Result (Unit {0}) E) (old new : DeviceState) : Type 0 where
  pub size : KeepsSize old new
  pub writes : old.faithful → WritesSectors first sectors old new
  pub written : old.faithful → OnOk result (HoldsSectors first sectors new.content)
  pub synced : old.faithful → OnOk result (IsSynced new)

-- ---- within the calls that write

-- there is room in memory for this physical page
pub record MakesRoom {D : Type 0} {g : Ghosts D} (physical : ℕ) (old new : CowPages D g) : Type 0 where
  pub has_failed : new.has_failed ≡ old.has_failed
  pub room : HasRoom new.dirty physical
  pub array : (g.state old.device).faithful → (l : ℕ) → working_array new l ≡ working_array old l

-- each logical page with this physical page has these bytes, in memory
pub record PutsPage {D : Type 0} {g : Ghosts D} (physical : ℕ) (bytes : List ℕ) (old new : CowPages D g) : Type 0 where
  pub has_failed : new.has_failed ≡ old.has_failed
  pub is_dirty : IsSome (dirty_bytes new.dirty physical)
  pub here : (l : ℕ) → slice_index old.map.working.items l ≡ physical → working_array new l ≡ Some bytes
  pub others : (g.state old.device).faithful → (l : ℕ) → (slice_index old.map.working.items l ≡ physical → ⊥)
      → working_array new l ≡ working_array old l

-- the fault of a write is one of the device
abbrev pub FailsToWrite : {D : Type 0} {g : Ghosts D} → PageFault → CowPages D g → CowPages D g → Type 0
FailsToWrite fault old new = (fault ≡ Device) × IsFaulted old new
