-- What the commit of a batch does, by its answer.
use Rattle.std.specs.Prelude.{◌≡◌, ◌≢◌, ◌≤◌, ◌+◌, ◌-◌, ◌*◌, ◌^◌, ◌⊎◌, ℕ, true, List, [], ◌∷◌, ◌++◌, Option, Result, MatchResult, IfErr}
use Rattle.sector_device.specs.Device.{HasFailed}
use Rattle.sector_device.specs.declared.device.Device.{Ghosts}
use Rattle.page_roots.specs.declared.format.Format.{Format}
use Rattle.pages.specs.declared.array.PageFault.{PageFault}
use Rattle.pages.specs.declared.array.PageFault.TheVariants.{Full as NoPage}
use Rattle.cow_pages.specs.declared.cow.CowPages.{CowPages}
use Rattle.cow_pages.specs.Cow.{device_below, root_of, has_failed, durable_array, working_array, durable_map, working_map, IsOpen, LeavesBeforeOrAfter, HasFewerFree, HasNoRoomForMaps}
use Rattle.cow_pages.specs.Calls.{IsCommitted}
use Rattle.cow_pages.specs.Preserved.{IsPreserved, FailedWith}
use Rattle.cow_pages.specs.Free.{HasFreePages}
use Rattle.cow_pages.specs.Used.{grown}
use Rattle.page_tree.specs.Forest.{Represents}
use Rattle.page_tree.specs.Calls.{IsCaused}
use Rattle.store.specs.Records.{Records, Changes, changed}
use Rattle.store.specs.Store.{Contents}
use Rattle.store.specs.declared.fault.StoreFault.{StoreFault}
use Rattle.store.specs.declared.fault.StoreFault.TheVariants.{Full, Memory, Device, Number}
use Rattle.kv_store.specs.declared.reserve.Reserve.{Reserve}
use Rattle.kv_store.specs.declared.reserve.Reserve.TheVariants.{Kept, Open}
use Rattle.kv_store.specs.Contents.{HoldsContents, LeavesContents, is_journaled}
use Rattle.kv_store.specs.Reserve.{TakesReserve, KeepsReserve}

-- the records after these changes, the first of them first
abbrev pub applied_in_turn : Changes → Records → Records
applied_in_turn [] records = records
applied_in_turn (c ∷ cs) records = applied_in_turn cs (changed c.0 c.1 records)

-- the working array gets these changes, in turn
abbrev pub MakesChanges : {D : Type 0} {g : Ghosts D} → Changes → Result (Unit {0}) PageFault → CowPages D g → CowPages D g → Type 0
MakesChanges changes result old new =
    (device_below old).faithful → (records : Records) → Represents records (working_array old)
    → MatchResult result (λ _. (device_below new).faithful × Represents (applied_in_turn changes records) (working_array new))
    (λ fault. IsCaused (λ f. FailedWith old new f) fault)

-- the root and the durable array are as they were
pub record KeepsDurable {D : Type 0} {g : Ghosts D} (old new : CowPages D g) : Type 0 where
  pub root : root_of new ≡ root_of old
  pub same : (l : ℕ) → durable_array new l ≡ durable_array old l

-- nothing was written, and the working array is the durable one
pub record IsGivenUp {D : Type 0} {g : Ghosts D} (old new : CowPages D g) : Type 0 where
  pub device : new.device ≡ old.device
  pub is_open : IsOpen new
  pub keeps : KeepsDurable old new
  pub working : (l : ℕ) → working_array new l ≡ durable_array new l

-- the device failed now
pub record IsLost {D : Type 0} {g : Ghosts D} (old new : CowPages D g) : Type 0 where
  pub has_failed : has_failed new ≡ true
  pub cause : HasFailed (device_below old) (device_below new)
  pub keeps : KeepsDurable old new

-- why the working array was not made durable, and that it is given up
abbrev pub CannotFinish : {D : Type 0} {g : Ghosts D} → StoreFault → CowPages D g → CowPages D g → Type 0
CannotFinish Full old new = HasNoRoomForMaps old × IsGivenUp old new
CannotFinish Memory old new = ⊥
CannotFinish Device old new = IsLost old new
CannotFinish Number old new = ((root_of old).number ≡ 2 ^ 64 - 1) × IsGivenUp old new

-- the working array is made durable, in the next format, or given up
pub record Finishes {D : Type 0} {g : Ghosts D} (next : Format) (result : Result (Unit {0}) StoreFault) (old new : CowPages D g) : Type 0 where
  pub leaves : LeavesBeforeOrAfter next old new
  pub outcome : MatchResult result (λ _. IsCommitted next old new) (λ fault. CannotFinish fault old new)

-- These are the contents now, and the root says of a journal what it said. Its number has risen by one at most: by exactly one
-- where the contents changed. The reserve is free where it was to be kept and more pages are in use.
pub record IsBatchCommitted {D : Type 0} {g : Ghosts D} (reserve : Reserve) (before after : Contents) (old new : CowPages D g) : Type 0 where
  pub holds : HoldsContents after new
  pub pages : (root_of new).pages ≡ (root_of old).pages
  pub kind : is_journaled new ≡ is_journaled old
  pub not_back : (root_of old).number ≤ (root_of new).number
  pub by_one : (root_of new).number ≤ (root_of old).number + 1
  pub rises : before ≢ after → (root_of new).number ≡ (root_of old).number + 1
  pub spares : KeepsReserve reserve old new

-- nothing is committed: a stop leaves the contents as they were, and the pages hold them under the same root
pub record IsTakenBack {D : Type 0} {g : Ghosts D} (before : Contents) (old new : CowPages D g) : Type 0 where
  pub holds : HoldsContents before new
  pub leaves : LeavesContents before before old new
  pub root : root_of new ≡ root_of old

-- what a change of a tree of this depth may take: for each level a page and one beside it, and a new root
abbrev pub most_taken : ℕ → ℕ
most_taken depth = 2 * (depth + 1) + 1

-- Since the old state the first of these changes were made, so that the pages held these records and no page besides, and
-- fewer pages were free than the next change may take.
pub record LacksRoom {D : Type 0} {g : Ghosts D} (changes : Changes) (records : Records) (old : CowPages D g) : Type 0 where
  pub mid : CowPages D g
  pub preserved : IsPreserved old mid
  pub made : Changes
  pub next : List ℕ × Option (List ℕ)
  pub rest : Changes
  pub whole : changes ≡ made ++ (next ∷ rest)
  pub holds : Represents (applied_in_turn made records) (working_array mid)
  pub few : HasFewerFree (most_taken holds.is_tree.depth) mid

-- All of them were made, and fewer pages were free than map pages had to be written.
pub record LacksRoomForMaps {D : Type 0} {g : Ghosts D} (changes : Changes) (records : Records) (old : CowPages D g) : Type 0 where
  pub mid : CowPages D g
  pub preserved : IsPreserved old mid
  pub holds : Represents (applied_in_turn changes records) (working_array mid)
  pub few : HasNoRoomForMaps mid

-- All of them were made, and more pages were in use than before: so many that some of the reserve was taken.
pub record LacksReserve {D : Type 0} {g : Ghosts D} (changes : Changes) (records : Records) (old : CowPages D g) : Type 0 where
  pub mid : CowPages D g
  pub preserved : IsPreserved old mid
  pub holds : Represents (applied_in_turn changes records) (working_array mid)
  pub free : ℕ
  pub free_is : HasFreePages free old
  pub takes : TakesReserve (root_of old).pages free (grown (durable_map mid) (working_map mid))

-- too few pages were free for the changes, or for the map of what they made, or beside them for a reserve that was to be kept
abbrev pub HadNoRoom : {D : Type 0} {g : Ghosts D} → Reserve → Changes → Records → CowPages D g → Type 0
HadNoRoom Kept changes records old = LacksRoom changes records old ⊎ (LacksRoomForMaps changes records old ⊎ LacksReserve changes records old)
HadNoRoom Open changes records old = LacksRoom changes records old ⊎ LacksRoomForMaps changes records old

-- where changes of the working array find no page left, too few were free for one of them
abbrev pub IsFullFor : {D : Type 0} {g : Ghosts D} → Changes → Result (Unit {0}) PageFault → CowPages D g → Type 0
IsFullFor changes result old =
    (device_below old).faithful → (records : Records) → Represents records (working_array old)
    → IfErr result (λ fault. fault ≡ NoPage → LacksRoom changes records old)

abbrev pub CannotCommitBatch : {D : Type 0} {g : Ghosts D} → Reserve → StoreFault → Changes → Contents → CowPages D g → CowPages D g → Type 0
CannotCommitBatch reserve Full changes before old new = HadNoRoom reserve changes before.records old × IsTakenBack before old new
CannotCommitBatch reserve Memory changes before old new = IsTakenBack before old new
CannotCommitBatch reserve Device changes before old new = IsLost old new
CannotCommitBatch reserve Number changes before old new = ((root_of old).number ≡ 2 ^ 64 - 1) × IsTakenBack before old new

-- all of these changes are committed or nothing of them, whenever a stop comes
pub record CommitsBatch {D : Type 0} {g : Ghosts D} (reserve : Reserve) (changes : Changes) (result : Result (Unit {0}) StoreFault) (before after : Contents) (old new : CowPages D g) : Type 0 where
  pub leaves : LeavesContents before after old new
  pub outcome : MatchResult result (λ _. IsBatchCommitted reserve before after old new) (λ fault. CannotCommitBatch reserve fault changes before old new)
