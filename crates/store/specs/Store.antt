-- What a store is to the code above it, and what its calls do.
use Rattle.std.specs.Prelude.{◌<◌, ◌≡◌, ◌⊎◌, ℕ, ◌+◌, ◌≤◌, ◌^◌, ◌-◌, Option, Some, Bool, true, false, Result, Ok, Err, IfOk, IfErr}
use Rattle.storage_sizes.specs.declared.record_format.RecordFormat.{RecordFormat}
use Rattle.sector_device.specs.Timeline.{Timeline, LeavesOnly}
use Rattle.store.specs.Records.{Record, Records, IsFound}
use Rattle.store.specs.declared.fault.StoreFault.{StoreFault}
use Rattle.store.specs.declared.fault.StoreFault.TheVariants.{Full, Memory, Device, Number}

-- what a store contains: records, and how they are spelled
pub record Contents : Type 0 where
  pub record_format : RecordFormat
  pub records : Records

-- A store at one moment.
pub record StoreState : Type 1 where
  -- the device below is faithful and holds what this store left there
  pub sound : Type 0
  -- it has answered Device
  pub has_failed : Bool
  -- from then on it answers nothing else: so does every store, but no view of one, which answers some reads from its changes
  pub closes : Type 0
  -- its records
  pub map : Records
  -- how they are spelled
  pub record_format : RecordFormat
  -- the number of its last commit
  pub number : ℕ
  -- how often a commit found no room, up to 2 ^ 64 - 1
  pub fulls : ℕ
  -- how often the device failed or gave what no store wrote, up to 2 ^ 64 - 1
  pub failures : ℕ
  -- how often the device itself has failed, which it counts
  pub faults : ℕ
  -- what stops leave over time: contents, or None where what is left stands for none
  pub time : Timeline (Option Contents)

-- what a store contains now
abbrev pub stored : StoreState → Contents
stored s = record { record_format = s.record_format; records = s.map }

-- a count rose in the call, or stood at its end
abbrev pub Rose : ℕ → ℕ → Type 0
Rose old new = (old < new) ⊎ (old ≡ 2 ^ 64 - 1)

-- why Device is answered: it was answered before, or the store counted a failure; over a sound store the device counted one, too
pub record HasDeviceCause (old new : StoreState) : Type 0 where
  pub counted : (old.has_failed ≡ true) ⊎ Rose old.failures new.failures
  pub fault : old.sound → (old.has_failed ≡ true) ⊎ Rose old.faults new.faults

-- why a commit answers a fault: an allocation may always fail
abbrev pub HasCause : StoreFault → StoreState → StoreState → Type 0
HasCause Full old new = Rose old.fulls new.fulls
HasCause Memory old new = Unit {0}
HasCause Device old new = HasDeviceCause old new
HasCause Number old new = old.number ≡ 2 ^ 64 - 1

-- why a read answers a fault, which is Memory or Device
abbrev pub HasReadCause : StoreFault → StoreState → StoreState → Type 0
HasReadCause Full old new = ⊥
HasReadCause Memory old new = Unit {0}
HasReadCause Device old new = HasDeviceCause old new
HasReadCause Number old new = ⊥

-- what no call takes back, whether the store is sound or not
pub record KeepsHistory (old new : StoreState) : Type 0 where
  pub sound : old.sound → new.sound
  pub fulls : old.fulls ≤ new.fulls
  pub failures : old.failures ≤ new.failures
  pub faults : old.faults ≤ new.faults

-- nothing is committed
pub record IsUnchanged (old new : StoreState) : Type 0 where
  pub map : new.map ≡ old.map
  pub record_format : new.record_format ≡ old.record_format
  pub number : new.number ≡ old.number

-- any number of reads, one after the other, whatever they answer
pub record OnlyReads (old new : StoreState) : Type 0 where
  pub history : KeepsHistory old new
  pub unchanged : old.sound → IsUnchanged old new
  -- a stop leaves what it might have left before
  pub leaves : old.sound → LeavesOnly old.time.left old.time new.time

-- whether a store has failed after this answer: an answer Device stays, and no other sets it
abbrev pub failed_after : {T : Type 0} → Result T StoreFault → Bool → Bool
failed_after (Ok x) had_failed = had_failed
failed_after (Err Full) had_failed = had_failed
failed_after (Err Memory) had_failed = had_failed
failed_after (Err Device) had_failed = true
failed_after (Err Number) had_failed = had_failed

-- a read of an entry, whatever it answers
pub record Reads (entry : Option Record) (result : Result Bool StoreFault) (out : Record) (old new : StoreState) : Type 0 where
  pub only_reads : OnlyReads old new
  -- yes, and `out` is the entry; or no, and there is none
  pub found : old.sound → IfOk result (λ found. IsFound found out entry)
  pub cause : IfErr result (λ fault. HasReadCause fault old new)
  pub failed : new.has_failed ≡ failed_after result old.has_failed
  -- once it has answered Device, it answers nothing else
  pub closed : old.closes → old.has_failed ≡ true → result ≡ Err Device

-- these contents are committed, and the number rises by one at most
pub record IsCommitted (after : Contents) (old new : StoreState) : Type 0 where
  pub map : new.map ≡ after.records
  pub record_format : new.record_format ≡ after.record_format
  pub not_back : old.number ≤ new.number
  pub by_one : new.number ≤ old.number + 1

-- what a commit has done: all with Ok, nothing with a fault that is not Device. After Device nobody can know
abbrev pub AfterCommit : Result (Unit {0}) StoreFault → Contents → StoreState → StoreState → Type 0
AfterCommit (Ok x) after old new = IsCommitted after old new
AfterCommit (Err Full) after old new = IsUnchanged old new
AfterCommit (Err Memory) after old new = IsUnchanged old new
AfterCommit (Err Device) after old new = Unit {0}
AfterCommit (Err Number) after old new = IsUnchanged old new

-- what a stop leaves from a commit's start on: the contents before it or after it, and only those before it where the commit is refused
abbrev pub MayLeaveDuring : Result (Unit {0}) StoreFault → Contents → Contents → Option Contents → Type 0
MayLeaveDuring (Ok x) before after left = (left ≡ Some before) ⊎ (left ≡ Some after)
MayLeaveDuring (Err Full) before after left = left ≡ Some before
MayLeaveDuring (Err Memory) before after left = left ≡ Some before
MayLeaveDuring (Err Device) before after left = (left ≡ Some before) ⊎ (left ≡ Some after)
MayLeaveDuring (Err Number) before after left = left ≡ Some before

-- what a stop leaves once it is answered: with Ok only the contents after it
abbrev pub MayLeaveNow : Result (Unit {0}) StoreFault → Contents → Contents → Option Contents → Type 0
MayLeaveNow (Ok x) before after left = left ≡ Some after
MayLeaveNow (Err Full) before after left = left ≡ Some before
MayLeaveNow (Err Memory) before after left = left ≡ Some before
MayLeaveNow (Err Device) before after left = (left ≡ Some before) ⊎ (left ≡ Some after)
MayLeaveNow (Err Number) before after left = left ≡ Some before

-- a commit of a store that works: all of it or nothing, whenever a stop comes
pub record CommitsAtOnce (result : Result (Unit {0}) StoreFault) (after : Contents) (old new : StoreState) : Type 0 where
  pub committed : AfterCommit result after old new
  pub leaves : LeavesOnly (MayLeaveDuring result (stored old) after) old.time new.time
  pub left : (x : Option Contents) → new.time.left x → MayLeaveNow result (stored old) after x

-- a commit after which these are the contents, whatever it answers
pub record Commits (result : Result (Unit {0}) StoreFault) (after : Contents) (old new : StoreState) : Type 0 where
  pub history : KeepsHistory old new
  pub at_once : old.sound → old.has_failed ≡ false → CommitsAtOnce result after old new
  pub cause : IfErr result (λ fault. HasCause fault old new)
  pub failed : new.has_failed ≡ failed_after result old.has_failed
  -- once it has answered Device, it answers nothing else and changes nothing
  pub closed : old.has_failed ≡ true → result ≡ Err Device
  pub still : old.sound → old.has_failed ≡ true → OnlyReads old new
