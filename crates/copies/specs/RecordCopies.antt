-- Copies of records, which begin with a mark until they are whole.
use Rattle.std.specs.Prelude.{◌≡◌, ◌⊎◌, ◌≤◌, ◌^◌, Bool, true, false, [], ◌∷◌, ◌++◌, Option, Some, None, Result, Ok, Err}
use Rattle.storage_sizes.specs.declared.record_format.RecordFormat.{RecordFormat}
use Rattle.sector_device.specs.Timeline.{LeavesOnly}
use Rattle.store.specs.declared.fault.StoreFault.{StoreFault}
use Rattle.store.specs.declared.fault.StoreFault.TheVariants.{Full, Memory, Device, Number}
use Rattle.store.specs.Readers.{HasFaultCause}
use Rattle.store.specs.Records.{Record, Records, Changes, IsChangeSize, changed, entries_where, is_from}
use Rattle.store.specs.Contents.{changed_by_batch}
use Rattle.store.specs.Store.{Contents, StoreState, Commits, Rose, HasDeviceCause, stored}
use Rattle.copies.specs.declared.fault.CopyFault.{CopyFault}
use Rattle.copies.specs.declared.fault.CopyFault.TheVariants.{Pages, Read, Write, WrongSize, Full as NoRoom}

-- the record that a copy has until it is whole: no record of a database has a key that begins so
abbrev pub mark : Record
mark = (0 ∷ [], [])

-- the records behind the mark, which in a database are all
abbrev pub behind_mark : Records → Records
behind_mark records = entries_where (is_from (0 ∷ 0 ∷ [])) records

-- changes to which the puts of records are added, one after the other
abbrev pub put_in : Records → Changes → Changes
put_in [] changes = changes
put_in (e ∷ es) changes = put_in es (changed e.0 (Some (Some e.1)) changes)

-- some of the records ahead of a place are put into changes, or all of them where no more is left
abbrev pub Fills : (Records → Type 0) → Bool → Records → Changes → Changes → Type 0
Fills ahead true records old new = (taken : Records) × (later : Records) × (records ≡ taken ++ later) × (new ≡ put_in taken old) × ahead later
Fills ahead false records old new = new ≡ put_in records old

-- the contents of a whole copy
abbrev pub whole : RecordFormat → Records → Contents
whole record_format records = record { record_format = record_format; records = behind_mark records }

-- what is left is a copy that is not whole yet: its first record is the mark
abbrev pub IsUnfinished : Option Contents → Type 0
IsUnfinished left = (contents : Contents) × (others : Records) × (left ≡ Some contents) × (contents.records ≡ mark ∷ others)

-- changes of a last commit, with which the mark goes
abbrev pub unmarked : Changes → Changes
unmarked changes = changed (0 ∷ []) (Some None) changes

-- the last commit of a copy, if it was tried
abbrev pub Finishes : Result (Unit {0}) CopyFault → Changes → StoreState → StoreState → Type 0
Finishes (Ok x) changes old new = Commits (Ok x) (changed_by_batch (unmarked changes) (stored old)) old new
Finishes (Err (Read fault)) changes old new = Unit {0}
Finishes (Err (Write fault)) changes old new = Commits (Err fault) (changed_by_batch (unmarked changes) (stored old)) old new
Finishes (Err (Pages fault)) changes old new = ⊥
Finishes (Err WrongSize) changes old new = ⊥
Finishes (Err (NoRoom least)) changes old new = ⊥

-- the store contains these contents, which a stop now leaves
pub record Contains (contents : Contents) (s : StoreState) : Type 0 where
  pub sound : s.sound
  pub works : s.has_failed ≡ false
  pub stored_is : stored s ≡ contents
  pub left : (x : Option Contents) → s.time.left x → x ≡ Some contents

-- the store works, and contains records that begin with the mark, which a stop now leaves
pub record HasMark (s : StoreState) : Type 0 where
  pub sound : s.sound
  pub works : s.has_failed ≡ false
  pub marked : IsUnfinished (Some (stored s))
  pub left : (x : Option Contents) → s.time.left x → IsUnfinished x

-- what the target is after a copy: whole with Ok, marked with a fault. After a fault of its device nobody can know
abbrev pub AfterCopy : Result (Unit {0}) CopyFault → Contents → StoreState → Type 0
AfterCopy (Ok x) contents s = Contains contents s
AfterCopy (Err (Read fault)) contents s = HasMark s
AfterCopy (Err (Write Full)) contents s = HasMark s
AfterCopy (Err (Write Memory)) contents s = HasMark s
AfterCopy (Err (Write Device)) contents s = Unit {0}
AfterCopy (Err (Write Number)) contents s = HasMark s
AfterCopy (Err (Pages fault)) contents s = ⊥
AfterCopy (Err WrongSize) contents s = ⊥
AfterCopy (Err (NoRoom least)) contents s = ⊥

-- a copy: whenever a stop comes, what is left is not whole yet, or all of it
pub record Copies (result : Result (Unit {0}) CopyFault) (contents : Contents) (old new : StoreState) : Type 0 where
  pub leaves : LeavesOnly (λ left. IsUnfinished left ⊎ (left ≡ Some contents)) old.time new.time
  pub after : AfterCopy result contents new

-- ---- faults

-- one of these records has a size that no store takes
pub record HasOutsized (records : Records) : Type 0 where
  pub before : Records
  pub outsized : Record
  pub later : Records
  pub all : records ≡ before ++ (outsized ∷ later)
  pub no_size : IsChangeSize (outsized.0, Some outsized.1) → ⊥

-- why the target answers a fault: an allocation may always fail, and there are numbers for more commits than a copy makes
abbrev pub HasWriteCause : StoreFault → StoreState → StoreState → Type 0
HasWriteCause Full old new = Rose old.fulls new.fulls
HasWriteCause Memory old new = Unit {0}
HasWriteCause Device old new = HasDeviceCause old new
HasWriteCause Number old new = old.sound → old.has_failed ≡ false → 2 ^ 63 ≤ old.number

-- why a copy answers a fault: that of a read stands in the source, that of a commit in the target, and no other comes
abbrev pub HasCopyCause : CopyFault → StoreState → StoreState → StoreState → StoreState → Type 0
HasCopyCause (Read fault) source read target written = HasFaultCause fault source read
HasCopyCause (Write fault) source read target written = HasWriteCause fault target written
HasCopyCause (Pages fault) source read target written = ⊥
HasCopyCause WrongSize source read target written = ⊥
HasCopyCause (NoRoom least) source read target written = ⊥
