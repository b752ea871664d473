-- What copying records to a device does.
use Rattle.std.specs.Prelude.{◌≡◌, ◌≤◌, ◌⊎◌, ◌/◌, true, false, [], ◌∷◌, Option, Some, None, Result, Ok, Err}
use Rattle.sector_device.specs.Timeline.{Timeline, LeavesOnly, read_by}
use Rattle.sector_device.specs.Device.{DeviceState, Image, KeepsHistory, HasFailed, IsLeft, timeline}
use Rattle.sector_device.specs.declared.device.Device.{Ghosts}
use Rattle.storage_sizes.specs.CurrentRecordFormat.{current}
use Rattle.store.specs.declared.fault.Fault.TheVariants as read
use Rattle.store.specs.declared.fault.StoreFault.TheVariants as write
use Rattle.store.specs.Readers.{HasFaultCause}
use Rattle.store.specs.Records.{Records}
use Rattle.store.specs.Store.{Contents, StoreState, stored}
use Rattle.cow_pages.specs.declared.open.OpenFault.{OpenFault}
use Rattle.cow_pages.specs.declared.open.OpenFault.TheVariants as opening
use Rattle.cow_pages.specs.Image.{is_size}
use Rattle.cow_pages.specs.Formatting.{IsBlank}
use Rattle.cow_pages.specs.Cow.{device_below}
use Rattle.kv_store.specs.Contents.{HasContents, IsReadAs}
use Rattle.kv_store.specs.Formatting.{WritesStore, IsMade}
use Rattle.kv_store.specs.declared.page_store.PageStore.{PageStore}
use Rattle.kv_store.specs.PageStore.{pages_of, store_state}
use Rattle.copies.specs.RecordCopies.{IsUnfinished, mark, whole}
use Rattle.copies.specs.declared.fault.CopyFault.{CopyFault}
use Rattle.copies.specs.declared.fault.CopyFault.TheVariants.{Read, Write, WrongSize, Full}
use Rattle.copies.specs.Wanted.{wanted}

-- what a stop leaves of a device, read as contents
abbrev pub records_on : DeviceState → Timeline (Option Contents)
records_on d = read_by (IsReadAs (d.sectors / 8)) (timeline d)

-- no contents, or a copy that is not whole
abbrev pub HasNoneOrMark : Option Contents → Type 0
HasNoneOrMark x = (x ≡ None) ⊎ IsUnfinished x

-- no contents, or a copy that is not whole, or the whole of it
abbrev pub HasNoneOrMarkOr : Contents → Option Contents → Type 0
HasNoneOrMarkOr contents x = HasNoneOrMark x ⊎ (x ≡ Some contents)

-- ---- copies

-- the device has a size that a database may have; on one that was blank a stop at any moment leaves no more than a part of the copy, or all of it
pub record Tries (contents : Contents) (old new : DeviceState) : Type 0 where
  pub size : is_size old.sectors ≡ true
  pub faithful : old.faithful → new.faithful
  pub failures : old.failures ≤ new.failures
  pub any_moment : old.faithful → IsBlank old → LeavesOnly (HasNoneOrMarkOr contents) (records_on old) (records_on new)

-- each image that a stop leaves has these contents
abbrev pub IsCopied : Contents → DeviceState → Type 0
IsCopied contents d = (image : Image) → IsLeft d image → HasContents (d.sectors / 8) contents image

-- a stop leaves no contents, or a copy that is not whole
abbrev pub IsNotCopied : DeviceState → DeviceState → Type 0
IsNotCopied old new = old.faithful → IsBlank old → (x : Option Contents) → (records_on new).left x → HasNoneOrMark x

-- the contents are copied; or the copy stops for its source, for memory or for room, and is not whole, and where it was for room it is told how many pages are wanted
-- at least; or the device fails, or has another size. No other fault comes
abbrev pub CopiesAll : {D : Type 0} → (D → DeviceState) → Contents → Result (Unit {0}) CopyFault → D → D → Type 0
CopiesAll state contents (Ok x) old new = Tries contents (state old) (state new) × ((state old).faithful → IsCopied contents (state new))
CopiesAll state contents (Err (Read read.Device)) old new = Tries contents (state old) (state new) × IsNotCopied (state old) (state new)
CopiesAll state contents (Err (Read read.Damaged)) old new = Tries contents (state old) (state new) × IsNotCopied (state old) (state new)
CopiesAll state contents (Err (Write write.Memory)) old new = Tries contents (state old) (state new) × IsNotCopied (state old) (state new)
CopiesAll state contents (Err (Write write.Device)) old new = Tries contents (state old) (state new) × ((state old).faithful → HasFailed (state old) (state new))
CopiesAll state contents (Err WrongSize) old new = (is_size (state old).sectors ≡ false) × (new ≡ old)
CopiesAll state contents (Err (Full least)) old new = Tries contents (state old) (state new) × IsNotCopied (state old) (state new) × (least ≡ wanted ((state old).sectors / 8) contents.records)
CopiesAll state contents (Err fault) old new = ⊥

-- the records behind the mark are copied, in the current record format
abbrev pub CopiesTo : {D : Type 0} → (D → DeviceState) → Records → Result (Unit {0}) CopyFault → D → D → Type 0
CopiesTo state records result old new = CopiesAll state (whole current records) result old new

-- why the source is told to be the cause
abbrev pub HasSourceCause : CopyFault → StoreState → StoreState → Type 0
HasSourceCause (Read fault) old new = HasFaultCause fault old new
HasSourceCause fault old new = Unit {0}

-- what a copy of records answered, as one to a device, with the fault where there was no room: a new store has a number for each commit of it
abbrev pub told_of : CopyFault → Result (Unit {0}) CopyFault → Result (Unit {0}) CopyFault
told_of no_room (Err (Write write.Full)) = Err no_room
told_of no_room (Err (Write write.Number)) = Err no_room
told_of no_room (Err (Read read.Memory)) = Err (Write write.Memory)
told_of no_room copied = copied

-- ---- the store of the mark alone

abbrev pub marked : Contents
marked = record { record_format = current; records = mark ∷ [] }

-- a store of the mark alone is made, or the device has another size, or memory is refused, before anything is written; or the device fails
abbrev pub Marks : {D : Type 0} (g : Ghosts D) → Result (Unit {0}) CopyFault → D → D → Type 0
Marks g (Ok x) old new = (is_size (g.state old).sectors ≡ true) × WritesStore current mark (g.state old) (g.state new) × ((g.state old).faithful → IsMade current mark (g.state old) (g.state new))
Marks g (Err (Write write.Memory)) old new = (is_size (g.state old).sectors ≡ true) × (new ≡ old)
Marks g (Err WrongSize) old new = (is_size (g.state old).sectors ≡ false) × (new ≡ old)
Marks g (Err (Write write.Device)) old new = (is_size (g.state old).sectors ≡ true) × WritesStore current mark (g.state old) (g.state new) × HasFailed (g.state old) (g.state new)
Marks g (Err fault) old new = ⊥

-- the store of the mark alone is open
pub record IsBegun {D : Type 0} {g : Ghosts D} (d : DeviceState) (s : PageStore D g) : Type 0 where
  pub size : is_size d.sectors ≡ true
  pub history : KeepsHistory d (device_below (pages_of s))
  pub works : (store_state s).has_failed ≡ false
  pub sound : d.faithful → (store_state s).sound
  pub contents : d.faithful → stored (store_state s) ≡ marked
  pub leaves : d.faithful → IsBlank d → LeavesOnly HasNoneOrMark (records_on d) (store_state s).time

-- nothing but the mark may have been written
pub record IsNotBegun (d e : DeviceState) : Type 0 where
  pub size : is_size d.sectors ≡ true
  pub history : KeepsHistory d e
  pub leaves : d.faithful → IsBlank d → LeavesOnly HasNoneOrMark (records_on d) (records_on e)

abbrev pub CannotBegin : {D : Type 0} (g : Ghosts D) → CopyFault → D → D → Type 0
CannotBegin g (Write write.Memory) old new = IsNotBegun (g.state old) (g.state new)
CannotBegin g WrongSize old new = (is_size (g.state old).sectors ≡ false) × (new ≡ old)
CannotBegin g (Write write.Device) old new = IsNotBegun (g.state old) (g.state new) × ((g.state old).faithful → HasFailed (g.state old) (g.state new))
CannotBegin g fault old new = ⊥

abbrev pub Begins : {D : Type 0} (g : Ghosts D) → D → Result (PageStore D g) (D × CopyFault) → Type 0
Begins g old (Ok store) = IsBegun (g.state old) store
Begins g old (Err refused) = CannotBegin g refused.1 old refused.0

-- why a store is not made, or not opened once it is: its device failed, unless memory was refused
abbrev pub of_target : OpenFault → CopyFault
of_target opening.WrongSize = Write write.Device
of_target opening.NotADatabase = Write write.Device
of_target (opening.NewerFormat format) = Write write.Device
of_target opening.Damaged = Write write.Device
of_target opening.Device = Write write.Device
of_target opening.Memory = Write write.Memory
