-- What a system is to a program: what its paths and its places name.
use Rattle.std.specs.Prelude.{◌≡◌, ◌≢◌, ◌<◌, ◌⊎◌, ◌+◌, ◌*◌, ◌^◌, ◌-◌, ℕ, Bool, true, false, List, replicate, Option, Some}
use Rattle.storage_sizes.specs.Sizes.{sector_size}
use Rattle.sector_device.specs.Device.{DeviceState}
use Rattle.systems.specs.declared.access.Access.{Access}
use Rattle.systems.specs.declared.access.Access.TheVariants.{Read, Write}
use Rattle.systems.specs.Places.{IsPlaceApart, ThePlace, TheSocket}

-- What is at a path, or at a place: none; this one, which nobody has open; this one, which others have open to read it; one that this
-- program has open; one that it has open to read it; or one that somebody else has open. Places are not shared, and not read
pub data At (T : Type 0) : Type 0 where
  Absent : At T
  Free : T → At T
  Shared : T → At T
  Open : At T
  Reading : At T
  Taken : At T

-- A system at one moment.
pub record SystemState (D L : Type 0) : Type 1 where
  -- it does what this file says: always so of a system in memory, and a premise of a real one
  pub faithful : Type 0
  -- the device of each path
  pub devices : List ℕ → At D
  -- the bytes of the text of each path
  pub texts : List ℕ → Option (List ℕ)
  -- whether there is something of this name
  pub is_named : List ℕ → Bool
  -- what a stop may have left as the device of each path, at any moment so far; of one that this program has open to write it nothing is
  -- said
  pub left : List ℕ → D → Type 0
  -- the listener of each place
  pub listeners : ThePlace → At L
  -- what stands on standard input, from here to its end
  pub input : List ℕ
  -- what it draws from now on, one draw after the other
  pub draws : ℕ → List ℕ
  -- how often a call of it has failed, up to 2 ^ 64 - 1
  pub failures : ℕ

-- ---- what stands in it

-- this path names this device, as it is now, and nobody has it open
abbrev pub HasDevice : {D L : Type 0} → SystemState D L → List ℕ → D → Type 0
HasDevice s path device = s.devices path ≡ Free device

-- this path names this device, as it is now, and nobody has it open to write it
abbrev pub IsReadable : {D L : Type 0} → SystemState D L → List ℕ → D → Type 0
IsReadable s path device = HasDevice s path device ⊎ (s.devices path ≡ Shared device)

-- this program has the device of this path open, to read and to write it
abbrev pub IsOpen : {D L : Type 0} → SystemState D L → List ℕ → Type 0
IsOpen s path = s.devices path ≡ Open

-- it has it open to read it
abbrev pub IsReading : {D L : Type 0} → SystemState D L → List ℕ → Type 0
IsReading s path = s.devices path ≡ Reading

-- others have the device of this path open to read it
abbrev pub is_shared : {T : Type 0} → At T → Bool
is_shared Absent = false
is_shared (Free device) = false
is_shared (Shared device) = true
is_shared Open = false
is_shared Reading = false
is_shared Taken = false

abbrev pub IsShared : {D L : Type 0} → SystemState D L → List ℕ → Type 0
IsShared s path = is_shared (s.devices path) ≡ true

-- somebody else has the device of this path open
abbrev pub IsInUse : {D L : Type 0} → SystemState D L → List ℕ → Type 0
IsInUse s path = s.devices path ≡ Taken

-- this path names this device, and it may be opened so
abbrev pub MayOpen : {D L : Type 0} → Access → SystemState D L → List ℕ → D → Type 0
MayOpen Read s path device = IsReadable s path device
MayOpen Write s path device = HasDevice s path device

-- this program has the device of this path open so
abbrev pub IsOpenFor : {D L : Type 0} → Access → SystemState D L → List ℕ → Type 0
IsOpenFor Read s path = IsReading s path
IsOpenFor Write s path = IsOpen s path

-- this program has the device of this path open, or somebody else has; or others read it, and it was to be written
abbrev pub IsHeldFrom : {D L : Type 0} → Access → SystemState D L → List ℕ → Type 0
IsHeldFrom access s path = IsOpen s path ⊎ IsReading s path ⊎ IsInUse s path ⊎ ((access ≡ Write) × IsShared s path)

-- there is something of this name, or nothing
abbrev pub IsNamed : {D L : Type 0} → SystemState D L → List ℕ → Type 0
IsNamed s path = s.is_named path ≡ true

abbrev pub IsUnnamed : {D L : Type 0} → SystemState D L → List ℕ → Type 0
IsUnnamed s path = s.is_named path ≡ false

-- this path names a text of these bytes
abbrev pub HasText : {D L : Type 0} → SystemState D L → List ℕ → List ℕ → Type 0
HasText s path text = s.texts path ≡ Some text

-- who binds this place gets this listener
abbrev pub Hears : {D L : Type 0} → SystemState D L → ThePlace → L → Type 0
Hears s place listener = s.listeners place ≡ Free listener

-- this program has bound this place
abbrev pub IsBound : {D L : Type 0} → SystemState D L → ThePlace → Type 0
IsBound s place = s.listeners place ≡ Open

-- ---- what a call leaves alone

-- a count rose, or stands at its end
abbrev pub Rose : ℕ → ℕ → Type 0
Rose old new = (old < new) ⊎ (old ≡ 2 ^ 64 - 1)

-- all is as it was
pub record IsSame {D L : Type 0} (old new : SystemState D L) : Type 0 where
  pub faithful : old.faithful → new.faithful
  pub devices : (path : List ℕ) → new.devices path ≡ old.devices path
  pub texts : (path : List ℕ) → new.texts path ≡ old.texts path
  pub names : (path : List ℕ) → new.is_named path ≡ old.is_named path
  pub listeners : (place : ThePlace) → new.listeners place ≡ old.listeners place

-- all is as it was but for what this path names
pub record IsSameBut {D L : Type 0} (changed : List ℕ) (old new : SystemState D L) : Type 0 where
  pub faithful : old.faithful → new.faithful
  pub devices : (path : List ℕ) → path ≢ changed → new.devices path ≡ old.devices path
  pub texts : (path : List ℕ) → path ≢ changed → new.texts path ≡ old.texts path
  pub names : (path : List ℕ) → path ≢ changed → new.is_named path ≡ old.is_named path
  pub listeners : (place : ThePlace) → new.listeners place ≡ old.listeners place

-- all is as it was but for what these two paths name
pub record IsSameButBoth {D L : Type 0} (one other : List ℕ) (old new : SystemState D L) : Type 0 where
  pub faithful : old.faithful → new.faithful
  pub devices : (path : List ℕ) → path ≢ one → path ≢ other → new.devices path ≡ old.devices path
  pub texts : (path : List ℕ) → path ≢ one → path ≢ other → new.texts path ≡ old.texts path
  pub names : (path : List ℕ) → path ≢ one → path ≢ other → new.is_named path ≡ old.is_named path
  pub listeners : (place : ThePlace) → new.listeners place ≡ old.listeners place

-- all is as it was but for what this place and its parts hear and, of a socket, whether its file is there: so no device and no text has changed at any path
pub record IsSameButAt {D L : Type 0} (changed : ThePlace) (old new : SystemState D L) : Type 0 where
  pub faithful : old.faithful → new.faithful
  pub devices : (path : List ℕ) → new.devices path ≡ old.devices path
  pub texts : (path : List ℕ) → new.texts path ≡ old.texts path
  pub names : (path : List ℕ) → IsPlaceApart (TheSocket path) changed → new.is_named path ≡ old.is_named path
  pub listeners : (place : ThePlace) → IsPlaceApart place changed → new.listeners place ≡ old.listeners place

-- ---- what a stop leaves

-- at this path a stop leaves no other device than before, at any moment between the two
abbrev pub LeavesNoMore : {D L : Type 0} → List ℕ → SystemState D L → SystemState D L → Type 0
LeavesNoMore {D} path old new = (device : D) → new.left path device → old.left path device

-- at this path it leaves what it might have left before, or this device
abbrev pub LeavesAlso : {D L : Type 0} → List ℕ → D → SystemState D L → SystemState D L → Type 0
LeavesAlso {D} path given old new = (device : D) → new.left path device → old.left path device ⊎ (device ≡ given)

-- at no path it leaves another device than before
abbrev pub LeavesAll : {D L : Type 0} → SystemState D L → SystemState D L → Type 0
LeavesAll old new = (path : List ℕ) → LeavesNoMore path old new

-- at no path but this one
abbrev pub LeavesOthers : {D L : Type 0} → List ℕ → SystemState D L → SystemState D L → Type 0
LeavesOthers changed old new = (path : List ℕ) → path ≢ changed → LeavesNoMore path old new

-- ---- what is drawn

-- these bytes were drawn, which came next; those behind them come next now
pub record Draws {D L : Type 0} (old new : SystemState D L) (drawn : List ℕ) : Type 0 where
  pub next : drawn ≡ old.draws 0
  pub rest : (n : ℕ) → new.draws n ≡ old.draws (n + 1)

-- none were: the same come next
abbrev pub DrawsNone : {D L : Type 0} → SystemState D L → SystemState D L → Type 0
DrawsNone old new = (n : ℕ) → new.draws n ≡ old.draws n

-- ---- new devices

-- a faithful device of so many pages, of which a stop leaves zeros
pub record HoldsZeros (pages : ℕ) (d : DeviceState) : Type 0 where
  pub faithful : d.faithful
  pub sectors : d.sectors ≡ 8 * pages
  pub zeros : (s : ℕ) (c : List ℕ) → d.left s c → c ≡ replicate sector_size 0
