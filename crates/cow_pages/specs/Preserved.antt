-- What calls that are no commit preserve, and why they fail.
use Rattle.std.specs.Prelude.{◌≡◌, ◌⊎◌, true}
use Rattle.sector_device.specs.Device.{KeepsHistory, HasFailed}
use Rattle.sector_device.specs.declared.device.Device.{Ghosts}
use Rattle.cow_pages.specs.declared.cow.CowPages.{CowPages}
use Rattle.pages.specs.declared.array.PageFault.{PageFault}
use Rattle.pages.specs.declared.array.PageFault.TheVariants.{Full, Memory, Device, Malformed}
use Rattle.pages.specs.State.{PagesState}
use Rattle.cow_pages.specs.Held.{IsSettled}
use Rattle.cow_pages.specs.Cow.{working_array, KeepsRoot, LeavesDurable, StaysDurable, IsFaulted, HasNoRoom}

-- what stands on the pages sees the working array, as long as the device is faithful
abbrev pub cow_state : {D : Type 0} {g : Ghosts D} → CowPages D g → PagesState
cow_state {D} {g} p = record { sound = (g.state p.device).faithful; array = working_array p }

-- the device is faithful and holds the durable array, which a stop now leaves
pub record HoldsDurable {D : Type 0} {g : Ghosts D} (p : CowPages D g) : Type 0 where
  pub faithful : (g.state p.device).faithful
  pub settled : IsSettled (g.state p.device) p.map.root p.map.durable.items
  pub now : LeavesDurable p p

-- What each call but a commit preserves. Whatever the device does, the root and the durable map stay, and a fault of the
-- device is remembered. Where the device held the durable array, a stop at any moment leaves it, and it holds it still.
pub record IsPreserved {D : Type 0} {g : Ghosts D} (old new : CowPages D g) : Type 0 where
  pub preserved : KeepsRoot old new
  pub leaves : HoldsDurable old → LeavesDurable old new
  pub stays : HoldsDurable old → StaysDurable old new
  pub holds : HoldsDurable old → HoldsDurable new
  pub cause : new.has_failed ≡ true → (old.has_failed ≡ true) ⊎ HasFailed (g.state old.device) (g.state new.device)
  pub remains : old.has_failed ≡ true → new.has_failed ≡ true

-- Why the last call failed: no page is left now, or the device failed, in it or before. Memory is never refused, and
-- where the page named is not in use the call itself says so.
abbrev pub FailedWith : {D : Type 0} {g : Ghosts D} → CowPages D g → CowPages D g → PageFault → Type 0
FailedWith {D} {g} old new Full = HasNoRoom new
FailedWith {D} {g} old new Memory = ⊥
FailedWith {D} {g} old new Device = KeepsHistory (g.state old.device) (g.state new.device) × IsFaulted old new
FailedWith {D} {g} old new Malformed = Unit {0}
