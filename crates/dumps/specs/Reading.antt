-- What reading the head of a dump answers.
use Rattle.std.specs.Prelude.{◌≡◌, ◌≤◌, ◌<◌, ◌%◌, ◌^◌, ℕ}
use Rattle.sha2.specs.Hashers.{Holds256}
use Rattle.sector_device.specs.Device.{DeviceState, HasFailed}
use Rattle.dumps.specs.Form.{head}
use Rattle.dumps.specs.OnDevice.{bytes_from}
use Rattle.dumps.specs.declared.place.DumpPlace.{DumpPlace}
use Rattle.dumps.specs.declared.fault.DumpFault.{DumpFault}
use Rattle.dumps.specs.declared.fault.DumpFault.TheVariants.{NotADump, OtherVersion, Damaged, Memory, Device}

-- the device begins with the head of a dump with this number, and the place is behind it
pub record HasHead (d : DeviceState) (number : ℕ) (place : DumpPlace) : Type 0 where
  pub fits : number < 2 ^ 64
  pub whole : d.sectors % 8 ≡ 0
  pub some : 8 ≤ d.sectors
  pub there : bytes_from d.content 0 8 ≡ head number
  pub page : place.page ≡ 1
  pub lists : place.lists ≡ 0
  pub hashed : Holds256 place.hasher (head number)

-- where a dump is, why it is not read: an allocation failed, or the device did
abbrev pub IsUnread : DumpFault → DeviceState → DeviceState → Type 0
IsUnread NotADump old new = ⊥
IsUnread (OtherVersion version) old new = ⊥
IsUnread Damaged old new = ⊥
IsUnread Memory old new = Unit {0}
IsUnread Device old new = HasFailed old new
