-- Parts of a dump that are written.
use Rattle.std.specs.Prelude.{◌≡◌, ◌*◌, ℕ, List, length, Result, Ok, Err}
use Rattle.sector_device.specs.Device.{DeviceState, HasFailed}
use Rattle.store.specs.declared.fault.StoreFault.{StoreFault}
use Rattle.store.specs.Records.{Changes}
use Rattle.dumps.specs.Form.{IsBlock}
use Rattle.store.specs.declared.fault.StoreFault.TheVariants.{Full, Memory, Device, Number}

-- why one is not
abbrev pub HasPartCause : {T : Type 0} → Result T StoreFault → DeviceState → DeviceState → Type 0
HasPartCause (Ok x) old new = Unit {0}
HasPartCause (Err Full) old new = Unit {0}
HasPartCause (Err Memory) old new = Unit {0}
HasPartCause (Err Device) old new = HasFailed old new
HasPartCause (Err Number) old new = ⊥

-- the block of this list has so many pages
pub record HasPages (changes : Changes) (pages : ℕ) : Type 0 where
  pub block : List ℕ
  pub is : IsBlock block changes
  pub count : length block ≡ 4096 * pages
