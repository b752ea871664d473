-- A device of zeros is blank.
use Rattle.std.proofs.Common.{ℕ, refl}
use Rattle.sector_device.specs.Device.{DeviceState}
use Rattle.systems.specs.Systems.{HoldsZeros}
use Rattle.cow_pages.specs.Formatting.{IsBlank}

pub blank_of_zeros : (pages : ℕ) (d : DeviceState) → HoldsZeros pages d → IsBlank d
blank_of_zeros pages d holds s lt c left = rw (holds.zeros s c left) refl
