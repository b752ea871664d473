-- Why a store is not opened.
use Rattle.std.specs.Prelude.{◌≡◌, Bool, true, false}
use Rattle.pages.specs.declared.array.PageFault.{PageFault}
use Rattle.pages.specs.declared.array.PageFault.TheVariants.{Memory as NoMemory}
use Rattle.cow_pages.specs.declared.open.OpenFault.{OpenFault}
use Rattle.cow_pages.specs.declared.open.OpenFault.TheVariants.{WrongSize, NotADatabase, NewerFormat, Damaged, Device, Memory}

-- Device where the device failed, or else Memory where memory was refused; any other fault comes only from a device that
-- does not keep what was written, and is Damaged
abbrev pub RefusesOpen : PageFault → Bool → OpenFault → Type 0
RefusesOpen fault has_failed WrongSize = ⊥
RefusesOpen fault has_failed NotADatabase = ⊥
RefusesOpen fault has_failed (NewerFormat format) = ⊥
RefusesOpen fault has_failed Damaged = (has_failed ≡ false) × (fault ≡ NoMemory → ⊥)
RefusesOpen fault has_failed Device = has_failed ≡ true
RefusesOpen fault has_failed Memory = (has_failed ≡ false) × (fault ≡ NoMemory)
