-- A file of the system: no proof can know what it does.
use Rattle.std.specs.Prelude.{[], true}
use Rattle.sector_device.specs.RawFile.{FileState}

-- a state of which nothing is said
abbrev pub unsaid : FileState
unsaid = record { bytes = []; time = record { moment = 0; stops = λ a b x. ⊥; left = λ x. ⊥ }; has_failed_sync = true }
