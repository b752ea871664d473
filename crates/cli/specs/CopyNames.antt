-- What a stop leaves under the name of a copy, at any moment of the copying.
use Rattle.std.specs.Prelude.{◌⊎◌, List, ℕ}
use Rattle.sector_device.specs.declared.device.Device.{Ghosts}
use Rattle.systems.specs.Systems.{SystemState, IsReadable}
use Rattle.abstract_database.specs.Database.{Database}
use Rattle.databases.specs.Databases.{HoldsDatabase}
use Rattle.copies.specs.DatabaseCopies.{IsCopyOf}

-- one device holds a database, and each image that a stop leaves of the other stands for it
pub record IsWholeCopy {D : Type 0} (g : Ghosts D) (device copy : D) : Type 0 where
  pub database : Database
  pub holds : HoldsDatabase (g.state device) database
  pub whole : IsCopyOf database (g.state copy)

-- under the name of the copy a stop leaves what it might have left before, or a whole copy of the database on this device
abbrev pub LeavesCopyOf : {D L : Type 0} → Ghosts D → D → List ℕ → SystemState D L → SystemState D L → Type 0
LeavesCopyOf {D} g device target old new = (copy : D) → new.left target copy → old.left target copy ⊎ IsWholeCopy g device copy

-- or of the database that the file of this path holds
abbrev pub LeavesCopy : {D L : Type 0} → Ghosts D → List ℕ → List ℕ → SystemState D L → SystemState D L → Type 0
LeavesCopy {D} g path target old new =
    (copy : D) → new.left target copy → old.left target copy ⊎ ((device : D) × IsReadable old path device × IsWholeCopy g device copy)
