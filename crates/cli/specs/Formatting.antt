-- What making a database in a new file does.
use Rattle.std.specs.Prelude.{◌≡◌, ◌⊎◌, ◌*◌, ◌<◌, ℕ, Bool, true, false, List, Result, Ok, Err}
use Rattle.sector_device.specs.declared.device.Device.{Ghosts}
use Rattle.sector_device.specs.declared.open_file.FileFault.{FileFault}
use Rattle.sector_device.specs.declared.open_file.FileFault.TheVariants as file
use Rattle.systems.specs.Systems.{HasDevice, HoldsZeros, IsNamed, IsSame, IsSameBut, IsUnnamed, Rose, SystemState}
use Rattle.cow_pages.specs.Formatting.{IsBlank}
use Rattle.cow_pages.specs.Image.{is_size}
use Rattle.cow_pages.specs.declared.open.OpenFault.{OpenFault}
use Rattle.abstract_database.specs.Lists.{TheName}
use Rattle.databases.specs.Making.{IsMade, Makes}
use Rattle.cli.specs.declared.fault.CommandFault.{CommandFault}
use Rattle.cli.specs.declared.fault.CommandFault.TheVariants.{WrongSize}
use Rattle.cli.specs.Faults.{of_file, of_pages}

-- why a new file was not made: something has its name; no memory was left; or a call of the system failed
abbrev pub StandsAgainst : {D L : Type 0} → FileFault → SystemState D L → List ℕ → SystemState D L → Type 0
StandsAgainst file.Exists old path new = IsNamed old path
StandsAgainst file.Memory old path new = Unit {0}
StandsAgainst (file.Device cause) old path new = Rose old.failures new.failures

-- no database is of so many pages
abbrev pub IsNoSize : ℕ → Type 0
IsNoSize pages = (65536 < pages) ⊎ (is_size (8 * pages) ≡ false)

-- `g` is what is said of devices, `old` the system before, and `path` that of the new file
module _ {D L : Type 0} (g : Ghosts D) (old : SystemState D L) (path : List ℕ) where
  -- there was nothing at the path, and this blank device of so many pages was made there
  pub record IsMadeBlank (pages : ℕ) (device : D) : Type 0 where
    pub new : IsUnnamed old path
    pub zeros : HoldsZeros pages (g.state device)
    pub blank : IsBlank (g.state device)

  -- a new database was made on it, with a journal or without, and the path names it as it was left
  pub record IsFormatted (pages : ℕ) (admin : TheName) (journal : Bool) (new : SystemState D L) : Type 0 where
    pub blank : D
    pub left : D
    pub makes : Makes g.state journal admin (Ok tt) blank left
    pub is_blank : old.faithful → IsMadeBlank pages blank
    pub is_made : old.faithful → IsMade journal admin (g.state blank) (g.state left)
    pub closed : old.faithful → HasDevice new path left
    pub others : old.faithful → IsSameBut path old new

  -- no file was made, and all is as it was
  pub record IsNotMade (fault : CommandFault) (new : SystemState D L) : Type 0 where
    pub why : FileFault
    pub is : fault ≡ of_file why
    pub cause : old.faithful → StandsAgainst why old path new
    pub same : old.faithful → IsSame old new

  -- a file was made, but no database on it: it was taken away again, unless the system failed
  pub record IsTakenAway (pages : ℕ) (admin : TheName) (journal : Bool) (fault : CommandFault) (new : SystemState D L) : Type 0 where
    pub blank : D
    pub left : D
    pub why : OpenFault
    pub is : fault ≡ of_pages why
    pub makes : Makes g.state journal admin (Err why) blank left
    pub is_blank : old.faithful → IsMadeBlank pages blank
    pub removed : old.faithful → IsUnnamed new path ⊎ Rose old.failures new.failures
    pub others : old.faithful → IsSameBut path old new

  -- no database is of so many pages, and nothing was done; or one is, and no file was made or none is left
  abbrev pub IsUnformatted : ℕ → TheName → Bool → CommandFault → SystemState D L → Type 0
  IsUnformatted pages admin journal WrongSize new = IsNoSize pages × IsSame old new
  IsUnformatted pages admin journal fault new = (is_size (8 * pages) ≡ true) × (IsNotMade fault new ⊎ IsTakenAway pages admin journal fault new)

  abbrev pub FormatsFile : ℕ → TheName → Bool → Result (Unit {0}) CommandFault → SystemState D L → Type 0
  FormatsFile pages admin journal (Ok x) new = IsFormatted pages admin journal new
  FormatsFile pages admin journal (Err fault) new = IsUnformatted pages admin journal fault new
