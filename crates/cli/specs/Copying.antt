-- What copying the database in a file to a new file does.
use Rattle.std.specs.Prelude.{◌≡◌, ◌≢◌, ◌⊎◌, ◌≤◌, ◌++◌, ℕ, List, codes, Result, Ok, Err}
use Rattle.sector_device.specs.Device.{KeepsHistory}
use Rattle.sector_device.specs.declared.device.Device.{Ghosts}
use Rattle.sector_device.specs.declared.open_file.FileFault.{FileFault}
use Rattle.systems.specs.declared.access.Access.TheVariants.{Read}
use Rattle.systems.specs.Places.{ThePlace}
use Rattle.systems.specs.Systems.{HasDevice, IsNamed, IsOpen, IsReadable, IsSame, IsSameBut, IsSameButBoth, IsUnnamed, Rose, SystemState}
use Rattle.cow_pages.specs.Held.{KeepsContent}
use Rattle.copies.specs.declared.fault.CopyFault.{CopyFault}
use Rattle.copies.specs.DatabaseCopies.{CopiesDatabase}
use Rattle.databases.specs.Databases.{IsUnwritten}
use Rattle.cli.specs.declared.fault.CommandFault.{CommandFault}
use Rattle.cli.specs.declared.fault.CommandFault.TheVariants as command
use Rattle.cli.specs.declared.copy_fault.CopyRefusal.{CopyRefusal}
use Rattle.cli.specs.declared.copy_fault.CopyRefusal.TheVariants.{File, New}
use Rattle.cli.specs.CopyFaults.{of_copy}
use Rattle.cli.specs.Faults.{of_file}
use Rattle.cli.specs.Files.{IsNotOpened}
use Rattle.cli.specs.Formatting.{IsMadeBlank, IsNoSize, StandsAgainst}

-- the name that a copy has until it is whole
abbrev pub partial_path : List ℕ → List ℕ
partial_path target = target ++ codes ".partial"

-- ---- once the file is open

-- why nothing was made for the copy: its name is taken, or that until it is whole; no memory was left; or a call of the system failed
abbrev pub StandsAgainstCopy : {D L : Type 0} → CopyRefusal → SystemState D L → List ℕ → List ℕ → SystemState D L → Type 0
StandsAgainstCopy (New command.Exists) old partial target new = IsNamed old target
StandsAgainstCopy (New command.Memory) old partial target new = Unit {0}
StandsAgainstCopy (New (command.Device cause)) old partial target new = Rose old.failures new.failures
StandsAgainstCopy (New command.Partial) old partial target new = IsNamed old partial
StandsAgainstCopy fault old partial target new = ⊥

-- a copy that is whole got its name, which nothing had; or it did not, and was taken away, unless the system failed
pub record IsRenamed {D L : Type 0} (old : SystemState D L) (partial target : List ℕ) (copy : D) (new : SystemState D L) : Type 0 where
  pub free : old.faithful → IsUnnamed old target
  pub named : old.faithful → IsOpen old partial → HasDevice new target copy
  pub gone : old.faithful → IsOpen old partial → IsUnnamed new partial
  pub others : old.faithful → IsSameButBoth partial target old new
  pub counts : old.failures ≤ new.failures

pub record IsNotRenamed {D L : Type 0} (old : SystemState D L) (partial target : List ℕ) (fault : CopyRefusal) (new : SystemState D L) : Type 0 where
  pub why : FileFault
  pub is : fault ≡ New (of_file why)
  pub cause : old.faithful → StandsAgainst why old target new
  pub removed : old.faithful → IsOpen old partial → IsUnnamed new partial ⊎ Rose old.failures new.failures
  pub others : old.faithful → IsSameBut partial old new
  pub counts : old.failures ≤ new.failures

abbrev pub Renames : {D L : Type 0} → SystemState D L → List ℕ → List ℕ → D → Result (Unit {0}) CopyRefusal → SystemState D L → Type 0
Renames old partial target copy (Ok x) new = IsRenamed old partial target copy new
Renames old partial target copy (Err fault) new = IsNotRenamed old partial target fault new

-- `g` is what is said of devices, `old` the system once the file is open, with `device` in it, `partial` the
-- name of a copy until it is whole, and `target` its name then
module _ {D L : Type 0} (g : Ghosts D) (old : SystemState D L) (partial target : List ℕ) (pages : ℕ) (device : D) where
  -- nothing was made: all is as it was, and so is the file
  pub record IsNotBegun (fault : CopyRefusal) (left : D) (new : SystemState D L) : Type 0 where
    pub unread : left ≡ device
    pub cause : old.faithful → StandsAgainstCopy fault old partial target new
    pub same : old.faithful → IsSame old new
    pub counts : old.failures ≤ new.failures

  -- a copy was tried on this device, which was blank; not one sector of the file was written
  pub record IsTried (result : Result (Unit {0}) CopyFault) (left blank copy : D) : Type 0 where
    pub is_blank : old.faithful → IsMadeBlank g old partial pages blank
    pub copies : (g.state device).faithful → CopiesDatabase (g.state device) (g.state left) g.state result blank copy
    pub history : KeepsHistory (g.state device) (g.state left)
    pub content : (g.state device).faithful → KeepsContent (g.state device) (g.state left)

  -- it was taken away again, unless the system failed
  pub record WasTakenAway (new : SystemState D L) : Type 0 where
    pub removed : old.faithful → IsUnnamed new partial ⊎ Rose old.failures new.failures
    pub others : old.faithful → IsSameBut partial old new
    pub counts : old.failures ≤ new.failures

  -- it stopped
  pub record IsStopped (fault : CopyRefusal) (left : D) (new : SystemState D L) : Type 0 where
    pub why : CopyFault
    pub is : fault ≡ of_copy pages why
    pub blank : D
    pub copy : D
    pub tried : IsTried (Err why) left blank copy
    pub taken : WasTakenAway new

  -- it was whole, and did not get its name
  pub record IsNotNamed (fault : CopyRefusal) (left : D) (new : SystemState D L) : Type 0 where
    pub why : FileFault
    pub is : fault ≡ New (of_file why)
    pub cause : old.faithful → StandsAgainst why old target new
    pub blank : D
    pub copy : D
    pub tried : IsTried (Ok tt) left blank copy
    pub taken : WasTakenAway new

  -- it is whole, and has its name, which nothing had
  pub record IsCopied (left : D) (new : SystemState D L) : Type 0 where
    pub blank : D
    pub copy : D
    pub tried : IsTried (Ok tt) left blank copy
    pub free : old.faithful → IsUnnamed old target
    pub named : old.faithful → HasDevice new target copy
    pub gone : old.faithful → IsUnnamed new partial
    pub others : old.faithful → IsSameButBoth partial target old new
    pub counts : old.failures ≤ new.failures

  abbrev pub IsUncopied : CopyRefusal → D → SystemState D L → Type 0
  IsUncopied fault left new = IsNotBegun fault left new ⊎ IsStopped fault left new ⊎ IsNotNamed fault left new

  abbrev pub CopiesBeside : Result (Unit {0}) CopyRefusal → D → SystemState D L → Type 0
  CopiesBeside (Ok x) left new = IsCopied left new
  CopiesBeside (Err fault) left new = IsUncopied fault left new

-- ---- from file to file

-- all is as it was but for what these three paths name
pub record IsSameButThree {D L : Type 0} (one other third : List ℕ) (old new : SystemState D L) : Type 0 where
  pub faithful : old.faithful → new.faithful
  pub devices : (path : List ℕ) → path ≢ one → path ≢ other → path ≢ third → new.devices path ≡ old.devices path
  pub texts : (path : List ℕ) → path ≢ one → path ≢ other → path ≢ third → new.texts path ≡ old.texts path
  pub names : (path : List ℕ) → path ≢ one → path ≢ other → path ≢ third → new.is_named path ≡ old.is_named path
  pub listeners : (place : ThePlace) → new.listeners place ≡ old.listeners place

-- `path` is that of the file, and `target` that of the copy
module _ {D L : Type 0} (g : Ghosts D) (old : SystemState D L) (path target : List ℕ) (pages : ℕ) where
  -- the path named this device, which nobody wrote, and names that one now: not one sector of it was written
  pub record KeepsFile (device left : D) (new : SystemState D L) : Type 0 where
    pub opened : IsReadable old path device
    pub closed : IsReadable new path left
    pub unwritten : IsUnwritten (g.state device) (g.state left)

  -- the target, which nothing had for its name, names a device now, blank before, to which the database was copied
  pub record IsFileCopied (new : SystemState D L) : Type 0 where
    pub device : D
    pub left : D
    pub blank : D
    pub copy : D
    pub keeps : old.faithful → KeepsFile device left new
    pub is_blank : old.faithful → IsMadeBlank g old (partial_path target) pages blank
    pub copies : old.faithful → CopiesDatabase (g.state device) (g.state left) g.state (Ok tt) blank copy
    pub free : old.faithful → IsUnnamed old target
    pub named : old.faithful → HasDevice new target copy
    pub gone : old.faithful → IsUnnamed new (partial_path target)
    pub others : old.faithful → IsSameButThree path (partial_path target) target old new

  -- the file was not opened to be read, and all is as it was
  pub record IsFileUnread (fault : CopyRefusal) (new : SystemState D L) : Type 0 where
    pub why : CommandFault
    pub is : fault ≡ File why
    pub unopened : IsNotOpened g old path Read why new

  -- no database is of so many pages, and nothing was done
  pub record IsOfNoSize (fault : CopyRefusal) (new : SystemState D L) : Type 0 where
    pub is : fault ≡ New command.WrongSize
    pub no_size : IsNoSize pages
    pub same : IsSame old new

-- `state` is what a system is at one moment
module _ {D L S : Type 0} (g : Ghosts D) (state : S → SystemState D L) (old : SystemState D L) (path target : List ℕ) (pages : ℕ) where
  -- the file was opened and is there as it was, but not copied: this is how it went between `begun` and `ended`, and nothing is left
  -- of the copy unless the system failed
  pub record IsFileUncopied (fault : CopyRefusal) (new : SystemState D L) : Type 0 where
    pub device : D
    pub left : D
    pub begun : S
    pub ended : S
    pub keeps : old.faithful → KeepsFile g old path target pages device left new
    pub opening : old.faithful → IsSameBut path old (state begun)
    pub why : IsUncopied g (state begun) (partial_path target) target pages device fault left (state ended)
    pub closing : old.faithful → IsSameBut path (state ended) new
    pub others : old.faithful → IsSameButBoth path (partial_path target) old new

  abbrev pub CopiesFile : Result (Unit {0}) CopyRefusal → SystemState D L → Type 0
  CopiesFile (Ok x) new = IsFileCopied g old path target pages new
  CopiesFile (Err fault) new = IsOfNoSize g old path target pages fault new ⊎ IsFileUnread g old path target pages fault new ⊎ IsFileUncopied fault new
