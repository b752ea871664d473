-- A new file that is made of what another one holds: it has one name until it is whole, and another then.
use Rattle.std.specs.Prelude.{◌≡◌, ◌⊎◌, ◌≤◌, ℕ, List, Result, Ok, Err}
use Rattle.sector_device.specs.Device.{KeepsHistory}
use Rattle.sector_device.specs.declared.device.Device.{Ghosts}
use Rattle.sector_device.specs.declared.open_file.FileFault.{FileFault}
use Rattle.systems.specs.declared.access.Access.TheVariants.{Read}
use Rattle.systems.specs.Systems.{HasDevice, IsReadable, IsSame, IsSameBut, IsSameButBoth, IsUnnamed, Rose, SystemState}
use Rattle.cow_pages.specs.Held.{KeepsContent}
use Rattle.databases.specs.Databases.{IsUnwritten}
use Rattle.cli.specs.declared.fault.CommandFault.{CommandFault}
use Rattle.cli.specs.declared.copy_fault.CopyRefusal.{CopyRefusal}
use Rattle.cli.specs.declared.copy_fault.CopyRefusal.TheVariants.{File, New}
use Rattle.cli.specs.Faults.{of_file}
use Rattle.cli.specs.Files.{IsNotOpened}
use Rattle.cli.specs.Formatting.{IsMadeBlank, StandsAgainst}
use Rattle.cli.specs.Copying.{IsSameButThree, StandsAgainstCopy, partial_path}

-- How one is made: its answer is of `A`, or why it stops is of `F`.
pub record Making (D A F : Type 0) : Type 1 where
  -- what making one of so many pages does, by its answer: the device of the file before and after, and that of the new one, of zeros before, and after
  pub does : ℕ → Result A F → D → D → D → D → Type 0
  -- how it is told that one of so many pages stopped
  pub refusal : ℕ → F → CopyRefusal
  -- why none was begun, where the device of the file was read first: that device before and after
  pub unbegun : CopyRefusal → D → D → Type 0
  -- what the new one is, of the device of the file, once it is whole
  pub whole : D → D → Type 0

-- what was made was taken away again, unless the system failed
pub record WasTakenAway {D L : Type 0} (old : SystemState D L) (partial : List ℕ) (new : SystemState D L) : Type 0 where
  pub removed : old.faithful → IsUnnamed new partial ⊎ Rose old.failures new.failures
  pub others : old.faithful → IsSameBut partial old new
  pub counts : old.failures ≤ new.failures

-- ---- once the file is open

-- `g` is what is said of devices, `m` how the new file is made, `old` the system once the file is open, with `device` in it, `partial` the
-- name of the new file until it is whole, and `target` its name then
module _ {D L A F : Type 0} (g : Ghosts D) (m : Making D A F) (old : SystemState D L) (partial target : List ℕ) (device : D) where
  -- nothing was made: all is as it was, and of the file not one sector was written
  pub record IsNotBegun (fault : CopyRefusal) (left : D) (new : SystemState D L) : Type 0 where
    pub history : KeepsHistory (g.state device) (g.state left)
    pub content : (g.state device).faithful → KeepsContent (g.state device) (g.state left)
    pub cause : old.faithful → (g.state device).faithful → StandsAgainstCopy fault old partial target new ⊎ m.unbegun fault device left
    pub same : old.faithful → IsSame old new
    pub counts : old.failures ≤ new.failures

  -- one was tried on this device, which was blank; of the file not one sector was written
  pub record IsTried (pages : ℕ) (result : Result A F) (left blank made : D) : Type 0 where
    pub is_blank : old.faithful → IsMadeBlank g old partial pages blank
    pub does : old.faithful → (g.state device).faithful → m.does pages result device left blank made
    pub history : KeepsHistory (g.state device) (g.state left)
    pub content : (g.state device).faithful → KeepsContent (g.state device) (g.state left)

  -- it stopped
  pub record IsStopped (fault : CopyRefusal) (left : D) (new : SystemState D L) : Type 0 where
    pub pages : ℕ
    pub why : F
    pub is : fault ≡ m.refusal pages why
    pub blank : D
    pub made : D
    pub tried : IsTried pages (Err why) left blank made
    pub taken : WasTakenAway old partial new

  -- it was whole, and did not get its name
  pub record IsNotNamed (fault : CopyRefusal) (left : D) (new : SystemState D L) : Type 0 where
    pub why : FileFault
    pub is : fault ≡ New (of_file why)
    pub cause : old.faithful → StandsAgainst why old target new
    pub pages : ℕ
    pub answer : A
    pub blank : D
    pub made : D
    pub tried : IsTried pages (Ok answer) left blank made
    pub taken : WasTakenAway old partial new

  -- it is whole, and has its name, which nothing had
  pub record IsMade (answer : A) (left : D) (new : SystemState D L) : Type 0 where
    pub pages : ℕ
    pub blank : D
    pub made : D
    pub tried : IsTried pages (Ok answer) left blank made
    pub free : old.faithful → IsUnnamed old target
    pub named : old.faithful → HasDevice new target made
    pub gone : old.faithful → IsUnnamed new partial
    pub others : old.faithful → IsSameButBoth partial target old new
    pub counts : old.failures ≤ new.failures

  abbrev pub IsUnmade : CopyRefusal → D → SystemState D L → Type 0
  IsUnmade fault left new = IsNotBegun fault left new ⊎ IsStopped fault left new ⊎ IsNotNamed fault left new

  abbrev pub MakesBeside : Result A CopyRefusal → D → SystemState D L → Type 0
  MakesBeside (Ok answer) left new = IsMade answer left new
  MakesBeside (Err fault) left new = IsUnmade fault left new

-- under the name of the new file a stop leaves what it might have left before, or a whole one of this device
abbrev pub LeavesMadeOf : {D L A F : Type 0} → Making D A F → D → List ℕ → SystemState D L → SystemState D L → Type 0
LeavesMadeOf {D} m device target old new = (made : D) → new.left target made → old.left target made ⊎ m.whole device made

-- ---- from file to file

-- `path` is that of the file, `target` that of the new one, and `state` what a system is at one moment
module _ {D L S A F : Type 0} (g : Ghosts D) (state : S → SystemState D L) (m : Making D A F) (old : SystemState D L) (path target : List ℕ) where
  -- the path named this device, which nobody wrote, and names that one now: not one sector of it was written
  pub record KeepsFile (device left : D) (new : SystemState D L) : Type 0 where
    pub opened : IsReadable old path device
    pub closed : IsReadable new path left
    pub unwritten : IsUnwritten (g.state device) (g.state left)

  -- the target, which nothing had for its name, names a device now, blank before, which was made so
  pub record IsFileMade (answer : A) (new : SystemState D L) : Type 0 where
    pub device : D
    pub left : D
    pub pages : ℕ
    pub blank : D
    pub made : D
    pub keeps : old.faithful → KeepsFile device left new
    pub is_blank : old.faithful → IsMadeBlank g old (partial_path target) pages blank
    pub does : old.faithful → m.does pages (Ok answer) device left blank made
    pub free : old.faithful → IsUnnamed old target
    pub named : old.faithful → HasDevice new target made
    pub gone : old.faithful → IsUnnamed new (partial_path target)
    pub others : old.faithful → IsSameButThree path (partial_path target) target old new

  -- the file was not opened to be read, and all is as it was
  pub record IsFileUnread (fault : CopyRefusal) (new : SystemState D L) : Type 0 where
    pub why : CommandFault
    pub is : fault ≡ File why
    pub unopened : IsNotOpened g old path Read why new

  -- the file was opened and is there as it was, but none was made of it: this is how it went between `begun` and `ended`, and nothing is
  -- left of it unless the system failed
  pub record IsFileUnmade (fault : CopyRefusal) (new : SystemState D L) : Type 0 where
    pub device : D
    pub left : D
    pub begun : S
    pub ended : S
    pub keeps : old.faithful → KeepsFile device left new
    pub opening : old.faithful → IsSameBut path old (state begun)
    pub faithful : old.faithful → (g.state device).faithful
    pub why : IsUnmade g m (state begun) (partial_path target) target device fault left (state ended)
    pub closing : old.faithful → IsSameBut path (state ended) new
    pub others : old.faithful → IsSameButBoth path (partial_path target) old new

  abbrev pub MakesFile : Result A CopyRefusal → SystemState D L → Type 0
  MakesFile (Ok answer) new = IsFileMade answer new
  MakesFile (Err fault) new = IsFileUnread fault new ⊎ IsFileUnmade fault new

-- under the name of the new file a stop leaves what it might have left before, or a whole one of the device that this path names
abbrev pub LeavesMade : {D L A F : Type 0} → Making D A F → List ℕ → List ℕ → SystemState D L → SystemState D L → Type 0
LeavesMade {D} m path target old new = (made : D) → new.left target made → old.left target made ⊎ ((device : D) × IsReadable old path device × m.whole device made)
