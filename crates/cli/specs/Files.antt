-- The file of a database, which a path of a system names: how it is opened, and what is there afterwards.
use Rattle.std.specs.Prelude.{◌≡◌, ◌⊎◌, ◌≤◌, ℕ, List, Result, MatchResult}
use Rattle.sector_device.specs.declared.device.Device.{Ghosts}
use Rattle.systems.specs.declared.fault.OpenPathFault.{OpenPathFault}
use Rattle.systems.specs.declared.fault.OpenPathFault.TheVariants.{Missing, InUse, PrintedTo, Memory, Device}
use Rattle.systems.specs.declared.access.Access.{Access}
use Rattle.systems.specs.declared.access.Access.TheVariants.{Write}
use Rattle.systems.specs.Systems.{SystemState, HasDevice, IsHeldFrom, IsOpen, IsReadable, IsSame, IsSameBut, IsUnnamed, Rose}
use Rattle.databases.specs.declared.database.Opened.{Opened}
use Rattle.databases.specs.declared.fault.DatabaseFault.{DatabaseFault}
use Rattle.databases.specs.Openings.{IsOpenedOn, IsRefused}
use Rattle.cli.specs.declared.fault.CommandFault.{CommandFault}
use Rattle.cli.specs.Faults.{of_opening, of_path}

-- why the device of a path was not opened so: nothing is there; it is open, or in use elsewhere; no memory was left; or a call of the system
-- failed. To no device of a faithful system the program prints
abbrev pub StandsAt : {D L : Type 0} → Access → OpenPathFault → SystemState D L → List ℕ → SystemState D L → Type 0
StandsAt access Missing old path new = IsUnnamed old path
StandsAt access InUse old path new = IsHeldFrom access old path
StandsAt access PrintedTo old path new = ⊥
StandsAt access Memory old path new = Unit {0}
StandsAt access (Device cause) old path new = Rose old.failures new.failures

-- `g` is what is said of devices, `old` the system before, and `path` that of the file
module _ {D L : Type 0} (g : Ghosts D) (old : SystemState D L) (path : List ℕ) where
  -- the path named this device before and names that one now, and nothing else has changed
  pub record ChangesDevice (device left : D) (new : SystemState D L) : Type 0 where
    pub opened : HasDevice old path device
    pub closed : HasDevice new path left
    pub others : IsSameBut path old new

  -- the path named this device, which nobody writes, and names that one now, and nothing else has changed
  pub record ReadsDevice (device left : D) (new : SystemState D L) : Type 0 where
    pub opened : IsReadable old path device
    pub closed : IsReadable new path left
    pub others : IsSameBut path old new

  -- a database was opened, that of the device that the path named; the file is open
  pub record IsOpenedAt {X : Type 0} (opened : Opened D X g) (mid : SystemState D L) : Type 0 where
    pub device : D
    pub named : old.faithful → HasDevice old path device
    pub is_opened : old.faithful → IsOpenedOn (g.state device) opened
    pub is_open : old.faithful → IsOpen mid path
    pub others : old.faithful → IsSameBut path old mid
    pub counts : old.failures ≤ mid.failures

  -- the file was not opened so, and all is as it was
  pub record IsNotOpened (access : Access) (fault : CommandFault) (new : SystemState D L) : Type 0 where
    pub why : OpenPathFault
    pub is : fault ≡ of_path why
    pub cause : old.faithful → StandsAt access why old path new
    pub same : old.faithful → IsSame old new
    pub counts : old.failures ≤ new.failures

  -- it was, and what it holds was refused: it is there as opening it has left it
  pub record IsRefusedAt (fault : CommandFault) (new : SystemState D L) : Type 0 where
    pub device : D
    pub left : D
    pub why : DatabaseFault
    pub is : fault ≡ of_opening why
    pub changes : old.faithful → ChangesDevice device left new
    pub refused : old.faithful → IsRefused (g.state device) why (g.state left)

  abbrev pub IsUnopened : CommandFault → SystemState D L → Type 0
  IsUnopened fault new = IsNotOpened Write fault new ⊎ IsRefusedAt fault new

  abbrev pub OpensAt : {X : Type 0} → Result (Opened D X g) CommandFault → SystemState D L → Type 0
  OpensAt result mid = MatchResult result (λ opened. IsOpenedAt opened mid) (λ fault. IsUnopened fault mid)
