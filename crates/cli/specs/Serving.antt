-- What serving the database in a file at a place does.
use Rattle.std.specs.Prelude.{◌≡◌, ◌≢◌, ◌≤◌, ◌++◌, ℕ, Bool, List, [], ◌∷◌, codes, decimal, Option, Result, Ok, Err}
use Rattle.std.specs.Io.KnownBytes.{Appends}
use Rattle.sector_device.specs.Device.{IsSynced}
use Rattle.sector_device.specs.declared.device.Device.{Ghosts}
use Rattle.systems.specs.declared.place.ListenPlace.{ListenPlace}
use Rattle.systems.specs.declared.place.ListenPlace.TheVariants.{Port, Socket, PostgresFolder, Each}
use Rattle.systems.specs.declared.place.OnePlace.{OnePlace}
use Rattle.systems.specs.declared.place.OnePlace.TheVariants as one
use Rattle.systems.specs.Places.{IsPlaceApart, IsBoundFor, IsOfKind, ThePlace, TheSocket, the_place}
use Rattle.systems.specs.Systems.{HasDevice, Hears, IsSame, IsSameButAt, Rose, SystemState}
use Rattle.abstract_database.specs.Runs.{ReadingRelation}
use Rattle.journal_store.specs.declared.device_stores.DeviceStore.{DeviceStore}
use Rattle.server.specs.declared.server.Server.{Server}
use Rattle.wire.specs.declared.sink.Sink.{Ghosts as SinkGhosts}
use Rattle.wire.specs.ScriptRun.{Known}
use Rattle.wire.specs.declared.listener.Served.{Served}
use Rattle.wire.specs.Listening.{Listening}
use Rattle.databases.specs.Openings.{device_under, state_under}
use Rattle.databases.specs.Runs.{ServesFrom}
use Rattle.cli.specs.declared.fault.CommandFault.{CommandFault}
use Rattle.cli.specs.declared.fault.CommandFault.TheVariants.{Net, Output}
use Rattle.cli.specs.declared.opened.CommandEnd.{CommandEnd}
use Rattle.cli.specs.Commands.{IsFileOpened, IsFileUnopened}
use Rattle.cli.specs.Files.{ChangesDevice}

-- at one of several places the server listens
abbrev pub listening_line : OnePlace → List ℕ
listening_line (one.Port port) = codes "guarddb: listening on 127.0.0.1:" ++ (decimal port ++ codes "\n")
listening_line (one.Socket path access) = codes "guarddb: listening on " ++ (path.now ++ codes "\n")
listening_line (one.PostgresFolder folder access) = codes "guarddb: listening on " ++ (folder.now ++ codes "/.s.PGSQL.5432\n")

-- a line for each, in their order
abbrev pub listening_lines : List OnePlace → List ℕ
listening_lines [] = []
listening_lines (p ∷ places) = listening_line p ++ listening_lines places

-- where the server listens
abbrev pub listening_text : ListenPlace → List ℕ
listening_text (Port port) = codes "guarddb: listening on 127.0.0.1:" ++ (decimal port ++ codes "\n")
listening_text (Socket path) = codes "guarddb: listening on " ++ (path.now ++ codes "\n")
listening_text (PostgresFolder folder) = codes "guarddb: listening on " ++ (folder.now ++ codes "/.s.PGSQL.5432\n")
listening_text (Each places) = listening_lines places.now

-- ---- a listener

-- it was told where the server listens, and then the connections that came to the listener were served, so many at most; or that
-- was not taken, and none was taken then
module _ {D X K : Type 0} (g : Ghosts D) (k : SinkGhosts K) (Reads : ReadingRelation) (place : ListenPlace) (asked : ℕ) (server : Server (DeviceStore D g) X) (before : Option Listening) (told_before : Known) where
  abbrev pub ServesOn : Result Served CommandFault → D → Option Listening → Known → Type 0
  ServesOn (Ok served) left after told_after = Appends told_before told_after (listening_text place) × ServesFrom g k Reads asked server before served left after
  ServesOn (Err Output) left after told_after = (left ≡ device_under server) × (after ≡ before)
  ServesOn (Err fault) left after told_after = ⊥

-- ---- a place

-- the place was bound, with this listener there, and given up, with that one there; nothing else has changed
pub record IsBoundBetween {D L : Type 0} (old : SystemState D L) (place bound : ListenPlace) (listener ended : L) (new : SystemState D L) : Type 0 where
  pub kind : IsOfKind (the_place place) (the_place bound)
  pub asked : old.faithful → IsBoundFor (the_place place) (the_place bound)
  pub heard : old.faithful → Hears old (the_place bound) listener
  pub unbound : old.faithful → Hears new (the_place bound) ended
  pub others : old.faithful → IsSameButAt (the_place bound) old new

-- `c` is what is said of the sinks of connections, and `listening` of listeners
module _ {D L X C : Type 0} (g : Ghosts D) (c : SinkGhosts C) (Reads : ReadingRelation) (listening : L → Option Listening) (old : SystemState D L) (place : ListenPlace) (asked : ℕ) (server : Server (DeviceStore D g) X) (before : Known) where
  -- it was bound and told, and the connections that came there were served
  pub record IsServedAt (served : Served) (left : D) (new : SystemState D L) (after : Known) : Type 0 where
    pub bound : ListenPlace
    pub listener : L
    pub ended : L
    pub between : IsBoundBetween old place bound listener ended new
    pub told : Appends before after (listening_text bound)
    pub serves : ServesFrom g c Reads asked server (listening listener) served left (listening ended)

  -- it was not bound, and nothing was done
  pub record IsNotBound (left : D) (new : SystemState D L) (after : Known) : Type 0 where
    pub left_is : left ≡ device_under server
    pub failed : Rose old.failures new.failures
    pub counts : old.failures ≤ new.failures
    pub same : old.faithful → IsSame old new
    pub silent : after ≡ before

  -- it was bound, and standard error did not take where that is: no connection was taken
  pub record IsUntoldAt (left : D) (new : SystemState D L) : Type 0 where
    pub left_is : left ≡ device_under server
    pub bound : ListenPlace
    pub listener : L
    pub ended : L
    pub between : IsBoundBetween old place bound listener ended new
    pub none_taken : listening ended ≡ listening listener

  abbrev pub ServesAt : Result Served CommandFault → D → SystemState D L → Known → Type 0
  ServesAt (Ok served) left new after = IsServedAt served left new after
  ServesAt (Err (Net cause)) left new after = IsNotBound left new after
  ServesAt (Err Output) left new after = IsUntoldAt left new
  ServesAt (Err fault) left new after = ⊥

-- ---- a place and a file

-- all is as it was but for what this path names, what this place and its parts hear and, of a socket, whether its file is there
pub record IsSameBeside {D L : Type 0} (path : List ℕ) (place : ThePlace) (old new : SystemState D L) : Type 0 where
  pub faithful : old.faithful → new.faithful
  pub devices : (p : List ℕ) → p ≢ path → new.devices p ≡ old.devices p
  pub texts : (p : List ℕ) → p ≢ path → new.texts p ≡ old.texts p
  pub names : (p : List ℕ) → p ≢ path → IsPlaceApart (TheSocket p) place → new.is_named p ≡ old.is_named p
  pub listeners : (p : ThePlace) → IsPlaceApart p place → new.listeners p ≡ old.listeners p

-- the path named this device before and names that one now; who binds the place got this listener before and gets that one now;
-- and nothing else has changed
pub record ChangesBoth {D L : Type 0} (old : SystemState D L) (path : List ℕ) (place : ThePlace) (device left : D) (listener ended : L) (new : SystemState D L) : Type 0 where
  pub opened : HasDevice old path device
  pub closed : HasDevice new path left
  pub heard : Hears old place listener
  pub unbound : Hears new place ended
  pub others : IsSameBeside path place old new

-- `X` decides events, and `path` is that of the file
module _ (X : Type 0) {D L C : Type 0} (g : Ghosts D) (c : SinkGhosts C) (Reads : ReadingRelation) (listening : L → Option Listening) (old : SystemState D L) (path : List ℕ) (place : ListenPlace) (asked : ℕ) where
  -- the database was opened, of which a stop left each sector as it was read then, and the place bound, it was told where, and the
  -- connections that came to its listener were served, so many at most; the file is there as the server has left it
  pub record IsFileServed (told : Bool) (before : Known) (served : Served) (new : SystemState D L) (after : Known) : Type 0 where
    pub noted : Known
    pub file : IsFileOpened X g old path told before noted
    pub renewed : old.faithful → IsSynced (state_under file.opened.server)
    pub bound : ListenPlace
    pub kind : IsOfKind (the_place place) (the_place bound)
    pub asked_for : old.faithful → IsBoundFor (the_place place) (the_place bound)
    pub tells : Appends noted after (listening_text bound)
    pub listener : L
    pub ended : L
    pub left : D
    pub serves : ServesFrom g c Reads asked file.opened.server (listening listener) served left (listening ended)
    pub changes : old.faithful → ChangesBoth old path (the_place bound) file.device left listener ended new

  -- the database was opened, and the place not bound: the file is there as opening it has left it
  pub record IsFileUnbound (told : Bool) (before : Known) (new : SystemState D L) (after : Known) : Type 0 where
    pub file : IsFileOpened X g old path told before after
    pub failed : Rose old.failures new.failures
    pub changes : old.faithful → ChangesDevice g old path file.device (device_under file.opened.server) new

  -- the database was opened and the place bound, and standard error did not take where that is: no connection was taken, and the
  -- file is there as opening it has left it
  pub record IsFileUntold (told : Bool) (before : Known) (new : SystemState D L) : Type 0 where
    pub noted : Known
    pub file : IsFileOpened X g old path told before noted
    pub bound : ListenPlace
    pub kind : IsOfKind (the_place place) (the_place bound)
    pub asked_for : old.faithful → IsBoundFor (the_place place) (the_place bound)
    pub listener : L
    pub ended : L
    pub none_taken : listening ended ≡ listening listener
    pub changes : old.faithful → ChangesBoth old path (the_place bound) file.device (device_under file.opened.server) listener ended new

  -- why no connection was served: once the database was opened, the place was not bound, or standard error did not take where it
  -- is; or none was opened
  abbrev pub IsUnserved : Bool → Known → CommandFault → SystemState D L → Known → Type 0
  IsUnserved told before (Net cause) new after = IsFileUnbound told before new after
  IsUnserved told before Output new after = IsFileUntold told before new
  IsUnserved told before fault new after = IsFileUnopened X g old path fault told before new after

  -- it was served, or it was not
  abbrev pub ServesAs : Bool → Known → Result Served CommandFault → SystemState D L → Known → Type 0
  ServesAs told before (Ok served) new after = IsFileServed told before served new after
  ServesAs told before (Err fault) new after = IsUnserved told before fault new after

  abbrev pub ServesFile : Known → CommandEnd Served → SystemState D L → Known → Type 0
  ServesFile before end new after = ServesAs end.told before end.outcome new after
