-- The connections that were served over the database that was opened, at the place that was asked for.
use Rattle.std.proofs.Common.{◌≤◌, ◌∙◌, ℕ, Bool, List, Result, Ok, Err, Option, sym, subst}
use Rattle.sector_device.specs.Device.{IsSynced}
use Rattle.sector_device.specs.declared.device.Device.{Ghosts}
use Rattle.systems.specs.declared.place.ListenPlace.{ListenPlace}
use Rattle.systems.specs.Places.{the_place}
use Rattle.systems.specs.Systems.{HasDevice, IsOpen, IsSameBut, SystemState}
use Rattle.abstract_database.specs.Runs.{ReadingRelation}
use Rattle.journal_store.specs.declared.device_stores.DeviceStore.{DeviceStore}
use Rattle.server.specs.declared.server.Server.{Server}
use Rattle.wire.specs.declared.sink.Sink.{Ghosts as SinkGhosts}
use Rattle.wire.specs.ScriptRun.{Known}
use Rattle.wire.specs.declared.listener.Served.{Served}
use Rattle.wire.specs.Listening.{Listening}
use Rattle.databases.specs.declared.database.Opened.{Opened}
use Rattle.databases.specs.Openings.{device_under, state_under}
use Rattle.cli.specs.declared.fault.CommandFault.{CommandFault}
use Rattle.cli.specs.declared.fault.CommandFault.TheVariants.{Exists, InUse, Memory, Device, WrongSize, NotADatabase, NewerFormat, Damaged, Full, Number, PrintedTo, Net, Partial, NoRoom, NotADump, OtherDump, DamagedDump, NoDumpRoom, ScriptUnread, ScriptNotUtf8, NoPassword, ManyLines, NoRole, StatementRefused, NotOverRows, FirstFormat, NoSwitchRoom, NoSwitchNumber, Output}
use Rattle.cli.specs.Files.{ChangesDevice, IsOpenedAt}
use Rattle.cli.specs.Migrations.{TellsMigration}
use Rattle.cli.specs.Serving.{ChangesBoth, IsBoundBetween, IsNotBound, ServesAs, ServesAt, ServesOn}
use Rattle.cli.proofs.Changes.{but_then_same, closed_again, rose_between}

-- ---- a file and a place

module _ {D L X : Type 0} (g : Ghosts D) (old mid end new : SystemState D L) (path : List ℕ) (place : ListenPlace) (opened : Opened D X g) (at : IsOpenedAt g old path opened mid) where
  -- the device and the listener, from before the opening to after the closing
  pub both_changed : (bound : ListenPlace) (listener ended : L) (left : D) → IsBoundBetween mid place bound listener ended end → (end.faithful → IsOpen end path → HasDevice new path left)
      → (end.faithful → IsSameBut path end new) → old.faithful → ChangesBoth old path (the_place bound) at.device left listener ended new
  both_changed bound listener ended left between closed closing is =
      let opening = at.others is in
      let at_mid = opening.faithful is in
      let bound_so = between.others at_mid in
      let at_end = bound_so.faithful at_mid in
      let last = closing at_end in
      record {
        opened = at.named is;
        closed = closed at_end (bound_so.devices path ∙ at.is_open is);
        heard = sym (opening.listeners (the_place bound)) ∙ between.heard at_mid;
        unbound = last.listeners (the_place bound) ∙ between.unbound at_mid;
        others = record {
          faithful = λ faithful. last.faithful (bound_so.faithful (opening.faithful faithful));
          devices = λ p other. last.devices p other ∙ bound_so.devices p ∙ opening.devices p other;
          texts = λ p other. last.texts p other ∙ bound_so.texts p ∙ opening.texts p other;
          names = λ p other no_socket. last.names p other ∙ bound_so.names p no_socket ∙ opening.names p other;
          listeners = λ p other. last.listeners p ∙ bound_so.listeners p other ∙ opening.listeners p;
        };
      }

-- ---- at a place that was bound

module _ {D L X C : Type 0} (g : Ghosts D) (c : SinkGhosts C) (Reads : ReadingRelation) (listening : L → Option Listening) (old new : SystemState D L) (place bound : ListenPlace) (asked : ℕ) (server : Server (DeviceStore D g) X) (before after : Known)
    (listener ended : L) (left : D) (between : IsBoundBetween old place bound listener ended new) where
  pub served_at : (result : Result Served CommandFault) → ServesOn g c Reads bound asked server (listening listener) before result left (listening ended) after → ServesAt g c Reads listening old place asked server before result left new after
  served_at (Ok served) it = record { bound = bound; listener = listener; ended = ended; between = between; told = it.0; serves = it.1 }
  served_at (Err Output) it = record { left_is = it.0; bound = bound; listener = listener; ended = ended; between = between; none_taken = it.1 }
  served_at (Err (Net cause)) it = absurd it
  served_at (Err Exists) it = absurd it
  served_at (Err InUse) it = absurd it
  served_at (Err Memory) it = absurd it
  served_at (Err (Device cause)) it = absurd it
  served_at (Err WrongSize) it = absurd it
  served_at (Err NotADatabase) it = absurd it
  served_at (Err (NewerFormat format)) it = absurd it
  served_at (Err Damaged) it = absurd it
  served_at (Err Full) it = absurd it
  served_at (Err Number) it = absurd it
  served_at (Err Partial) it = absurd it
  served_at (Err (NoRoom pages least)) it = absurd it
  served_at (Err NotADump) it = absurd it
  served_at (Err (OtherDump version)) it = absurd it
  served_at (Err DamagedDump) it = absurd it
  served_at (Err (NoDumpRoom pages)) it = absurd it
  served_at (Err (ScriptUnread cause)) it = absurd it
  served_at (Err (ScriptNotUtf8 line byte)) it = absurd it
  served_at (Err NoPassword) it = absurd it
  served_at (Err ManyLines) it = absurd it
  served_at (Err NoRole) it = absurd it
  served_at (Err (StatementRefused code)) it = absurd it
  served_at (Err NotOverRows) it = absurd it
  served_at (Err FirstFormat) it = absurd it
  served_at (Err NoSwitchRoom) it = absurd it
  served_at (Err NoSwitchNumber) it = absurd it
  served_at (Err PrintedTo) it = absurd it

-- ---- once the database was opened

module _ (X : Type 0) {D L C : Type 0} (g : Ghosts D) (c : SinkGhosts C) (Reads : ReadingRelation) (listening : L → Option Listening) (old mid end new : SystemState D L) (path : List ℕ) (place : ListenPlace) (asked : ℕ) (told : Bool) (before noted after : Known)
    (opened : Opened D X g) (at : IsOpenedAt g old path opened mid) (renewed : old.faithful → IsSynced (state_under opened.server)) (tells : TellsMigration opened.was_migrated path told before noted) where
  -- the device, where the place was not bound
  device_changed : (left : D) → IsNotBound g c Reads listening mid place asked opened.server noted left end after → (end.faithful → IsOpen end path → HasDevice new path left) → (end.faithful → IsSameBut path end new)
      → old.faithful → ChangesDevice g old path at.device (device_under opened.server) new
  device_changed left none closed closing is =
      let at_mid = (at.others is).faithful is in
      let same = none.same at_mid in
      subst (λ (d : D). ChangesDevice g old path at.device d new) none.left_is
      (closed_again g path at.device left old end new (at.named is) (same.devices path ∙ at.is_open is) (but_then_same path old mid end (at.others is) same) closed closing is)

  pub served_so : (result : Result Served CommandFault) (left : D) → (end.faithful → IsOpen end path → HasDevice new path left) → (end.faithful → IsSameBut path end new) → end.failures ≤ new.failures
      → ServesAt g c Reads listening mid place asked opened.server noted result left end after → ServesAs X g c Reads listening old path place asked told before result new after
  served_so (Ok served) left closed closing counts it = record {
    noted = noted;
    file = record { device = at.device; opened = opened; is_opened = at.is_opened; tells = tells };
    renewed = renewed;
    bound = it.bound;
    kind = it.between.kind;
    asked_for = λ is. it.between.asked ((at.others is).faithful is);
    tells = it.told;
    listener = it.listener;
    ended = it.ended;
    left = left;
    serves = it.serves;
    changes = both_changed g old mid end new path place opened at it.bound it.listener it.ended left it.between closed closing;
  }
  served_so (Err (Net cause)) left closed closing counts it = record {
    file = record {
      device = at.device;
      opened = opened;
      is_opened = at.is_opened;
      tells = subst (λ (known : Known). TellsMigration opened.was_migrated path told before known) (sym it.silent) tells;
    };
    failed = rose_between old.failures mid.failures end.failures new.failures at.counts it.counts counts it.failed;
    changes = device_changed left it closed closing;
  }
  served_so (Err Output) left closed closing counts it = record {
    noted = noted;
    file = record { device = at.device; opened = opened; is_opened = at.is_opened; tells = tells };
    bound = it.bound;
    kind = it.between.kind;
    asked_for = λ is. it.between.asked ((at.others is).faithful is);
    listener = it.listener;
    ended = it.ended;
    none_taken = it.none_taken;
    changes = λ is. subst (λ (d : D). ChangesBoth old path (the_place it.bound) at.device d it.listener it.ended new) it.left_is (both_changed g old mid end new path place opened at it.bound it.listener it.ended left it.between closed closing is);
  }
  served_so (Err Exists) left closed closing counts it = absurd it
  served_so (Err InUse) left closed closing counts it = absurd it
  served_so (Err Memory) left closed closing counts it = absurd it
  served_so (Err (Device cause)) left closed closing counts it = absurd it
  served_so (Err WrongSize) left closed closing counts it = absurd it
  served_so (Err NotADatabase) left closed closing counts it = absurd it
  served_so (Err (NewerFormat format)) left closed closing counts it = absurd it
  served_so (Err Damaged) left closed closing counts it = absurd it
  served_so (Err Full) left closed closing counts it = absurd it
  served_so (Err Number) left closed closing counts it = absurd it
  served_so (Err Partial) left closed closing counts it = absurd it
  served_so (Err (NoRoom pages least)) left closed closing counts it = absurd it
  served_so (Err NotADump) left closed closing counts it = absurd it
  served_so (Err (OtherDump version)) left closed closing counts it = absurd it
  served_so (Err DamagedDump) left closed closing counts it = absurd it
  served_so (Err (NoDumpRoom pages)) left closed closing counts it = absurd it
  served_so (Err (ScriptUnread cause)) left closed closing counts it = absurd it
  served_so (Err (ScriptNotUtf8 line byte)) left closed closing counts it = absurd it
  served_so (Err NoPassword) left closed closing counts it = absurd it
  served_so (Err ManyLines) left closed closing counts it = absurd it
  served_so (Err NoRole) left closed closing counts it = absurd it
  served_so (Err (StatementRefused code)) left closed closing counts it = absurd it
  served_so (Err NotOverRows) left closed closing counts it = absurd it
  served_so (Err FirstFormat) left closed closing counts it = absurd it
  served_so (Err NoSwitchRoom) left closed closing counts it = absurd it
  served_so (Err NoSwitchNumber) left closed closing counts it = absurd it
  served_so (Err PrintedTo) left closed closing counts it = absurd it
