-- Where commands that answer no event lead, and what a stop leaves of them.
use Rattle.std.proofs.Common.{◌≡◌, ◌/◌, ℕ, Bool, true, false, Option, Some, None, Result, Ok, Err, inl, inr, ⊎_elim, refl, sym, subst}
use Rattle.std.proofs.Math.Path.{fun_ext}
use Rattle.storage_sizes.specs.declared.record_format.RecordFormat.{RecordFormat}
use Rattle.storage_sizes.specs.declared.record_format.RecordFormat.TheVariants.{V1, V2}
use Rattle.sector_device.specs.Timeline.{LeavesOnly, joined, weakened}
use Rattle.sector_device.specs.Device.{DeviceState, Image, IsLeft}
use Rattle.sector_device.specs.declared.device.Device.{Ghosts}
use Rattle.cow_pages.specs.declared.open.OpenFault.{OpenFault}
use Rattle.store.specs.Store.{Contents}
use Rattle.store.specs.declared.fault.StoreFault.{StoreFault}
use Rattle.store.specs.declared.fault.StoreFault.TheVariants.{Full, Memory, Device, Number}
use Rattle.journal_store.specs.declared.device_stores.DeviceStore.{DeviceStore}
use Rattle.journal_store.specs.declared.switch_fault.SwitchFault.{SwitchFault}
use Rattle.journal_store.specs.declared.switch_fault.SwitchFault.TheVariants.{Unopened, NotMigrated, Refused}
use Rattle.journal_store.specs.DeviceImages.{HasContents}
use Rattle.journal_store.specs.DeviceOpening.{CannotOpen}
use Rattle.journal_store.specs.DeviceStoreLaws.{settled_on}
use Rattle.journal_store.specs.DeviceStores.{store_state}
use Rattle.journal_store.specs.Faults.{KeepsContents, MayLeave}
use Rattle.journal_store.specs.ImageLaws.{read_has}
use Rattle.journal_store.specs.TurningOn.{CannotTurnOn}
use Rattle.journal_store.specs.TurningOff.{CannotTurnOff}
use Rattle.journal_store.proofs.DeviceReading.{content_leaves}
use Rattle.abstract_database.specs.Database.{Database}
use Rattle.abstract_database.specs.Runs.{ReadingRelation, Standing, IsFoundAt}
use Rattle.server.specs.declared.server.Server.{Server}
use Rattle.server.specs.Standing.{Means, at_start}
use Rattle.databases.specs.Databases.{HoldsDatabase, IsUnwritten, records_on}
use Rattle.databases.specs.Lives.{IsFoundLeft, LeavesFound, IsNoLife, standing_over}
use Rattle.databases.specs.Openings.{OpensAs, state_under}
use Rattle.databases.specs.Stopping.{is_left_by, IsWithin}
use Rattle.databases.proofs.DeviceLiving.{MeanOne, found_before, found_held, found_same}
use Rattle.databases.proofs.GoingOn.{none_at}
use Rattle.databases.proofs.Living.{leaves_found, means_is}
use Rattle.copies.specs.declared.fault.CopyFault.{CopyFault}
use Rattle.copies.specs.DatabaseCopies.{CopiesDatabase}
use Rattle.durability_laws.specs.EventlessCommands.{TurnsJournal, ChecksFrom, SwitchesFrom, EventlessCommand, checked, only_read, copied, switched, KeepsFound, GoesOnAlike, GoesOnFromHeld, GoesOnSwitched, BeginsCopy, LeadsEventless}

-- where a command leads, and what its stop leaves
abbrev pub To : (Standing → Type 0) → Option ℕ → DeviceState → Type 0
To Leads stop e = (next : Standing) × Leads next × ((x : Option Contents) → is_left_by stop (records_on e) x → IsFoundLeft next x)

-- ---- what a device holds

-- a device of which no sector was written held what it holds
held_before : (d m : DeviceState) (contents : Contents) → IsUnwritten d m → HasContents (m.sectors / 8) contents m.content → HasContents (d.sectors / 8) contents d.content
held_before d m contents unwritten has =
    subst (λ (n : ℕ). HasContents (n / 8) contents d.content) unwritten.history.sectors
    (subst (λ (image : Image). HasContents (m.sectors / 8) contents image) (fun_ext unwritten.content.content) has)

-- what a stop leaves of it might have been left before
still_left : (d m : DeviceState) → IsUnwritten d m → LeavesOnly (records_on d).left (records_on d) (records_on m)
still_left d m unwritten = content_leaves d m unwritten.content unwritten.history.sectors

module _ (Reads : ReadingRelation) (one : MeanOne) (last : Standing) (d : DeviceState) (content : IsLeft d d.content) (found : LeavesFound last (records_on d)) where
  keeps_found : (e : DeviceState) → IsNoLife last (records_on d) (records_on e) → KeepsFound last d e
  keeps_found e leaves = record { leaves = leaves; held = λ db holds. found_held one d content last found db holds }

  -- the next command goes on as this one did
  alike : (e : DeviceState) (stop : Option ℕ) → IsWithin stop (records_on d) (records_on e) → IsNoLife last (records_on d) (records_on e) → To (GoesOnAlike last d e) stop e
  alike e stop within leaves = (last, (keeps_found e leaves, refl), none_at Reads last (records_on d) (records_on e) leaves stop within)

  -- or from what the device held
  from_held : (e : DeviceState) (stop : Option ℕ) → IsWithin stop (records_on d) (records_on e) → IsNoLife last (records_on d) (records_on e)
      → (db : Database) → HoldsDatabase d db → LeavesFound (standing_over db) (records_on e) → To (GoesOnFromHeld last d e stop) stop e
  from_held e None within leaves db holds now = (standing_over db, (keeps_found e leaves, (db, holds, refl)), now)
  from_held e (Some stop) within leaves db holds now = (last, (keeps_found e leaves, refl), none_at Reads last (records_on d) (records_on e) leaves (Some stop) within)

  -- ---- a device that was only read

  read_only : (e : DeviceState) → IsUnwritten d e → IsNoLife last (records_on d) (records_on e)
  read_only e unwritten = found_before d e last found (still_left d e unwritten)

  still_found : (m : DeviceState) → IsUnwritten d m → LeavesFound last (records_on m)
  still_found m unwritten = λ x left. found x ((still_left d m unwritten).now x left)

  -- and then read once more
  read_twice : (m e : DeviceState) → IsUnwritten d m → LeavesOnly (records_on m).left (records_on m) (records_on e) → IsNoLife last (records_on d) (records_on e)
  read_twice m e unwritten again = joined (IsFoundLeft last) (records_on d) (records_on m) (records_on e) (read_only m unwritten) (found_before m e last (still_found m unwritten) again)

  -- ---- a device whose contents were kept

  kept : (m e : DeviceState) (contents : Contents) → IsUnwritten d m → IsLeft m m.content → KeepsContents contents m e
      → (stop : Option ℕ) → IsWithin stop (records_on d) (records_on e) → To (GoesOnFromHeld last d e stop) stop e
  kept m e contents unwritten content_there keeps stop within =
      let still = still_found m unwritten in
      let here : IsFoundLeft last (Some contents) = still (Some contents) (m.content, content_there, keeps.had) in
      let more : LeavesOnly (IsFoundLeft last) (records_on m) (records_on e) =
      weakened (MayLeave m contents) (IsFoundLeft last) (records_on m) (records_on e)
      (λ x may. ⊎_elim (λ left. still x left) (λ is. subst (λ (y : Option Contents). IsFoundLeft last y) (sym is) here) may) keeps.any_moment in
      let leaves = joined (IsFoundLeft last) (records_on d) (records_on m) (records_on e) (read_only m unwritten) more in
      from_held e stop within leaves here.0 (record { contents = contents; has = held_before d m contents unwritten keeps.had; stands = means_is contents here.0 here.1 })
      (λ x left. (here.0, subst (λ (y : Option Contents). Means y here.0) (sym (keeps.now x left)) here.1, inl refl))

-- ---- a journal that was turned on or off

-- where it was refused the contents were kept
kept_off : {D : Type 0} (g : Ghosts D) (fault : StoreFault) (m e : DeviceState) → CannotTurnOn g (Refused fault) m e → (contents : Contents) × KeepsContents contents m e
kept_off g Full m e is = (is.contents, is.keeps)
kept_off g Memory m e is = absurd is
kept_off g Device m e is = (is.contents, is.keeps)
kept_off g Number m e is = (is.contents, is.keeps)

kept_on : {D : Type 0} (g : Ghosts D) (fault : StoreFault) (m e : DeviceState) → CannotTurnOff g (Refused fault) m e → (contents : Contents) × KeepsContents contents m e
kept_on g Full m e is = (is.contents, is.keeps)
kept_on g Memory m e is = (is.contents, is.keeps)
kept_on g Device m e is = (is.contents, is.keeps)
kept_on g Number m e is = (is.contents, is.keeps)

unopened_leaves : (m e : DeviceState) (fault : OpenFault) → m.faithful → CannotOpen m fault e → LeavesOnly (records_on m).left (records_on m) (records_on e)
unopened_leaves m e fault faithful cannot = content_leaves m e (cannot.content faithful) cannot.history.sectors

module _ {D : Type 0} (g : Ghosts D) (Reads : ReadingRelation) (one : MeanOne) (last : Standing) (d : DeviceState) (content : IsLeft d d.content) (found : LeavesFound last (records_on d))
    (m e : DeviceState) (unwritten : IsUnwritten d m) (faithful : m.faithful) (content_there : IsLeft m m.content) (stop : Option ℕ) (within : IsWithin stop (records_on d) (records_on e)) where
  turned : (on : Bool) (result : Result ℕ SwitchFault) → TurnsJournal g on m result e → To (GoesOnSwitched result last d e stop) stop e
  turned true (Ok number) turns = let is = turns.outcome faithful in kept Reads one last d content found m e is.contents unwritten content_there is.keeps stop within
  turned false (Ok number) turns = let is = turns.outcome faithful in kept Reads one last d content found m e is.contents unwritten content_there is.keeps stop within
  turned true (Err (Unopened fault)) turns = alike Reads one last d content found e stop within
      (read_twice Reads one last d content found m e unwritten (unopened_leaves m e fault faithful (turns.outcome faithful)))
  turned false (Err (Unopened fault)) turns = alike Reads one last d content found e stop within
      (read_twice Reads one last d content found m e unwritten (unopened_leaves m e fault faithful (turns.outcome faithful)))
  turned true (Err NotMigrated) turns = alike Reads one last d content found e stop within
      (read_twice Reads one last d content found m e unwritten (content_leaves m e (turns.outcome faithful).content turns.size.sectors))
  turned false (Err NotMigrated) turns = absurd (turns.outcome faithful)
  turned true (Err (Refused fault)) turns = let is = kept_off g fault m e (turns.outcome faithful) in kept Reads one last d content found m e is.0 unwritten content_there is.1 stop within
  turned false (Err (Refused fault)) turns = let is = kept_on g fault m e (turns.outcome faithful) in kept Reads one last d content found m e is.0 unwritten content_there is.1 stop within

-- ---- a database that was opened

module _ {D : Type 0} {g : Ghosts D} {X : Type 0} where
  opened_leaves : (rf : RecordFormat) (d : DeviceState) (db : Database) (holds : HoldsDatabase d db) (server : Server (DeviceStore D g) X) (last : Standing) → LeavesFound last (records_on d) → IsFoundAt last db
      → OpensAs rf d holds server → IsNoLife last (records_on d) (records_on (state_under server))
  opened_leaves V2 d db holds server last found held only = found_before d (state_under server) last found only.leaves
  opened_leaves V1 d db holds server last found held migrated = found_same d (state_under server) last found db held migrated.leaves

-- ---- a copy

begins_copy : {E : Type 0} (state : E → DeviceState) (d e : DeviceState) (result : Result (Unit {0}) CopyFault) (blank copy : E) → CopiesDatabase d e state result blank copy → BeginsCopy result d (state blank) (state copy)
begins_copy state d e (Ok x) blank copy copies = λ faithful.
    let whole = copies.1 faithful in (
      copies.0.database,
      copies.0.holds,
      λ x left.
          let means = whole left.0 left.1 in
          (copies.0.database, (means.contents, read_has left.0 ((state copy).sectors / 8) means.contents x means.has left.2, means.stands), inl refl),
    )
begins_copy state d e (Err fault) blank copy copies = tt

-- ---- each command

module _ {D : Type 0} {g : Ghosts D} {X : Type 0} (Reads : ReadingRelation) (content_left : (device : D) → (g.state device).faithful → IsLeft (g.state device) (g.state device).content) (one : MeanOne)
    (begin end : D) (last : Standing) (stop : Option ℕ) (faithful : (g.state begin).faithful) (found : LeavesFound last (records_on (g.state begin)))
    (within : IsWithin stop (records_on (g.state begin)) (records_on (g.state end))) where
  opened_and_closed : ChecksFrom g X begin end → To (GoesOnFromHeld last (g.state begin) (g.state end) stop) stop (g.state end)
  opened_and_closed checks =
      let is = checks.is_opened in
      let server = checks.opened.server in
      let held = found_held one (g.state begin) (content_left begin faithful) last found is.database is.holds in
      let leaves = opened_leaves is.holds.contents.record_format (g.state begin) is.database is.holds server last found held is.how in
      let now : LeavesFound (standing_over is.database) (records_on (state_under server)) =
      leaves_found store_state server (at_start (store_state server.store) is.database) (λ y works left. settled_on server.store y is.sound works left) is.represents server.stopped refl in
      from_held Reads one last (g.state begin) (content_left begin faithful) found (g.state end) stop within
      (subst (λ (device : D). IsNoLife last (records_on (g.state begin)) (records_on (g.state device))) (sym checks.left_is) leaves)
      is.database is.holds (subst (λ (device : D). LeavesFound (standing_over is.database) (records_on (g.state device))) (sym checks.left_is) now)

  pub goes_eventless : (command : EventlessCommand g X begin end) → To (LeadsEventless command last stop) stop (g.state end)
  goes_eventless (checked checks) = opened_and_closed checks
  goes_eventless (only_read unwritten) = alike Reads one last (g.state begin) (content_left begin faithful) found (g.state end) stop within (read_only Reads one last (g.state begin) (content_left begin faithful) found (g.state end) unwritten)
  goes_eventless (copied result blank copy copies) =
      let went = alike Reads one last (g.state begin) (content_left begin faithful) found (g.state end) stop within (read_only Reads one last (g.state begin) (content_left begin faithful) found (g.state end) copies.unwritten) in
      (went.0, (went.1, begins_copy g.state (g.state begin) (g.state end) result blank copy copies.copies), went.2)
  goes_eventless (switched on result switches) =
      let there = switches.unwritten.history.faithful faithful in
      turned g Reads one last (g.state begin) (content_left begin faithful) found (g.state switches.read) (g.state end) switches.unwritten there (content_left switches.read there) stop within on result switches.turns
