-- What opening a database on a device comes to, by what opening its store and its server come to.
use Rattle.std.proofs.Common.{◌≡◌, ◌≢◌, ◌⊎◌, ◌≤◌, ◌+◌, ◌/◌, ℕ, inl, inr, false, Option, Some, Ok, Err, refl, ap, sym, subst, ◌∙◌, arith}
use Rattle.storage_sizes.specs.declared.record_format.RecordFormat.{RecordFormat}
use Rattle.storage_sizes.specs.declared.record_format.RecordFormat.TheVariants.{V1, V2}
use Rattle.sector_device.specs.Timeline.{LeavesOnly, IsPresent, read_by}
use Rattle.sector_device.specs.Device.{DeviceState, timeline}
use Rattle.sector_device.specs.declared.device.Device.{Ghosts}
use Rattle.store.specs.declared.fault.Fault.TheVariants as read
use Rattle.store.specs.declared.fault.StoreFault.TheVariants as commit
use Rattle.store.specs.Store.{Contents, stored, KeepsHistory, OnlyReads, IsUnchanged}
use Rattle.cow_pages.specs.declared.open.OpenFault.{OpenFault as PagesFault}
use Rattle.journal_store.specs.declared.device_stores.DeviceStore.{DeviceStore}
use Rattle.kv_store.specs.ContentLaws.{same_parts}
use Rattle.journal_store.specs.ImageLaws.{one_contents}
use Rattle.journal_store.specs.DeviceImages.{IsReadAs}
use Rattle.journal_store.specs.DeviceOpening.{IsOpened as IsStoreOpened, CannotOpen}
use Rattle.journal_store.specs.DeviceReads.{OnlyLooksInto, faithful_under}
use Rattle.journal_store.specs.DeviceStoreLaws.{settled_on}
use Rattle.journal_store.specs.DeviceStores.{state_under, store_state}
use Rattle.journal_store.proofs.Since.{history_since, content_since}
use Rattle.abstract_database.specs.Database.{Database}
use Rattle.server.specs.declared.server.Server.{Server}
use Rattle.server.specs.Standing.{Stands, at_start}
use Rattle.recovery.specs.declared.fault.OpeningFault.{OpeningFault}
use Rattle.recovery.specs.declared.fault.OpeningFault.TheVariants.{Read, Commit}
use Rattle.recovery.specs.Openings.{IsOpened as IsServerOpened, IsNumberAfter, HasOpeningCause, KeepsDatabase, OnlyLooks, failed_after_opening}
use Rattle.wire.specs.Closing.{StandsWithinLimit}
use Rattle.databases.specs.declared.database.Opened.{Opened}
use Rattle.databases.specs.OnDevice.{IsOfDevice}
use Rattle.databases.proofs.Opening.{device_of_pages, failed_for, leaves_database, reading_leaves}
use Rattle.databases.specs.declared.fault.DatabaseFault.TheVariants.{Pages, Records}
use Rattle.databases.specs.Databases.{records_on, HoldsDatabase, HoldsRecordFormat1, IsUnwritten, LeavesAsBefore}
use Rattle.databases.specs.Openings.{IsMigrated, IsOfMigration, IsOnlyRead, IsOpenedOn, IsRefused, IsTriedOn, IsUntried, OpensAs, StandsIn, is_first}

-- a device of which nothing was written leaves records that might have been left before
leaves_before : (d e : DeviceState) → IsUnwritten d e → LeavesAsBefore d e
leaves_before d e unwritten =
    subst (λ (n : ℕ). LeavesOnly (records_on d).left (records_on d) (read_by (IsReadAs (n / 8)) (timeline e))) (sym unwritten.history.sectors)
    (reading_leaves d e unwritten.content)

-- ---- refused for its pages

pub refused_pages : (d e : DeviceState) (fault : PagesFault) → CannotOpen d fault e → d.faithful → IsRefused d (Pages fault) e
refused_pages d e fault cannot faithful =
    let unwritten : IsUnwritten d e = record { history = cannot.history; content = cannot.content faithful } in
    record {
      faithful = cannot.history.faithful faithful;
      stands = cannot.named faithful;
      failed = λ device. cannot.cause (device_of_pages fault device);
      outcome = inl (unwritten, leaves_before d e unwritten);
    }

-- ---- a store that was opened, and over which a server was opened or was not

module _ {D : Type 0} {g : Ghosts D} (present : (device : D) → (g.state device).faithful → IsPresent (timeline (g.state device))) (d : DeviceState) (s t : DeviceStore D g) (opened : IsStoreOpened d s) (faithful : d.faithful) where
  -- nothing was written: the store was only read
  untried : OnlyLooksInto s t → IsUntried d (state_under t)
  untried nothing =
      let unwritten : IsUnwritten d (state_under t) = record { history = history_since d s t opened nothing; content = content_since d s t opened nothing present faithful } in
      (unwritten, leaves_before d (state_under t) unwritten)

  -- what is left of the device is what is left of the store
  left_of_store : (x : Option Contents) → (records_on (state_under t)).left x → (store_state t).time.left x
  left_of_store x left = left

  failures_since : (store_state s).faults ≤ (store_state t).faults → d.failures ≤ (state_under t).failures
  failures_since faults = omega (arith, opened.history.failures, faults)

-- ---- refused for its records

module _ {D : Type 0} {g : Ghosts D} (present : (device : D) → (g.state device).faithful → IsPresent (timeline (g.state device))) (d : DeviceState) (s t : DeviceStore D g) (opened : IsStoreOpened d s) (faithful : d.faithful)
    (history : KeepsHistory (store_state s) (store_state t)) where
  abbrev holds_first : (store_state s).record_format ≡ V1 → HoldsRecordFormat1 d
  holds_first first = record { contents = stored (store_state s); has = (opened.holds faithful).contents; first = first }

  stands_records : (f : OpeningFault) → HasOpeningCause f (store_state s) (store_state t) → StandsIn (Records f) d
  stands_records (Read read.Memory) cause = inl (opened.holds faithful).no_fault
  stands_records (Read read.Device) cause = tt
  stands_records (Read read.Damaged) cause = record { contents = stored (store_state s); has = (opened.holds faithful).contents; none = cause }
  stands_records (Commit commit.Full) cause = holds_first cause.0
  stands_records (Commit commit.Memory) cause = holds_first cause.0
  stands_records (Commit commit.Device) cause = holds_first cause.0
  stands_records (Commit commit.Number) cause = (holds_first cause.0, (opened.holds faithful).number_is ∙ cause.1)

  -- a store that answered no fault of the device works
  works_after : (f : OpeningFault) → (IsOfDevice (Records f) → ⊥) → (store_state t).has_failed ≡ failed_after_opening (Err f) (store_state s).has_failed → (store_state t).has_failed ≡ false
  works_after (Read read.Memory) other is = is ∙ opened.has_not_failed
  works_after (Read read.Device) other is = absurd (other tt)
  works_after (Read read.Damaged) other is = is ∙ opened.has_not_failed
  works_after (Commit commit.Full) other is = is ∙ opened.has_not_failed
  works_after (Commit commit.Memory) other is = is ∙ opened.has_not_failed
  works_after (Commit commit.Device) other is = absurd (other tt)
  works_after (Commit commit.Number) other is = is ∙ opened.has_not_failed

  of_device : (f : OpeningFault) → (IsOfDevice (Records f) → ⊥) → f ≢ Commit commit.Device
  of_device f other is = other (subst (λ (x : OpeningFault). IsOfDevice (Records x)) (sym is) tt)

  -- so a stop leaves its contents, which are as they were
  left_unchanged : (f : OpeningFault) → (IsOfDevice (Records f) → ⊥) → (store_state t).has_failed ≡ failed_after_opening (Err f) (store_state s).has_failed → IsUnchanged (store_state s) (store_state t)
      → (x : Option Contents) → (records_on (state_under t)).left x → x ≡ Some (stored (store_state s))
  left_unchanged f other works same x left =
      settled_on t x (history.sound (opened.holds faithful).sound) (works_after f other works) (left_of_store present d s t opened faithful x left)
      ∙ ap (λ (c : Contents). Some c) (same_parts (stored (store_state t)) (stored (store_state s)) same.record_format same.map)

  -- a database that the device held is that of the store
  stands_for_store : (db : Database) → HoldsDatabase d db → Stands (stored (store_state s)) db
  stands_for_store db held =
      subst (λ (c : Contents). Stands c db) (one_contents d.content (d.sectors / 8) (d.sectors / 8) held.contents (stored (store_state s)) held.has (opened.holds faithful).contents) held.stands

  tried : (f : OpeningFault) → IsOfMigration (Records f) → (store_state s).record_format ≡ V1 → (store_state t).has_failed ≡ failed_after_opening (Err f) (store_state s).has_failed
      → (f ≢ Commit commit.Device → IsUnchanged (store_state s) (store_state t)) → ((db : Database) → Stands (stored (store_state s)) db → KeepsDatabase db (Err f) (store_state s) (store_state t))
      → IsTriedOn (Records f) d (state_under t)
  tried f of_migration first works unchanged same = record {
    holds = holds_first first;
    of_migration = of_migration;
    leaves = λ db held. leaves_database d s t db (Err f) opened faithful (same db (stands_for_store db held));
    unchanged = λ other x left. left_unchanged f other works (unchanged (of_device f other)) x left;
    failures = failures_since present d s t opened faithful history.faults;
  }

-- either the store was only looked at, or it was of record format 1, and the fault is one of a migration
looked_or_tried : {P Q : Type 0} (sp : RecordFormat) (f : OpeningFault) → (OnlyLooks sp (Err f) → P) → (sp ≡ V1 → IsOfMigration (Records f) → Q) → P ⊎ Q
looked_or_tried V2 f looked tried = inl (looked tt)
looked_or_tried V1 (Read read.Memory) looked tried = inr (tried refl tt)
looked_or_tried V1 (Read read.Device) looked tried = inr (tried refl tt)
looked_or_tried V1 (Read read.Damaged) looked tried = inl (looked tt)
looked_or_tried V1 (Commit fault) looked tried = inr (tried refl tt)

pub refused_records : {D : Type 0} {g : Ghosts D} (present : (device : D) → (g.state device).faithful → IsPresent (timeline (g.state device))) (d : DeviceState) (s t : DeviceStore D g) (f : OpeningFault) → IsStoreOpened d s → d.faithful
    → KeepsHistory (store_state s) (store_state t) → HasOpeningCause f (store_state s) (store_state t)
    → (store_state t).has_failed ≡ failed_after_opening (Err f) (store_state s).has_failed → (f ≢ Commit commit.Device → IsUnchanged (store_state s) (store_state t))
    → (OnlyLooks (store_state s).record_format (Err f) → OnlyLooksInto s t) → ((db : Database) → Stands (stored (store_state s)) db → KeepsDatabase db (Err f) (store_state s) (store_state t))
    → IsRefused d (Records f) (state_under t)
refused_records {D} {g} present d s t f opened faithful history cause works unchanged nothing same = record {
  faithful = faithful_under t (history.sound (opened.holds faithful).sound);
  stands = stands_records present d s t opened faithful history f cause;
  failed = failed_for d s t f opened faithful history cause;
  outcome = looked_or_tried (store_state s).record_format f (λ looks. untried present d s t opened faithful (nothing looks))
      (λ first of_migration. tried present d s t opened faithful history f of_migration first works unchanged same);
}

-- ---- opened

opens_as : {D : Type 0} {g : Ghosts D} {X : Type 0} (sp : RecordFormat) (d : DeviceState) {db : Database} (holds : HoldsDatabase d db) (server : Server (DeviceStore D g) X) → (sp ≡ V2 → IsOnlyRead d holds server) → (sp ≡ V1 → IsMigrated d holds server) → OpensAs sp d holds server
opens_as V1 d holds server second first = first refl
opens_as V2 d holds server second first = second refl

pub opened_on : {D : Type 0} {g : Ghosts D} {X : Type 0} (present : (device : D) → (g.state device).faithful → IsPresent (timeline (g.state device))) (d : DeviceState) (s : DeviceStore D g) (o : Opened D X g) → IsStoreOpened d s → d.faithful
    → KeepsHistory (store_state s) (store_state o.server.store) → o.was_migrated ≡ is_first (store_state s).record_format → IsServerOpened store_state (stored (store_state s)) o.server
    → IsNumberAfter (store_state s).record_format (store_state s).number (store_state o.server.store).number
    → ((store_state s).record_format ≡ V2 → OnlyReads (store_state s) (store_state o.server.store) × OnlyLooksInto s o.server.store)
    → ((db : Database) → Stands (stored (store_state s)) db → KeepsDatabase db (Ok tt) (store_state s) (store_state o.server.store)) → IsOpenedOn d o
opened_on {D} {g} {X} present d s o opened faithful history was_migrated is number reads same =
    let t = o.server.store in
    let image = opened.holds faithful in
    let holds : HoldsDatabase d is.database = record { contents = stored (store_state s); has = image.contents; stands = is.stands } in
    record {
      database = is.database;
      holds = holds;
      was_migrated = was_migrated;
      sound = history.sound image.sound;
      second = is.second;
      represents = is.represents;
      how = opens_as (store_state s).record_format d holds o.server
          (λ second.
          let read = reads second in
          let unchanged = read.0.unchanged image.sound in
          let unwritten = untried present d s t opened faithful read.1 in
          record {
            keeps = record { contents = same_parts (stored (store_state t)) (stored (store_state s)) unchanged.record_format unchanged.map; number = unchanged.number ∙ sym image.number_is };
            unwritten = unwritten.0;
            leaves = unwritten.1;
          })
          (λ first.
          let rises = subst (λ (sp : RecordFormat). IsNumberAfter sp (store_state s).number (store_state t).number) first number in
          record {
            by_one = subst (λ (n : ℕ). (store_state t).number ≤ n + 1) (sym image.number_is) rises.1;
            not_back = subst (λ (n : ℕ). n ≤ (store_state t).number) (sym image.number_is) rises.0;
            leaves = leaves_database d s t is.database (Ok tt) opened faithful (same is.database is.stands);
            failures = failures_since present d s t opened faithful history.faults;
          });
    }

-- a server that has just been opened has no session open
pub none_open : {D : Type 0} {g : Ghosts D} {X : Type 0} (d : DeviceState) (o : Opened D X g) → IsOpenedOn d o → StandsWithinLimit store_state o.server
none_open d o is = (is.sound, (at_start (store_state o.server.store) is.database, is.represents, tt, omega arith))
