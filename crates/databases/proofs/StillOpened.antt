-- The store of a server that was just opened is read once more: it is one that was just opened still.
use Rattle.std.proofs.Common.{Bool, ◌≡◌, ◌⊎◌, ◌≤◌, ◌/◌, ◌^◌, ◌-◌, inl, inr, false, Option, None, Result, refl, sym, subst, ◌∙◌, arith}
use Rattle.std.proofs.lemmas.Bool.{cases_lt, false≢true}
use Rattle.storage_sizes.specs.declared.record_format.RecordFormat.{RecordFormat}
use Rattle.storage_sizes.specs.declared.record_format.RecordFormat.TheVariants.{V1, V2}
use Rattle.sector_device.specs.Timeline.{IsPresent, joined, weakened}
use Rattle.sector_device.specs.Device.{DeviceState, HasFailed, timeline, history_joined}
use Rattle.sector_device.specs.declared.device.Device.{Ghosts}
use Rattle.store.specs.Records.{Records}
use Rattle.store.specs.Steps.{Goes}
use Rattle.store.specs.Store.{StoreState, Contents, IsUnchanged, HasDeviceCause, HasReadCause, stored}
use Rattle.store.specs.declared.fault.StoreFault.{StoreFault}
use Rattle.store.specs.declared.fault.StoreFault.TheVariants as commit
use Rattle.store.specs.declared.fault.Fault.TheVariants as read
use Rattle.cow_pages.specs.ReadingLaws.{reads_joined}
use Rattle.kv_store.specs.ContentLaws.{same_parts}
use Rattle.journal_store.specs.ImageLaws.{one_contents}
use Rattle.journal_store.specs.DeviceReads.{OnlyLooksInto, faithful_under}
use Rattle.journal_store.specs.DeviceStores.{store_state, state_under}
use Rattle.journal_store.specs.declared.device_stores.DeviceStore.{DeviceStore}
use Rattle.journal_store.proofs.Since.{looks_history, looks_content}
use Rattle.abstract_database.specs.Database.{Database}
use Rattle.stored_database.specs.Records.{Shows}
use Rattle.server.specs.declared.server.Server.{Server}
use Rattle.server.specs.Exchanged.{over_store}
use Rattle.server.specs.Standing.{HolderShows, Means, Represents, Stands, at_start}
use Rattle.recovery.specs.declared.fault.OpeningFault.TheVariants.{Read}
use Rattle.databases.specs.declared.database.Opened.{Opened}
use Rattle.databases.specs.declared.fault.DatabaseFault.TheVariants.{Records as OfRecords}
use Rattle.databases.specs.Databases.{records_on, IsUnwritten, LeavesAsBefore, LeavesDatabase}
use Rattle.databases.specs.Openings.{IsOpenedOn, IsRefused, OpensAs}

module _ {D : Type 0} {g : Ghosts D} {X : Type 0} (present : (device : D) → (g.state device).faithful → IsPresent (timeline (g.state device))) (d : DeviceState) (o : Opened D X g) (is : IsOpenedOn d o)
    (t : DeviceStore D g) (looks : OnlyLooksInto o.server.store t) (result : Result (Unit {0}) StoreFault) (goes : Goes (λ _. Unit {0}) result (store_state o.server.store) (store_state t)) where
  abbrev s : DeviceStore D g
  s = o.server.store

  abbrev new : Server (DeviceStore D g) X
  new = over_store t o.server

  unchanged : IsUnchanged (store_state s) (store_state t)
  unchanged = goes.only_reads.unchanged is.sound

  before : LeavesAsBefore (state_under s) (state_under t)
  before = goes.only_reads.leaves is.sound

  -- what was written by then, or nothing
  unwritten : IsUnwritten d (state_under s) → IsUnwritten d (state_under t)
  unwritten first = record {
    history = history_joined d (state_under s) (state_under t) first.history (looks_history s t looks);
    content = reads_joined d (state_under s) (state_under t) first.history first.content (looks_content present s t looks (faithful_under s is.sound));
  }

  leaves_still : LeavesAsBefore d (state_under s) → LeavesAsBefore d (state_under t)
  leaves_still first = joined (records_on d).left (records_on d) (records_on (state_under s)) (records_on (state_under t)) first
      (weakened (records_on (state_under s)).left (records_on d).left (records_on (state_under s)) (records_on (state_under t)) first.now before)

  database_still : (db : Database) → LeavesDatabase db d (state_under s) → LeavesDatabase db d (state_under t)
  database_still db first =
      let P : Option Contents → Type 0 = λ x. (records_on d).left x ⊎ Means x db in
      record {
        during = joined P (records_on d) (records_on (state_under s)) (records_on (state_under t)) first.during
            (weakened (records_on (state_under s)).left P (records_on (state_under s)) (records_on (state_under t)) (λ x left. inr (first.now x left)) before);
        now = λ x left. first.now x (before.now x left);
      }

  failures : (state_under s).failures ≤ (state_under t).failures
  failures = goes.only_reads.history.faults

  -- ---- it went on

  module _ (works : (store_state t).has_failed ≡ false) where
    represents_still : Represents store_state new (at_start (store_state t) is.database)
    represents_still = record {
      moment = refl;
      counts = record { number = λ runs. refl; fulls = refl; failures = refl; faults = refl };
      sessions = is.represents.sessions;
      stopped = is.represents.stopped;
      works = λ runs.
          let was = (is.represents.works runs).1 in (
            refl,
            record {
              unfailed = works;
              second = unchanged.record_format ∙ was.second;
              committed = subst (λ (m : Records). Shows m o.server.catalogue is.database) (sym unchanged.map) was.committed;
              held = subst (λ (m : Records). HolderShows m o.server.catalogue o.server.writer None) (sym unchanged.map) was.held;
              in_block = was.in_block;
            },
          );
      left = λ stopped. absurd (false≢true (is.represents.stopped ∙ stopped));
    }

    how_still : (rf : RecordFormat) → OpensAs rf d is.holds o.server → OpensAs rf d is.holds new
    how_still V2 only = record {
      keeps = record {
        contents = same_parts (stored (store_state t)) (stored (store_state s)) unchanged.record_format unchanged.map ∙ only.keeps.contents;
        number = unchanged.number ∙ only.keeps.number;
      };
      unwritten = unwritten only.unwritten;
      leaves = leaves_still only.leaves;
    }
    how_still V1 migrated = record {
      by_one = omega (arith, unchanged.number, migrated.by_one);
      not_back = omega (arith, unchanged.number, migrated.not_back);
      leaves = database_still is.database migrated.leaves;
      failures = omega (arith, migrated.failures, failures);
    }

    pub opened_still : IsOpenedOn d (record { server = new; was_migrated = o.was_migrated })
    opened_still = record {
      database = is.database;
      holds = is.holds;
      was_migrated = is.was_migrated;
      sound = goes.only_reads.history.sound is.sound;
      second = unchanged.record_format ∙ is.second;
      represents = represents_still;
      how = how_still is.holds.contents.record_format is.how;
    }

  -- ---- the device failed

  module _ (cause : HasDeviceCause (store_state s) (store_state t)) (one : (contents : Contents) (a b : Database) → Stands contents a → Stands contents b → a ≡ b) where
    worked : (store_state s).has_failed ≡ false
    worked = (is.represents.works (sym is.represents.stopped)).1.unfailed

    failed_from : d.failures ≤ (state_under s).failures → HasFailed d (state_under t)
    failed_from first = elim (cause.fault is.sound) [
      | inl had ↦ absurd (false≢true (sym worked ∙ had))
      | inr (inl rose) ↦ inl (omega (arith, first, rose))
      | inr (inr most) ↦ elim (cases_lt d.failures (2 ^ 64 - 1)) [
        | inl lt ↦ inl (omega (arith, lt, most, failures))
        | inr past ↦ inr (omega (arith, past, most, first))
      ]
    ]

    refused_so : (rf : RecordFormat) → is.holds.contents.record_format ≡ rf → OpensAs rf d is.holds o.server → IsRefused d (OfRecords (Read read.Device)) (state_under t)
    refused_so V2 of only = record {
      faithful = faithful_under t (goes.only_reads.history.sound is.sound);
      stands = tt;
      failed = λ device. failed_from only.unwritten.history.failures;
      outcome = inl (unwritten only.unwritten, leaves_still only.leaves);
    }
    refused_so V1 of migrated = record {
      faithful = faithful_under t (goes.only_reads.history.sound is.sound);
      stands = tt;
      failed = λ device. failed_from migrated.failures;
      outcome = inr (record {
        holds = record { contents = is.holds.contents; has = is.holds.has; first = of };
        of_migration = tt;
        leaves = λ db held.
            let same : held.contents ≡ is.holds.contents = one_contents d.content (d.sectors / 8) (d.sectors / 8) held.contents is.holds.contents held.has is.holds.has in
            let only : is.database ≡ db = one is.holds.contents is.database db is.holds.stands (subst (λ (c : Contents). Stands c db) same held.stands) in
            subst (λ (a : Database). LeavesDatabase a d (state_under t)) only (database_still is.database migrated.leaves);
        unchanged = λ other x left. absurd (other tt);
        failures = omega (arith, migrated.failures, failures);
      });
    }

    pub refused_still : IsRefused d (OfRecords (Read read.Device)) (state_under t)
    refused_still = refused_so is.holds.contents.record_format refl is.how

-- where a read was answered the store works still
pub works_after : {D : Type 0} {g : Ghosts D} {X : Type 0} (d : DeviceState) (o : Opened D X g) → IsOpenedOn d o → (t : DeviceStore D g) (failed : Bool) → failed ≡ (store_state o.server.store).has_failed → failed ≡ false
works_after d o is t failed same = same ∙ (is.represents.works (sym is.represents.stopped)).1.unfailed

-- why Device was answered
pub device_cause : (fault : StoreFault) (old new : StoreState) → fault ≡ commit.Device → HasReadCause fault old new → HasDeviceCause old new
device_cause fault old new is cause = subst (λ (f : StoreFault). HasReadCause f old new) is cause
