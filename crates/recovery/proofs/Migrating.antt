-- What a migration does to what a stop leaves.
use Rattle.std.proofs.Common.{◌≡◌, ◌⊎◌, ◌≤◌, ◌+◌, inl, inr, ⊎_elim, Option, Some, Result, Ok, Err, refl, ap, sym, ◌∙◌, subst, arith}
use Rattle.sector_device.specs.Timeline.{LeavesOnly, joined, weakened}
use Rattle.storage_sizes.specs.declared.record_format.RecordFormat.{RecordFormat}
use Rattle.storage_sizes.specs.declared.record_format.RecordFormat.TheVariants.{V1, V2}
use Rattle.store.specs.Records.{Records, Changes, applied}
use Rattle.store.specs.Contents.{changed_in}
use Rattle.store.specs.Store.{StoreState, Contents, stored, KeepsHistory, IsUnchanged, OnlyReads, HasCause, MayLeaveDuring, MayLeaveNow, CommitsAtOnce}
use Rattle.store.specs.Readers.{HasFaultCause}
use Rattle.store.specs.declared.fault.Fault.{Fault}
use Rattle.store.specs.declared.fault.Fault.TheVariants as read
use Rattle.store.specs.declared.fault.StoreFault.{StoreFault}
use Rattle.store.specs.declared.fault.StoreFault.TheVariants as commit
use Rattle.store.proofs.Reading.{cause_later, rose_later}
use Rattle.abstract_database.specs.Database.{Database}
use Rattle.stored_database.specs.BothRecordFormats.{with_places, in_record_format_2, Stands, Means}
use Rattle.recovery.specs.Migrated.{in_second, HasOpeningCause, KeepsDatabase, AfterMigration, Migrates}
use Rattle.recovery.specs.declared.fault.OpeningFault.{OpeningFault}
use Rattle.recovery.specs.declared.fault.OpeningFault.TheVariants.{Read, Commit}
use Rattle.recovery.specs.MigrationChanges.{MigratesRecordsFrom}

-- ---- contents

means : (contents : Contents) (db : Database) → Stands contents db → (x : Option Contents) → x ≡ Some contents → Means x db
means contents db stands x is = (contents, is, stands)

abbrev contents_with : RecordFormat → Records → Contents
contents_with s records = record { record_format = s; records = records }

pub same_contents : {s t : RecordFormat} {a b : Records} → s ≡ t → a ≡ b → contents_with s a ≡ contents_with t b
same_contents p q = cc

-- contents of record format 2 are what they are in it
pub already : (contents : Contents) → contents.record_format ≡ V2 → contents ≡ in_second contents
already contents second = same second where
  same : {s : RecordFormat} → s ≡ V2 → contents_with s contents.records ≡ in_second (contents_with s contents.records)
  same p = subst (λ (s : RecordFormat). contents_with s contents.records ≡ in_second (contents_with s contents.records)) (sym p) refl

-- what the commit leads to
pub migrated_contents : (changes : Changes) (old mid : StoreState) → old.record_format ≡ V1 → IsUnchanged old mid → applied changes old.map ≡ with_places old.map
    → changed_in V2 changes (stored mid) ≡ in_second (stored old)
migrated_contents changes old mid first same is = same_contents refl (ap (applied changes) same.map ∙ is ∙ ap (λ (s : RecordFormat). in_record_format_2 s old.map) (sym first))

-- ---- causes

pub read_cause : (fault : Fault) (old new : StoreState) → HasFaultCause fault old new → MigratesRecordsFrom old.record_format (Err fault) old.map → HasOpeningCause (Read fault) old new
read_cause read.Memory old new cause none = tt
read_cause read.Device old new cause none = cause
read_cause read.Damaged old new cause none = none

pub commit_cause : (fault : StoreFault) (old mid new : StoreState) → old.record_format ≡ V1 → OnlyReads old mid → IsUnchanged old mid → mid.has_failed ≡ old.has_failed → KeepsHistory mid new
    → HasCause fault mid new → HasOpeningCause (Commit fault) old new
commit_cause commit.Full old mid new first reads same unfailed later cause = (first, rose_later old.fulls mid.fulls new.fulls reads.history.fulls later.fulls cause)
commit_cause commit.Memory old mid new first reads same unfailed later cause = (first, tt)
commit_cause commit.Device old mid new first reads same unfailed later cause = (first, cause_later commit.Device old mid new reads.history unfailed later cause)
commit_cause commit.Number old mid new first reads same unfailed later cause = (first, sym same.number ∙ cause)

-- ---- what is left

abbrev pub IsSettled : StoreState → Type 0
IsSettled old = (x : Option Contents) → old.time.left x → x ≡ Some (stored old)

-- a migration that ends before its commit
module _ (old new : StoreState) (db : Database) (sound : old.sound) (settled : IsSettled old) (stands : Stands (stored old) db) (reads : OnlyReads old new) where
  read_leaves : LeavesOnly (λ x. Means x db) old.time new.time
  read_leaves = weakened old.time.left (λ x. Means x db) old.time new.time (λ x left. means (stored old) db stands x (settled x left)) (reads.leaves sound)

  pub read_keeps : (result : Result (Unit {0}) OpeningFault) → KeepsDatabase db result old new
  read_keeps result = record { during = read_leaves; now = read_leaves.now; number = inr (let same = (reads.unchanged sound).number in omega (arith, same)) }

  pub read_fails : (fault : Fault) → Migrates (Err (Read fault)) db old new
  read_fails fault = record { keeps = read_keeps _; outcome = reads.unchanged sound }

  pub nothing_done : old.record_format ≡ V2 → (u : Unit {0}) → Migrates (Ok u) db old new
  nothing_done second u = record {
    keeps = read_keeps (Ok u);
    outcome = same_contents (reads.unchanged sound).record_format (reads.unchanged sound).map ∙ already (stored old) second;
  }

-- a migration that ends with its commit
module _ (changes : Changes) (old mid new : StoreState) (sound : old.sound) (reads : OnlyReads old mid) (first : old.record_format ≡ V1) (migrates_records : applied changes old.map ≡ with_places old.map) where
  abbrev after : Contents
  after = changed_in V2 changes (stored mid)

  pub leads : after ≡ in_second (stored old)
  leads = migrated_contents changes old mid first (reads.unchanged sound) migrates_records

  same_before : stored mid ≡ stored old
  same_before = same_contents (reads.unchanged sound).record_format (reads.unchanged sound).map

  unchanged : IsUnchanged mid new → IsUnchanged old new
  unchanged then =
      let same = reads.unchanged sound in
      record { map = then.map ∙ same.map; record_format = then.record_format ∙ same.record_format; number = then.number ∙ same.number }

  stays : IsUnchanged mid new → new.number ≤ old.number + 1
  stays then = let is = (unchanged then).number in omega (arith, is)

  module _ (db : Database) (settled : IsSettled old) (stands : Stands (stored old) db) where
    before_means : (x : Option Contents) → x ≡ Some (stored mid) → Means x db
    before_means x is = means (stored old) db stands x (is ∙ ap (λ (c : Contents). Some c) same_before)

    after_means : (x : Option Contents) → x ≡ Some after → Means x db
    after_means x is = means (in_second (stored old)) db stands x (is ∙ ap (λ (c : Contents). Some c) leads)

    either_means : (x : Option Contents) → (x ≡ Some (stored mid)) ⊎ (x ≡ Some after) → Means x db
    either_means x m = ⊎_elim (before_means x) (after_means x) m

    during_means : (result : Result (Unit {0}) StoreFault) (x : Option Contents) → MayLeaveDuring result (stored mid) after x → Means x db
    during_means (Ok u) x m = either_means x m
    during_means (Err commit.Full) x m = before_means x m
    during_means (Err commit.Memory) x m = before_means x m
    during_means (Err commit.Device) x m = either_means x m
    during_means (Err commit.Number) x m = before_means x m

    now_means : (result : Result (Unit {0}) StoreFault) (x : Option Contents) → MayLeaveNow result (stored mid) after x → Means x db
    now_means (Ok u) x m = after_means x m
    now_means (Err commit.Full) x m = before_means x m
    now_means (Err commit.Memory) x m = before_means x m
    now_means (Err commit.Device) x m = either_means x m
    now_means (Err commit.Number) x m = before_means x m

    commit_leaves : (result : Result (Unit {0}) StoreFault) → CommitsAtOnce result after mid new → LeavesOnly (λ x. Means x db) old.time new.time
    commit_leaves result c = joined (λ x. Means x db) old.time mid.time new.time (read_leaves old mid db sound settled stands reads)
        (weakened (MayLeaveDuring result (stored mid) after) (λ x. Means x db) mid.time new.time (during_means result) c.leaves)

    commit_left : (result : Result (Unit {0}) StoreFault) → CommitsAtOnce result after mid new → (x : Option Contents) → new.time.left x → Means x db
    commit_left result c x left = now_means result x (c.left x left)

    commit_keeps : (result : Result (Unit {0}) StoreFault) (told : Result (Unit {0}) OpeningFault) → CommitsAtOnce result after mid new
        → (told ≡ Err (Commit commit.Device)) ⊎ (new.number ≤ old.number + 1) → KeepsDatabase db told old new
    commit_keeps result told c number = record { during = commit_leaves result c; now = commit_left result c; number = number }

    refused : (fault : StoreFault) → CommitsAtOnce (Err fault) after mid new → IsUnchanged mid new → AfterMigration (Err (Commit fault)) old new → Migrates (Err (Commit fault)) db old new
    refused fault c same outcome = record { keeps = commit_keeps (Err fault) _ c (inr (stays same)); outcome = outcome }

    pub commit_fails : (fault : StoreFault) → CommitsAtOnce (Err fault) after mid new → Migrates (Err (Commit fault)) db old new
    commit_fails commit.Full c = refused commit.Full c c.committed (unchanged c.committed)
    commit_fails commit.Memory c = refused commit.Memory c c.committed (unchanged c.committed)
    commit_fails commit.Number c = refused commit.Number c c.committed (unchanged c.committed)
    commit_fails commit.Device c = record { keeps = commit_keeps (Err commit.Device) _ c (inl refl); outcome = tt }

    pub commit_done : (u : Unit {0}) → CommitsAtOnce (Ok u) after mid new → Migrates (Ok u) db old new
    commit_done u c = record {
      keeps = commit_keeps (Ok u) _ c (inr (let is = (reads.unchanged sound).number in let by_one = c.committed.by_one in omega (arith, is, by_one)));
      outcome = same_contents c.committed.record_format c.committed.map ∙ leads;
    }
