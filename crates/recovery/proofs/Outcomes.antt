-- What an opening comes to: its reads, and then its commit, if there is one.
use Rattle.std.proofs.Common.{◌≡◌, ◌≢◌, ◌⊎◌, ◌≤◌, ◌+◌, inl, inr, ⊎_elim, ℕ, Bool, false, List, [], Result, Ok, Err, refl, ap, sym, ◌∙◌, subst, arith}
use Rattle.storage_sizes.specs.declared.record_format.RecordFormat.{RecordFormat}
use Rattle.storage_sizes.specs.declared.record_format.RecordFormat.TheVariants.{V1, V2}
use Rattle.store.specs.declared.fault.Fault.{Fault}
use Rattle.store.specs.declared.fault.Fault.TheVariants as read
use Rattle.store.specs.declared.fault.StoreFault.{StoreFault}
use Rattle.store.specs.declared.fault.StoreFault.TheVariants as commit
use Rattle.store.specs.Records.{Records, Changes}
use Rattle.store.specs.Readers.{HasRead, HasFaultCause}
use Rattle.store.specs.Store.{StoreState, Contents, stored, OnlyReads, IsUnchanged, AfterCommit}
use Rattle.abstract_database.specs.Database.{Database}
use Rattle.stored_database.specs.Definitions.{Definitions}
use Rattle.stored_database.specs.Records.{Shows}
use Rattle.stored_database.specs.BothRecordFormats.{in_record_format_2, Stands}
use Rattle.recovery.specs.declared.fault.OpeningFault.{OpeningFault}
use Rattle.recovery.specs.declared.fault.OpeningFault.TheVariants.{Read, Commit}
use Rattle.recovery.specs.Migrated.{Migrates, failed_after_opening, HasOpeningCause}
use Rattle.recovery.specs.MigrationChanges.{AreMigrating}
use Rattle.recovery.proofs.Migrating.{IsSettled}
use Rattle.recovery.proofs.Ending.{by_lists, no_fault, migrates_ok, CommitsNone, CommitsOne}
use Rattle.recovery.specs.Openings.{OnlyLooks, HasLooked, IsNumberAfter}
use Rattle.recovery.specs.Read.{AreRead}

-- ---- an opening that ends with a fault of its reads

pub looked : {T : Type 0} (fault : Fault) (old new : StoreState) → HasRead {T = T} (Err fault) old new → HasLooked (Err (Read fault)) old new
looked read.Memory old new h = record { only_reads = h.only_reads; cause = h.cause; failed = h.failed }
looked read.Device old new h = record { only_reads = h.only_reads; cause = h.cause; failed = h.failed }
looked read.Damaged old new h = record { only_reads = h.only_reads; cause = h.cause; failed = h.failed }

pub read_failed : {T : Type 0} (fault : Fault) (old new : StoreState) → HasRead {T = T} (Err fault) old new → new.has_failed ≡ failed_after_opening (Err (Read fault)) old.has_failed
read_failed read.Memory old new h = h.failed
read_failed read.Device old new h = h.failed
read_failed read.Damaged old new h = h.failed

pub read_cause : (fault : Fault) (old new : StoreState) → HasFaultCause fault old new → AreRead (stored old) (Err fault) → HasOpeningCause (Read fault) old new
read_cause read.Memory old new cause none = tt
read_cause read.Device old new cause none = cause
read_cause read.Damaged old new cause none = none

-- what stands for a database is not damaged
pub not_damaged : (fault : OpeningFault) (old new : StoreState) → HasOpeningCause fault old new → (db : Database) → Stands (stored old) db → fault ≢ Read read.Damaged
not_damaged fault old new cause db stands is = subst (λ (f : OpeningFault). HasOpeningCause f old new) is cause db stands

-- ---- an opening that only looks makes no commit

pub opened_looking : (s : RecordFormat) (u : Unit {0}) → OnlyLooks s (Ok u) → s ≡ V2
opened_looking V1 u h = absurd h
opened_looking V2 u h = refl

refused_looking : (s : RecordFormat) (fault : StoreFault) → OnlyLooks s (Err (Commit fault)) → s ≡ V2
refused_looking V1 fault h = absurd h
refused_looking V2 fault h = refl

-- an opening that only looks at what it opens only looks where memory then runs out
pub looking_without_memory : (s : RecordFormat) → OnlyLooks s (Err (Read read.Memory)) → OnlyLooks s (Ok tt)
looking_without_memory V1 h = absurd h
looking_without_memory V2 h = tt

-- a fault of a commit comes only where there is a list, so not in record format 2
pub no_look_refused : {P S : Type 0} (s : RecordFormat) (fault : StoreFault) (mid new : S) (lists : List Changes) → (s ≡ V2 → lists ≡ []) → CommitsNone (Err fault) mid new lists
    → OnlyLooks s (Err (Commit fault)) → P
no_look_refused s fault mid new lists unlisted none looks = absurd (no_fault (none (unlisted (refused_looking s fault looks))).0)

-- ---- an opening that ends with its commit, or with none

-- what a refused commit leaves is what was there, except after Device
unchanged_by : (fault : StoreFault) (after : Contents) (old new : StoreState) → AfterCommit (Err fault) after old new → (fault ≡ commit.Device) ⊎ IsUnchanged old new
unchanged_by commit.Full after old new is = inr is
unchanged_by commit.Memory after old new is = inr is
unchanged_by commit.Device after old new is = inl refl
unchanged_by commit.Number after old new is = inr is

number_by : (s : RecordFormat) (before number : ℕ) → before ≤ number → number ≤ before + 1 → (s ≡ V2 → number ≡ before) → IsNumberAfter s before number
number_by V1 before number not_back by_one same = (not_back, by_one)
number_by V2 before number not_back by_one same = same refl

unchanged_since : (old mid new : StoreState) → IsUnchanged old mid → IsUnchanged mid new → IsUnchanged old new
unchanged_since old mid new first second = record { map = second.map ∙ first.map; record_format = second.record_format ∙ first.record_format; number = second.number ∙ first.number }

module _ {S : Type 0} (state : S → StoreState) (old mid new : S) (lists : List Changes) (reads : OnlyReads (state old) (state mid)) (unfailed : (state mid).has_failed ≡ (state old).has_failed) where
  -- a store of record format 2 was only read
  pub looked_through : (u : Unit {0}) → CommitsNone (Ok u) mid new lists → lists ≡ [] → HasLooked (Ok u) (state old) (state new)
  looked_through u none is = subst (λ (x : S). HasRead (Ok u) (state old) (state x)) (sym (none is).1) (record { only_reads = reads; cause = tt; failed = unfailed })

  module _ (sound : (state old).sound) (works : (state old).has_failed ≡ false) where
    pub unchanged_refused : (fault : StoreFault) → CommitsNone (Err fault) mid new lists → CommitsOne (Err fault) (state mid) (state new) lists
        → (fault ≡ commit.Device) ⊎ IsUnchanged (state old) (state new)
    unchanged_refused fault none some = by_lists lists (λ is. absurd (no_fault (none is).0)) (λ c cs is.
        let done = (some c cs is).at_once (reads.history.sound sound) (unfailed ∙ works) in
        ⊎_elim (λ device. inl device) (λ same. inr (unchanged_since (state old) (state mid) (state new) (reads.unchanged sound) same)) (unchanged_by fault _ (state mid) (state new) done.committed))

    -- the number rises by the one commit, if there is one
    pub number_then : (u : Unit {0}) → CommitsNone (Ok u) mid new lists → CommitsOne (Ok u) (state mid) (state new) lists → ((state old).record_format ≡ V2 → lists ≡ [])
        → IsNumberAfter (state old).record_format (state old).number (state new).number
    number_then u none some unlisted =
        let read = (reads.unchanged sound).number in
        let still : lists ≡ [] → (state new).number ≡ (state old).number = λ is. ap (λ (x : S). (state x).number) (none is).1 ∙ read in
        by_lists lists
        (λ is. let same = still is in number_by (state old).record_format (state old).number (state new).number (omega (arith, same)) (omega (arith, same)) (λ second. same))
        (λ c cs is.
        let done = (some c cs is).at_once (reads.history.sound sound) (unfailed ∙ works) in
        let up = done.committed.not_back in
        let most = done.committed.by_one in
        number_by (state old).record_format (state old).number (state new).number (omega (arith, read, up)) (omega (arith, read, most)) (λ second. still (unlisted second)))
