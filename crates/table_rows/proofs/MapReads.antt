-- Calls that read a map, one after the other.
use Rattle.std.proofs.Common.{◌≡◌, Bool, Result, Ok, Err, ap, ◌∙◌, sym, subst}
use Rattle.std.specs.Prelude.{IfErr}
use Rattle.std.specs.Result.{IsErrAnd}
use Rattle.store.specs.declared.fault.StoreFault.{StoreFault}
use Rattle.store.specs.declared.fault.StoreFault.TheVariants as store
use Rattle.store.specs.declared.fault.Fault.TheVariants.{Memory, Device, Damaged}
use Rattle.store.specs.Fault.{fault_of}
use Rattle.store.specs.Store.{StoreState, OnlyReads, HasReadCause, failed_after}
use Rattle.store.proofs.Reading.{reads_joined, cause_later}
use Rattle.store.specs.declared.stop.StatementError.{StatementError}
use Rattle.store.specs.declared.stop.StatementError.TheVariants.{Refused, Failed}
use Rattle.store.specs.StatementError.{HasMapCause, failed_by, ReadsMap}
use Rattle.table_rows.specs.Failures.{IsDamagedFor, ReadsNoMap}

failure_later : (failure : StatementError) (old mid new : StoreState) → OnlyReads old mid → mid.has_failed ≡ old.has_failed → OnlyReads mid new → HasMapCause failure mid new → HasMapCause failure old new
failure_later (Refused code) old mid new first same second cause = tt
failure_later (Failed Memory) old mid new first same second cause = tt
failure_later (Failed Device) old mid new first same second cause = cause_later store.Device old mid new first.history same second.history cause
failure_later (Failed Damaged) old mid new first same second cause = tt

causes_later : {A : Type 0} (r : Result A StatementError) (old mid new : StoreState) → OnlyReads old mid → mid.has_failed ≡ old.has_failed → OnlyReads mid new
    → IfErr r (λ failure. HasMapCause failure mid new) → IfErr r (λ failure. HasMapCause failure old new)
causes_later (Ok x) old mid new first same second cause = tt
causes_later (Err failure) old mid new first same second cause = failure_later failure old mid new first same second cause

-- a call after reads that did not fail
pub after_reads : {A : Type 0} (r : Result A StatementError) (old mid new : StoreState) → OnlyReads old mid → mid.has_failed ≡ old.has_failed → ReadsMap r mid new → ReadsMap r old new
after_reads r old mid new first same second = record {
  only_reads = reads_joined old mid new first second.only_reads;
  cause = causes_later r old mid new first same second.only_reads second.cause;
  failed = second.failed ∙ ap (failed_by r) same;
}

-- reads that did not fail, and nothing after them that reads
pub no_more : {A : Type 0} (r : Result A StatementError) (old new : StoreState) → OnlyReads old new → new.has_failed ≡ old.has_failed → IfErr r (λ failure. HasMapCause failure old new) → failed_by r old.has_failed ≡ old.has_failed → ReadsMap r old new
no_more r old new reads same cause stays = record { only_reads = reads; cause = cause; failed = same ∙ sym stays }

-- a read that failed
pub of_fault : {A : Type 0} (fault : StoreFault) (failure : StatementError) (old new : StoreState) → failure ≡ Failed (fault_of fault) → OnlyReads old new → HasReadCause fault old new
    → new.has_failed ≡ (let r : Result Bool StoreFault = Err fault in failed_after r old.has_failed) → (let r : Result A StatementError = Err failure in ReadsMap r old new)
of_fault {A} fault failure old new e reads cause failed = subst (λ (f : StatementError). let r : Result A StatementError = Err f in ReadsMap r old new) (sym e) (go fault cause failed)
  where
    go : (fault : StoreFault) → HasReadCause fault old new → new.has_failed ≡ (let r : Result Bool StoreFault = Err fault in failed_after r old.has_failed)
        → (let r : Result A StatementError = Err (Failed (fault_of fault)) in ReadsMap r old new)
    go store.Full cause failed = absurd cause
    go store.Memory cause failed = record { only_reads = reads; cause = tt; failed = failed }
    go store.Device cause failed = record { only_reads = reads; cause = cause; failed = failed }
    go store.Number cause failed = absurd cause

-- a failure that `?` hands on
pub ended : {A E : Type 0} (failure : E) (P : Result A E → Type 0) (r : Result A E) → IsErrAnd r (λ y. y ≡ failure) → P (Err failure) → P r
ended failure P (Ok x) is p = absurd is
ended failure P (Err y) is p = subst (λ f. P (Err f)) (sym is) p

-- reads that did not fail, and then a failure that reads no map
pub other_failure : {A : Type 0} (failure : StatementError) (old new : StoreState) → OnlyReads old new → new.has_failed ≡ old.has_failed → (let r : Result (Unit {0}) StatementError = Err failure in ReadsNoMap r)
    → (let r : Result A StatementError = Err failure in ReadsMap r old new)
other_failure (Refused code) old new reads same own = record { only_reads = reads; cause = tt; failed = same }
other_failure (Failed Memory) old new reads same own = record { only_reads = reads; cause = tt; failed = same }
other_failure (Failed Device) old new reads same own = absurd own
other_failure (Failed Damaged) old new reads same own = record { only_reads = reads; cause = tt; failed = same }

-- ---- damage

-- what has no cause has any
pub no_damage : (failure : StatementError) (cause : Type 0) → IsDamagedFor ⊥ failure → IsDamagedFor cause failure
no_damage (Refused code) cause h = tt
no_damage (Failed Memory) cause h = tt
no_damage (Failed Device) cause h = tt
no_damage (Failed Damaged) cause h = absurd h
