-- A read of the pages is one of their view under what waits.
use Rattle.std.proofs.Common.{List, Result, ap}
use Rattle.store.specs.Records.{Changes}
use Rattle.store.specs.Steps.{Goes}
use Rattle.store.specs.Store.{StoreState, HasReadCause}
use Rattle.store.specs.declared.fault.StoreFault.{StoreFault}
use Rattle.store.specs.declared.fault.StoreFault.TheVariants.{Full, Memory, Device, Number}
use Rattle.std.specs.Prelude.{Ok, Err, IfErr}
use Rattle.transactions.specs.Calls.{KeepsRecords}
use Rattle.transactions.specs.Views.{applied_all, view_state}

pub keeps_records : {T : Type 0} {answers : T → Type 0} (result : Result T StoreFault) (old new : StoreState) → Goes answers result old new → KeepsRecords old new
keeps_records result old new goes = record { sound = goes.only_reads.history.sound; unchanged = goes.only_reads.unchanged }

pub under_changes : {T : Type 0} {answers : T → Type 0} (lists : List Changes) (result : Result T StoreFault) (old new : StoreState) → Goes answers result old new → Goes answers result (view_state lists old) (view_state lists new)
under_changes lists result old new goes = record {
  only_reads = record {
    history = record { sound = goes.only_reads.history.sound; fulls = goes.only_reads.history.fulls; failures = goes.only_reads.history.failures; faults = goes.only_reads.history.faults };
    unchanged = λ sound. (let same = goes.only_reads.unchanged sound in record { map = ap (applied_all lists) same.map; record_format = same.record_format; number = same.number });
    leaves = λ sound. goes.only_reads.leaves sound;
  };
  answer = λ sound. goes.answer sound;
  cause = cause_of result goes.cause;
  failed = goes.failed;
  closed = λ never. absurd never;
} where
  cause_of : {T : Type 0} (r : Result T StoreFault) → IfErr r (λ fault. HasReadCause fault old new) → IfErr r (λ fault. HasReadCause fault (view_state lists old) (view_state lists new))
  cause_of (Ok x) is = tt
  cause_of (Err Full) is = is
  cause_of (Err Memory) is = tt
  cause_of (Err Device) is = record { counted = is.counted; fault = is.fault }
  cause_of (Err Number) is = is
