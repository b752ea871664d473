-- Reads of a store in memory.
use Rattle.std.proofs.Common.{◌≡◌, Bool, true, false, Option, Result, Ok, Err, refl, sym, subst}
use Rattle.std.specs.Prelude.{IfOk, OnErr}
use Rattle.storage_sizes.specs.declared.record_format.RecordFormat.{RecordFormat}
use Rattle.store.specs.Records.{Record, Records, IsFound}
use Rattle.store.specs.declared.fault.StoreFault.{StoreFault}
use Rattle.store.specs.declared.fault.StoreFault.TheVariants.{Memory}
use Rattle.store.specs.Store.{OnlyReads, Reads}
use Rattle.store.specs.Memory.{memory_state}
use Rattle.store.proofs.Reading.{none_read}

pub none_failed : {X : Type 0} → false ≡ true → X
none_failed h = cc

pub read_nothing : (record_format : RecordFormat) (records : Records) → OnlyReads (memory_state record_format records) (memory_state record_format records)
read_nothing record_format records = none_read (memory_state record_format records) (λ sound x none. absurd none)

-- a read that finds what it should, or to which memory was refused
pub read_in_memory : (record_format : RecordFormat) (records : Records) (entry : Option Record) (result : Result Bool StoreFault) (out : Record) → IfOk result (λ found. IsFound found out entry) → OnErr result (result ≡ Err Memory)
    → Reads entry result out (memory_state record_format records) (memory_state record_format records)
read_in_memory record_format records entry (Ok found) out is refused = record {
  only_reads = read_nothing record_format records;
  found = λ sound. is;
  cause = tt;
  failed = refl;
  closed = λ closes failed. none_failed failed;
}
read_in_memory record_format records entry (Err fault) out is refused =
    let same : fault ≡ Memory = cc in
    subst (λ (f : StoreFault). Reads entry (Err f) out (memory_state record_format records) (memory_state record_format records)) (sym same) (record {
      only_reads = read_nothing record_format records;
      found = λ sound. tt;
      cause = tt;
      failed = refl;
      closed = λ closes failed. none_failed failed;
    })
