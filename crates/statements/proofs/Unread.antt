-- Statements that read no record.
use Rattle.std.proofs.Common.{◌≡◌, refl, Result, Ok, Err, IfErr}
use Rattle.store.specs.StatementError.{FailsForMemory, ReadsMap}
use Rattle.store.specs.Store.{StoreState, OnlyReads}
use Rattle.store.specs.declared.fault.Fault.TheVariants.{Memory, Device, Damaged}
use Rattle.store.specs.declared.stop.StatementError.{StatementError}
use Rattle.store.specs.declared.stop.StatementError.TheVariants.{Refused, Failed}
use Rattle.catalogue.specs.declared.effect.Effect.{Effect}

-- they fail for memory alone, so they leave the map as a reader does that has read nothing
pub nothing_read : (result : Result Effect StatementError) (s : StoreState) → IfErr result FailsForMemory → OnlyReads s s → ReadsMap result s s
nothing_read (Ok made) s memory reads = record { only_reads = reads; cause = tt; failed = refl }
nothing_read (Err (Refused code)) s memory reads = record { only_reads = reads; cause = tt; failed = refl }
nothing_read (Err (Failed Memory)) s memory reads = record { only_reads = reads; cause = tt; failed = refl }
nothing_read (Err (Failed Device)) s memory reads = let same : Device ≡ Memory = memory in cc
nothing_read (Err (Failed Damaged)) s memory reads = record { only_reads = reads; cause = tt; failed = refl }
