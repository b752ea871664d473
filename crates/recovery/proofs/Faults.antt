-- The faults of opening.
use Rattle.std.proofs.Common.{Err}
use Rattle.store.specs.declared.fault.Fault.{Fault}
use Rattle.store.specs.declared.fault.Fault.TheVariants.{Memory, Device, Damaged}
use Rattle.store.specs.Records.{Records}
use Rattle.stored_database.specs.Definitions.{Definitions}
use Rattle.catalogue_loading.specs.RowChecks.{ChecksRows}
use Rattle.catalogue_loading.specs.Found.{Finds}
use Rattle.recovery.specs.Openings.{AreOfDatabase}

-- a fault of the check of the rows
pub fault_of_rows : (fault : Fault) (records : Records) (d : Definitions) → ChecksRows (Err fault) records d → Finds (AreOfDatabase records) (Err fault)
fault_of_rows Memory records d checks = tt
fault_of_rows Device records d checks = tt
fault_of_rows Damaged records d checks = λ other shown. checks shown.0 (other, shown.1)
