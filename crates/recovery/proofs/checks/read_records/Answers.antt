use Rattle.std.proofs.Common.{subst, Err}
use Rattle.store.specs.Records.{Records}
use Rattle.stored_database.specs.Records.{Define}
use Rattle.catalogue_loading.specs.RowChecks.{ChecksRows}
use Rattle.recovery.proofs.Faults.{fault_of_rows}
use Rattle.recovery.proofs.checks.read_records.Goals as goal

pub returns-in-Err-check_rows-clause-found : goal.returns-in-Err-check_rows-clause-found
returns-in-Err-check_rows-clause-found g c = λ s.
    let d = c.in-Ok.catalogue in
    let fault = c.in-Err-check_rows.fault in
    let reads = c.in-Ok.ensures.read.only_reads in
    let checked = subst (λ (es : Records). Define es d → ChecksRows (Err fault) es d) (reads.unchanged s).map (c.in-Err-check_rows.ensures.checked (reads.history.sound s)) in
    fault_of_rows fault (g.M.Map.state c.args.map.now).map d (checked (c.in-Ok.ensures.loaded s))
