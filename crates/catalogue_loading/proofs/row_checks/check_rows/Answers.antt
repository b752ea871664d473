use Rattle.std.proofs.Common.{List, subst, Err}
use Rattle.store.specs.Records.{Records}
use Rattle.abstract_database.specs.Whole.{Each}
use Rattle.stored_database.specs.Definitions.{TableDefinition, ids_of}
use Rattle.stored_database.specs.RecordFormat.{rows_prefix}
use Rattle.catalogue_loading.specs.RecordChecks.{ChecksRecords, IsNoOrphanRow}
use Rattle.catalogue_loading.specs.RowChecks.{HasOnlyRows, ChecksTables}
use Rattle.catalogue_loading.proofs.Checked.{fault_of_tables, after_tables}
use Rattle.catalogue_loading.proofs.row_checks.check_rows.Goals as goal

pub returns-in-Ok-clause-checked : goal.returns-in-Ok-clause-checked
returns-in-Ok-clause-checked g c = λ s defined.
    let records = (g.M.Map.state c.args.map.now).map in
    let d = c.args.catalogue.now in
    let result = c.check_orphans.result in
    let reads = c.in-Ok.ensures.read.only_reads in
    let only = subst (λ (ts : List TableDefinition). Each (HasOnlyRows records) ts) c.tables-tables.ensures.tables (c.in-Ok.ensures.checked s) in
    let then = subst (λ (es : Records). ChecksRecords (IsNoOrphanRow (ids_of c.tables-tables.result.now)) es rows_prefix result) (reads.unchanged s).map (c.check_orphans.ensures.checked (reads.history.sound s)) in
    let orphans = subst (λ (ts : List TableDefinition). ChecksRecords (IsNoOrphanRow (ids_of ts)) records rows_prefix result) c.tables-tables.ensures.tables then in
    after_tables c.one_catalogue.ensures records d result (g.met.M.Map.ordered c.args.map.now s) defined only orphans

pub returns-in-Err-clause-checked : goal.returns-in-Err-clause-checked
returns-in-Err-clause-checked g c = λ s defined.
    let records = (g.M.Map.state c.args.map.now).map in
    let fails = subst (λ (ts : List TableDefinition). ChecksTables (Err c.in-Err.fault) records ts) c.tables-tables.ensures.tables (c.in-Err.ensures.checked s) in
    fault_of_tables c.one_catalogue.ensures records c.args.catalogue.now c.in-Err.fault defined fails
