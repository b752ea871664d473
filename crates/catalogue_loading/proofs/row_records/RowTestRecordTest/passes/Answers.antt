use Rattle.std.proofs.Common.{◌↔◌, IsTrue, subst}
use Rattle.store.specs.Records.{Record}
use Rattle.catalogue_loading.specs.RecordChecks.{IsRowRecord}
use Rattle.catalogue_loading.proofs.row_records.RowTestRecordTest.passes.Goals as goal

pub returns : goal.returns
returns c =
    subst (λ (e : Record). IsTrue c.is_row.result ↔ IsRowRecord c.args.self.now.id c.args.self.now.columns.now e) c.entry.view_is c.is_row.ensures
