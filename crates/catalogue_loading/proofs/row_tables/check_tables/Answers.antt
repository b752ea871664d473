use Rattle.std.proofs.Common.{◌∙◌, subst, Ok, Err}
use Rattle.store.specs.Records.{Records}
use Rattle.store.proofs.Reading.{reads_joined}
use Rattle.row_codec.specs.Rows.{row_prefix}
use Rattle.catalogue_loading.specs.RecordChecks.{ChecksRecords, IsRowRecord}
use Rattle.catalogue_loading.proofs.Checked.{one_more, one_fails}
use Rattle.catalogue_loading.proofs.row_tables.check_tables.Goals as goal

pub returns-in-Err-clause-checked : goal.returns-in-Err-clause-checked
returns-in-Err-clause-checked g c = λ s.
    let reads = c.loop-table.invariant.reads in
    let t = c.table-item.result in
    let fails = subst (λ (records : Records). ChecksRecords (IsRowRecord t.id t.definition.layout) records (row_prefix t.id) (Err c.in-Err.fault)) (reads.unchanged s).map
    (c.in-Err.ensures.checked (reads.history.sound s)) in
    one_fails (g.M.Map.state c.args.map.now).map c.args.tables.now c.loop-table.table-index t c.in-Err.fault c.table-item.is c.loop-table-test.true fails

pub loop-table-preserved : goal.loop-table-preserved
loop-table-preserved g c =
    let reads = c.loop-table.invariant.reads in
    let t = c.table-item.result in
    record {
      preserved = g.M.Map.preserved_joined c.args.map.now c.loop-table.map c.check_table.new.map c.loop-table.invariant.preserved c.in-Ok.ensures.preserved;
      reads = reads_joined (g.M.Map.state c.args.map.now) (g.M.Map.state c.loop-table.map) (g.M.Map.state c.check_table.new.map) reads c.in-Ok.ensures.read.only_reads;
      unfailed = c.in-Ok.ensures.read.failed ∙ c.loop-table.invariant.unfailed;
      checked = λ s.
          let only = subst (λ (records : Records). ChecksRecords (IsRowRecord t.id t.definition.layout) records (row_prefix t.id) (Ok tt)) (reads.unchanged s).map
          (c.in-Ok.ensures.checked (reads.history.sound s)) in
          one_more (g.M.Map.state c.args.map.now).map c.args.tables.now c.loop-table.table-index t c.table-item.is c.loop-table-test.true only (c.loop-table.invariant.checked s);
    }
