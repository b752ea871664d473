use Rattle.std.proofs.Common.{◌∙◌, ◌+◌, ◌≤◌, arith, length, subst, refl}
use Rattle.std.specs.Prelude.{IfErr}
use Rattle.std.proofs.Math.ListN.{drop_of_length-le}
use Rattle.sql_types.specs.Row.{Row}
use Rattle.std.specs.Prelude.{List}
use Rattle.store.proofs.Reading.{reads_joined}
use Rattle.table_rows.specs.Failures.{IsDamagedFor}
use Rattle.table_rows.specs.Puts.{PutsRows}
use Rattle.table_rows.proofs.Loops.{here}
use Rattle.table_rows.proofs.MapReads.{ended}
use Rattle.table_rows.proofs.Putting.{Putting, putting_seen, failed_seen, putting_last, put_undamaged}
use Rattle.table_rows.proofs.puts.put_rows.Goals as goal

pub returns-in_err-put_row-clause-puts : goal.returns-in_err-put_row-clause-puts
returns-in_err-put_row-clause-puts g c = λ s others is ordered h f.
    let records = (g.M.Map.state c.args.records.now).map in
    let same = (c.loop-row.invariant.reads.unchanged s).map in
    let put = c.in_err-put_row.ensures.puts (c.loop-row.invariant.reads.history.sound s) in
    let p = subst (λ (rest : List Row). Putting c.args.id c.args.columns.now c.args.rows.now rest others records c.args.changes.now c.loop-row.changes)
    (here c.args.rows.now c.loop-row.row-index c.row-item.result c.row-item.is (omega arith)) (c.loop-row.invariant.putting s others is ordered h f) in
    ended c.in_err-put_row.field-0.0 (λ r. PutsRows r c.args.id c.args.columns.now c.args.rows.now others records c.args.changes.now c.put_row.new.changes) c.from_residual.result c.from_residual.ensures.1
    (failed_seen c.args.id c.args.columns.now is c.args.rows.now others records (g.met.M.Map.ordered c.args.records.now s) c.args.changes.now c.in_err-put_row.field-0.0 c.row-item.result c.row-item.result _
    (g.M.Map.state c.loop-row.records).map c.loop-row.changes c.put_row.new.changes c.put_row.new.changes refl same p put)

pub loop-row-preserved : goal.loop-row-preserved
loop-row-preserved g c = record {
  preserved = g.M.Map.preserved_joined c.args.records.now c.loop-row.records c.put_row.new.records c.loop-row.invariant.preserved c.in_ok-put_row.ensures.preserved;
  reads = reads_joined (g.M.Map.state c.args.records.now) (g.M.Map.state c.loop-row.records) (g.M.Map.state c.put_row.new.records) c.loop-row.invariant.reads c.in_ok-put_row.ensures.reads.only_reads;
  works = c.in_ok-put_row.ensures.reads.failed ∙ c.loop-row.invariant.works;
  few = omega arith;
  cost = g.M.Map.cost_joined c.args.records.now c.loop-row.records c.put_row.new.records c.loop-row.row-index 1 c.loop-row.invariant.cost c.in_ok-put_row.ensures.cost;
  concern = λ old. c.in_ok-put_row.ensures.concern (c.loop-row.invariant.concern old);
  putting = λ s others is ordered h f.
      let records = (g.M.Map.state c.args.records.now).map in
      let same = (c.loop-row.invariant.reads.unchanged s).map in
      let put = c.in_ok-put_row.ensures.puts (c.loop-row.invariant.reads.history.sound s) in
      let p = subst (λ (rest : List Row). Putting c.args.id c.args.columns.now c.args.rows.now rest others records c.args.changes.now c.loop-row.changes)
      (here c.args.rows.now c.loop-row.row-index c.row-item.result c.row-item.is (omega arith)) (c.loop-row.invariant.putting s others is ordered h f) in
      putting_seen c.args.id c.args.columns.now is c.args.rows.now others records (g.met.M.Map.ordered c.args.records.now s) c.args.changes.now c.in_ok-put_row.field-0 c.row-item.result c.row-item.result _
      (g.M.Map.state c.loop-row.records).map c.loop-row.changes c.put_row.new.changes refl same p put;
}

pub returns-clause-puts : goal.returns-clause-puts
returns-clause-puts g c = λ s others is ordered h f.
    let records = (g.M.Map.state c.args.records.now).map in
    putting_last c.args.id c.args.columns.now is c.args.rows.now others records (g.met.M.Map.ordered c.args.records.now s) c.args.changes.now c.loop-row.changes
    (subst (λ (rest : List Row). Putting c.args.id c.args.columns.now c.args.rows.now rest others records c.args.changes.now c.loop-row.changes)
    (drop_of_length-le c.args.rows.now c.loop-row-test.false) (c.loop-row.invariant.putting s others is ordered h f))

pub returns-in_err-put_row-clause-undamaged : goal.returns-in_err-put_row-clause-undamaged
returns-in_err-put_row-clause-undamaged g c = λ s.
    ended c.in_err-put_row.field-0.0 (λ r. IfErr r (IsDamagedFor ⊥)) c.from_residual.result c.from_residual.ensures.1
    (put_undamaged c.in_err-put_row.field-0.0 _ _ _ _ (c.in_err-put_row.ensures.puts (c.loop-row.invariant.reads.history.sound s)))

pub returns-in_err-put_row-clause-cost : goal.returns-in_err-put_row-clause-cost
returns-in_err-put_row-clause-cost g c =
    g.M.Map.cost_within c.args.records.now c.put_row.new.records (c.loop-row.row-index + 1) _ (omega arith) (g.M.Map.cost_joined c.args.records.now c.loop-row.records c.put_row.new.records c.loop-row.row-index 1 c.loop-row.invariant.cost c.in_err-put_row.ensures.cost)

pub returns-clause-cost : goal.returns-clause-cost
returns-clause-cost g c = g.M.Map.cost_within c.args.records.now c.loop-row.records c.loop-row.row-index _ c.loop-row.invariant.few c.loop-row.invariant.cost
