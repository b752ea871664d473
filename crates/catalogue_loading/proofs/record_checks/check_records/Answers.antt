use Rattle.std.proofs.Common.{◌∙◌}
use Rattle.store.proofs.Reading.{reads_joined}
use Rattle.catalogue_loading.proofs.Checking.{nothing_checked, one_checked, goes_past, none_left, fault_checks, all_checked}
use Rattle.catalogue_loading.proofs.record_checks.check_records.Goals as goal

pub loop-init : goal.loop-init
loop-init g c =
    let goes = c.in_ok-place.ensures.goes in
    record {
      preserved = c.in_ok-place.ensures.preserved;
      reads = goes.only_reads;
      unfailed = goes.failed;
      checked = λ s. nothing_checked _ _ (g.M.Map.state c.args.map.now).map c.args.prefix.now (g.met.M.Map.ordered c.args.map.now s) (goes.answer s);
    }

pub returns-in-Ok-false-clause-preserved : goal.returns-in-Ok-false-clause-preserved
returns-in-Ok-false-clause-preserved g c = g.M.Map.preserved_joined c.args.map.now c.loop.map c.test_next.new.map c.loop.invariant.preserved c.in-Ok-false.ensures.preserved

pub returns-in-Err-clause-preserved : goal.returns-in-Err-clause-preserved
returns-in-Err-clause-preserved g c = g.M.Map.preserved_joined c.args.map.now c.loop.map c.test_next.new.map c.loop.invariant.preserved c.in-Err.ensures.preserved

pub returns-in-Ok-false-clause-checked : goal.returns-in-Ok-false-clause-checked
returns-in-Ok-false-clause-checked g c = λ s.
    let so_far = c.loop.invariant.checked s in
    all_checked _ _ _ _ so_far
    (none_left _ _ c.in-Ok-false.field-0 so_far.later c.in-Ok-false.field-0-test (c.in-Ok-false.ensures.tested (c.loop.invariant.reads.history.sound s) so_far.later so_far.is_ahead))

pub returns-in-Err-clause-checked : goal.returns-in-Err-clause-checked
returns-in-Err-clause-checked g c = λ s.
    let so_far = c.loop.invariant.checked s in
    fault_checks _ _ (g.M.Map.ahead c.test_next.new.map c.test_next.new.place) _ _ c.in-Err.fault so_far
    (c.in-Err.ensures.tested (c.loop.invariant.reads.history.sound s) so_far.later so_far.is_ahead)

pub loop-preserved : goal.loop-preserved
loop-preserved g c =
    let reads = c.loop.invariant.reads in
    record {
      preserved = g.M.Map.preserved_joined c.args.map.now c.loop.map c.test_next.new.map c.loop.invariant.preserved c.in-Ok-true.ensures.preserved;
      reads = reads_joined (g.M.Map.state c.args.map.now) (g.M.Map.state c.loop.map) (g.M.Map.state c.test_next.new.map) reads c.in-Ok-true.ensures.read.only_reads;
      unfailed = c.in-Ok-true.ensures.read.failed ∙ c.loop.invariant.unfailed;
      checked = λ s.
          let so_far = c.loop.invariant.checked s in
          one_checked _ _ (g.M.Map.ahead c.test_next.new.map c.test_next.new.place) _ _ so_far
          (goes_past _ _ c.in-Ok-true.field-0 so_far.later c.in-Ok-true.field-0-test (c.in-Ok-true.ensures.tested (reads.history.sound s) so_far.later so_far.is_ahead));
    }
