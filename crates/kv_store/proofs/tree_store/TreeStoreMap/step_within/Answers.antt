use Rattle.std.proofs.Common.{◌∙◌, ap}
use Rattle.store.specs.Records.{Record}
use Rattle.store.specs.Walks.{is_within}
use Rattle.store.proofs.Spans.{step_ends, step_fails, step_stops}
use Rattle.store.proofs.Walking.{answered}
use Rattle.kv_store.proofs.tree_store.TreeStoreMap.step_within.Goals as goal

pub returns-in-Ok-true : goal.returns-in-Ok-true
returns-in-Ok-true g c =
    let is = c.in-Ok-true.ensures in
    let stop = c.args.stop.now in
    record {
      preserved = is.preserved;
      goes = step_stops stop _ _ _ _ _ c.in-Ok-true.field-0 c.is_within.result c.in-Ok-true.field-0-test (λ e found. c.is_within.ensures ∙ ap (λ (entry : Record). is_within stop entry.0) (c.entry-in-Ok-true.view_is ∙ c.entry.ensures e found)) is.goes;
      still = λ had. absurd (answered (is.still had).0);
      counts = is.counts;
    }

pub returns-in-Ok-false : goal.returns-in-Ok-false
returns-in-Ok-false g c =
    let is = c.in-Ok-false.ensures in
    record { preserved = is.preserved; goes = step_ends c.args.stop.now _ _ _ _ _ c.in-Ok-false.field-0 c.in-Ok-false.field-0-test is.goes; still = λ had. absurd (answered (is.still had).0); counts = is.counts }

pub returns-in-Err : goal.returns-in-Err
returns-in-Err g c =
    let is = c.in-Err.ensures in
    record { preserved = is.preserved; goes = step_fails c.args.stop.now _ _ _ _ _ c.in-Err.fault is.goes; still = is.still; counts = is.counts }
