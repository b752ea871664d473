use Rattle.std.proofs.Common.{◌≡◌, ◌≤◌, ◌∙◌, ◌+◌, ◌*◌, ◌-◌, ◌∷◌, ℕ, List, [], Ok, Err, Result, arith, drop, length, min, refl, ap, sym, subst}
use Rattle.std.proofs.lemmas.List.{drop_all, length-append}
use Rattle.store.specs.Records.{Records, entries_where}
use Rattle.store.specs.Walks.{count_to, span}
use Rattle.store.proofs.Reading.{none_read, reads_joined}
use Rattle.sql_types.specs.declared.state.SqlState.{SqlState}
use Rattle.key_ranges.specs.declared.spans.KeySpan.{KeySpan}
use Rattle.key_ranges.specs.Spans.{is_in_spans}
use Rattle.table_rows.specs.Costs.{walk_cost}
use Rattle.table_rows.proofs.Loops.{here}
use Rattle.table_rows.proofs.SpanWalks.{next_span, none_in_spans, same_span}
use Rattle.executor.proofs.counted.count_in_spans_to.Goals as goal

pub loop-span-init : goal.loop-span-init
loop-span-init g c = record {
  preserved = g.M.Map.preserved_same c.args.records.now;
  reads = none_read (g.M.Map.state c.args.records.now) (g.met.M.Map.only_now c.args.records.now);
  works = refl;
  few = λ s. omega arith;
  counted = λ s. omega arith;
  cost = λ s. (0, g.M.Map.cost_none c.args.records.now, omega arith);
}

pub loop-span-preserved : goal.loop-span-preserved
loop-span-preserved g c = record {
  preserved = g.M.Map.preserved_joined c.args.records.now c.loop-span.records c.count_to.new.self c.loop-span.invariant.preserved c.in_ok-found.ensures.preserved;
  reads = reads_joined (g.M.Map.state c.args.records.now) (g.M.Map.state c.loop-span.records) (g.M.Map.state c.count_to.new.self) c.loop-span.invariant.reads c.in_ok-found.ensures.goes.only_reads;
  works = c.in_ok-found.ensures.goes.failed ∙ c.loop-span.invariant.works;
  few = λ s.
      let found = c.in_ok-found.ensures.goes.answer (c.loop-span.invariant.reads.history.sound s) in
      omega (arith, found, c.saturating_add-count.ensures, c.loop-span.invariant.few s);
  counted = λ s.
      let spans = c.args.spans.now in
      let i = c.loop-span.span-index in
      let one = c.span-item.result in
      let records = (g.M.Map.state c.args.records.now).map in
      let same = (c.loop-span.invariant.reads.unchanged s).map in
      let later = entries_where (is_in_spans (drop (i + 1) spans)) records in
      let next = next_span spans i one records (g.met.M.Map.ordered c.args.records.now s) c.requires c.span-item.is (omega arith) in
      let long = ap length next ∙ length-append (span one.start one.stop records) later in
      let before = c.loop-span.invariant.counted s in
      let found = c.in_ok-found.ensures.goes.answer (c.loop-span.invariant.reads.history.sound s) ∙ ap (λ (es : Records). count_to (c.args.most - c.loop-span.count) es) (same_span _ _ one.start one.stop _ records c.as_slice.ensures c.as_slice-in-loop-span.ensures same) in
      omega (arith, before, long, found, c.saturating_add-count.ensures, c.loop-span.invariant.few s);
  cost = λ s.
      let spans = c.args.spans.now in
      let i = c.loop-span.span-index in
      let one = c.span-item.result in
      let records = (g.M.Map.state c.args.records.now).map in
      let same = (c.loop-span.invariant.reads.unchanged s).map in
      let later = entries_where (is_in_spans (drop (i + 1) spans)) records in
      let spent = c.loop-span.invariant.cost s in
      let next = next_span spans i one records (g.met.M.Map.ordered c.args.records.now s) c.requires c.span-item.is (omega arith) in
      let long = ap length next ∙ length-append (span one.start one.stop records) later in
      let others = ap length (here spans i one c.span-item.is (omega arith)) in
      let bound = c.args.most - c.loop-span.count in
      let more : g.M.Map.cost c.loop-span.records c.count_to.new.self (count_to bound (span one.start one.stop records) + 1) =
      subst (λ (es : Records). g.M.Map.cost c.loop-span.records c.count_to.new.self (count_to bound es + 1)) (same_span _ _ one.start one.stop _ records c.as_slice.ensures c.as_slice-in-loop-span.ensures same) (c.in_ok-found.ensures.cost (c.loop-span.invariant.reads.history.sound s)) in
      let joined = g.M.Map.cost_joined c.args.records.now c.loop-span.records c.count_to.new.self spent.0 (count_to bound (span one.start one.stop records) + 1) spent.1 more in
      (spent.0 + (count_to bound (span one.start one.stop records) + 1), joined, omega (arith, spent.2, long, others));
}

pub returns-clause-counts : goal.returns-clause-counts
returns-clause-counts g c = λ s.
    let records = (g.M.Map.state c.args.records.now).map in
    let counted = c.loop-span.invariant.counted s in
    let none : length (entries_where (is_in_spans (drop c.loop-span.span-index c.args.spans.now)) records) ≡ 0 = ap length (ap (λ (l : List KeySpan). entries_where (is_in_spans l) records) (drop_all c.loop-span.span-index c.args.spans.now c.loop-span-test.false) ∙ none_in_spans records) in
    let same : count_to c.args.most (entries_where (is_in_spans c.args.spans.now) records) ≡ c.loop-span.count = omega (arith, counted, none, c.loop-span.invariant.few s) in
    ap (λ (n : ℕ). let r : Result ℕ SqlState = Ok n in r) same

pub returns-in_err-found-clause-cost : goal.returns-in_err-found-clause-cost
returns-in_err-found-clause-cost g c = λ s.
    let spans = c.args.spans.now in
    let i = c.loop-span.span-index in
    let one = c.span-item.result in
    let records = (g.M.Map.state c.args.records.now).map in
    let same = (c.loop-span.invariant.reads.unchanged s).map in
    let later = entries_where (is_in_spans (drop (i + 1) spans)) records in
    let spent = c.loop-span.invariant.cost s in
    let next = next_span spans i one records (g.met.M.Map.ordered c.args.records.now s) c.requires c.span-item.is (omega arith) in
    let long = ap length next ∙ length-append (span one.start one.stop records) later in
    let others = ap length (here spans i one c.span-item.is (omega arith)) in
    let bound = c.args.most - c.loop-span.count in
    let more : g.M.Map.cost c.loop-span.records c.count_to.new.self (count_to bound (span one.start one.stop records) + 1) =
    subst (λ (es : Records). g.M.Map.cost c.loop-span.records c.count_to.new.self (count_to bound es + 1)) (same_span _ _ one.start one.stop _ records c.as_slice.ensures c.as_slice-in-loop-span.ensures same) (c.in_err-found.ensures.cost (c.loop-span.invariant.reads.history.sound s)) in
    let joined = g.M.Map.cost_joined c.args.records.now c.loop-span.records c.count_to.new.self spent.0 (count_to bound (span one.start one.stop records) + 1) spent.1 more in
    g.M.Map.cost_within c.args.records.now c.count_to.new.self _ _ (omega (arith, spent.2, long, others)) joined

pub returns-clause-cost : goal.returns-clause-cost
returns-clause-cost g c = λ s.
    let spent = c.loop-span.invariant.cost s in
    g.M.Map.cost_within c.args.records.now c.loop-span.records spent.0 _ (omega (arith, spent.2)) spent.1
