use Rattle.std.proofs.Common.{◌≡◌, ◌∙◌, ◌+◌, ◌*◌, ◌≤◌, ℕ, List, [], ◌∷◌, Ok, Err, arith, drop, length, refl, ap, subst}
use Rattle.std.proofs.lemmas.List.{drop_all, length-append}
use Rattle.store.specs.Records.{Records, entries_where}
use Rattle.store.specs.Walks.{span}
use Rattle.store.proofs.Reading.{none_read, reads_joined}
use Rattle.key_ranges.specs.declared.spans.KeySpan.{KeySpan}
use Rattle.key_ranges.specs.Spans.{is_in_spans}
use Rattle.table_rows.specs.Walked.{Walking, WalksOn}
use Rattle.table_rows.specs.Costs.{walk_cost}
use Rattle.table_rows.proofs.Fronts.{done_behind, ended_on, goes_behind, stopped_behind, walking_first}
use Rattle.table_rows.proofs.Loops.{here}
use Rattle.table_rows.proofs.MapReads.{ended}
use Rattle.table_rows.proofs.SpanWalks.{next_span, none_in_spans, same_span}
use Rattle.table_rows.proofs.walk.visit_spans.Goals as goal

pub loop-span-init : goal.loop-span-init
loop-span-init g c = record {
  preserved = g.M.Map.preserved_same c.args.records.now;
  reads = none_read (g.M.Map.state c.args.records.now) (g.met.M.Map.only_now c.args.records.now);
  works = refl;
  walked = λ s id. walking_first id c.args.columns.now (entries_where (is_in_spans c.args.spans.now) (g.M.Map.state c.args.records.now).map) (g.V.RowVisitor.after c.args.visitor.now id c.args.columns.now);
  cost = λ s. (0, g.M.Map.cost_none c.args.records.now, omega arith);
}

pub loop-span-preserved : goal.loop-span-preserved
loop-span-preserved g c = record {
  preserved = g.M.Map.preserved_joined c.args.records.now c.loop-span.records c.visit_rows.new.records c.loop-span.invariant.preserved c.in_ok-visit_rows.ensures.preserved;
  reads = reads_joined (g.M.Map.state c.args.records.now) (g.M.Map.state c.loop-span.records) (g.M.Map.state c.visit_rows.new.records) c.loop-span.invariant.reads c.in_ok-visit_rows.ensures.reads.only_reads;
  works = c.in_ok-visit_rows.ensures.reads.failed ∙ c.loop-span.invariant.works;
  walked = λ s id.
      let spans = c.args.spans.now in
      let i = c.loop-span.span-index in
      let one = c.span-item.result in
      let records = (g.M.Map.state c.args.records.now).map in
      let layout = c.args.columns.now in
      let same = (c.loop-span.invariant.reads.unchanged s).map in
      let old = g.V.RowVisitor.after c.args.visitor.now id layout in
      let now = g.V.RowVisitor.after c.loop-span.visitor id layout in
      let new = g.V.RowVisitor.after c.visit_rows.new.visitor id layout in
      let flow = c.in_ok-visit_rows.field-0 in
      let later = entries_where (is_in_spans (drop (i + 1) spans)) records in
      goes_behind id layout (entries_where (is_in_spans spans) records) (span one.start one.stop records) later old now new flow c.in-Continue.is
      (subst (λ (es : Records). Walking id layout (entries_where (is_in_spans spans) records) es old now) (next_span spans i one records (g.met.M.Map.ordered c.args.records.now s) c.requires c.span-item.is (omega arith)) (c.loop-span.invariant.walked s id))
      (subst (λ (es : Records). WalksOn id layout es now new (Ok flow)) (same_span _ _ one.start one.stop _ records c.as_slice-start.ensures c.as_slice-stop.ensures same) (c.in_ok-visit_rows.ensures.walked (c.loop-span.invariant.reads.history.sound s) id));
  cost = λ s.
      let spans = c.args.spans.now in
      let i = c.loop-span.span-index in
      let one = c.span-item.result in
      let records = (g.M.Map.state c.args.records.now).map in
      let same = (c.loop-span.invariant.reads.unchanged s).map in
      let spent = c.loop-span.invariant.cost s in
      let later = entries_where (is_in_spans (drop (i + 1) spans)) records in
      let more : g.M.Map.cost c.loop-span.records c.visit_rows.new.records (walk_cost 1 (span one.start one.stop records)) =
      subst (λ (es : Records). g.M.Map.cost c.loop-span.records c.visit_rows.new.records (walk_cost 1 es)) (same_span _ _ one.start one.stop _ records c.as_slice-start.ensures c.as_slice-stop.ensures same) (c.in_ok-visit_rows.ensures.cost (c.loop-span.invariant.reads.history.sound s)) in
      let joined = g.M.Map.cost_joined c.args.records.now c.loop-span.records c.visit_rows.new.records spent.0 (walk_cost 1 (span one.start one.stop records)) spent.1 more in
      let long = ap length (next_span spans i one records (g.met.M.Map.ordered c.args.records.now s) c.requires c.span-item.is (omega arith)) ∙ length-append (span one.start one.stop records) later in
      let others = ap length (here spans i one c.span-item.is (omega arith)) in
      (spent.0 + walk_cost 1 (span one.start one.stop records), joined, omega (arith, spent.2, long, others));
}

pub returns-in-Done-clause-preserved : goal.returns-in-Done-clause-preserved
returns-in-Done-clause-preserved g c = g.M.Map.preserved_joined c.args.records.now c.loop-span.records c.visit_rows.new.records c.loop-span.invariant.preserved c.in_ok-visit_rows.ensures.preserved

pub returns-in-Done-clause-walked : goal.returns-in-Done-clause-walked
returns-in-Done-clause-walked g c = λ s id.
    let spans = c.args.spans.now in
    let i = c.loop-span.span-index in
    let one = c.span-item.result in
    let records = (g.M.Map.state c.args.records.now).map in
    let layout = c.args.columns.now in
    let same = (c.loop-span.invariant.reads.unchanged s).map in
    let old = g.V.RowVisitor.after c.args.visitor.now id layout in
    let now = g.V.RowVisitor.after c.loop-span.visitor id layout in
    let new = g.V.RowVisitor.after c.visit_rows.new.visitor id layout in
    let flow = c.in_ok-visit_rows.field-0 in
    let later = entries_where (is_in_spans (drop (i + 1) spans)) records in
    done_behind id layout (entries_where (is_in_spans spans) records) (span one.start one.stop records) later old now new flow c.in-Done.is
    (subst (λ (es : Records). Walking id layout (entries_where (is_in_spans spans) records) es old now) (next_span spans i one records (g.met.M.Map.ordered c.args.records.now s) c.requires c.span-item.is (omega arith)) (c.loop-span.invariant.walked s id))
    (subst (λ (es : Records). WalksOn id layout es now new (Ok flow)) (same_span _ _ one.start one.stop _ records c.as_slice-start.ensures c.as_slice-stop.ensures same) (c.in_ok-visit_rows.ensures.walked (c.loop-span.invariant.reads.history.sound s) id))

pub returns-in_err-visit_rows-clause-preserved : goal.returns-in_err-visit_rows-clause-preserved
returns-in_err-visit_rows-clause-preserved g c = g.M.Map.preserved_joined c.args.records.now c.loop-span.records c.visit_rows.new.records c.loop-span.invariant.preserved c.in_err-visit_rows.ensures.preserved

pub returns-in_err-visit_rows-clause-walked : goal.returns-in_err-visit_rows-clause-walked
returns-in_err-visit_rows-clause-walked g c = λ s id.
    let spans = c.args.spans.now in
    let i = c.loop-span.span-index in
    let one = c.span-item.result in
    let records = (g.M.Map.state c.args.records.now).map in
    let layout = c.args.columns.now in
    let same = (c.loop-span.invariant.reads.unchanged s).map in
    let old = g.V.RowVisitor.after c.args.visitor.now id layout in
    let now = g.V.RowVisitor.after c.loop-span.visitor id layout in
    let new = g.V.RowVisitor.after c.visit_rows.new.visitor id layout in
    let failure = c.in_err-visit_rows.field-0.0 in
    let all = entries_where (is_in_spans spans) records in
    let later = entries_where (is_in_spans (drop (i + 1) spans)) records in
    ended failure (λ r. WalksOn id layout all old new r) c.from_residual.result c.from_residual.ensures.1
    (stopped_behind id layout failure all (span one.start one.stop records) later old now new
    (subst (λ (es : Records). Walking id layout all es old now) (next_span spans i one records (g.met.M.Map.ordered c.args.records.now s) c.requires c.span-item.is (omega arith)) (c.loop-span.invariant.walked s id))
    (subst (λ (es : Records). WalksOn id layout es now new (Err failure)) (same_span _ _ one.start one.stop _ records c.as_slice-start.ensures c.as_slice-stop.ensures same) (c.in_err-visit_rows.ensures.walked (c.loop-span.invariant.reads.history.sound s) id)))

pub returns-clause-walked : goal.returns-clause-walked
returns-clause-walked g c = λ s id.
    let records = (g.M.Map.state c.args.records.now).map in
    ended_on id c.args.columns.now (entries_where (is_in_spans c.args.spans.now) records) (entries_where (is_in_spans (drop c.loop-span.span-index c.args.spans.now)) records) _ _ (c.loop-span.invariant.walked s id)
    (ap (λ (l : List KeySpan). entries_where (is_in_spans l) records) (drop_all c.loop-span.span-index c.args.spans.now c.loop-span-test.false) ∙ none_in_spans records)

pub returns-in-Done-clause-cost : goal.returns-in-Done-clause-cost
returns-in-Done-clause-cost g c = λ s.
    let spans = c.args.spans.now in
    let i = c.loop-span.span-index in
    let one = c.span-item.result in
    let records = (g.M.Map.state c.args.records.now).map in
    let same = (c.loop-span.invariant.reads.unchanged s).map in
    let spent = c.loop-span.invariant.cost s in
    let later = entries_where (is_in_spans (drop (i + 1) spans)) records in
    let more : g.M.Map.cost c.loop-span.records c.visit_rows.new.records (walk_cost 1 (span one.start one.stop records)) =
    subst (λ (es : Records). g.M.Map.cost c.loop-span.records c.visit_rows.new.records (walk_cost 1 es)) (same_span _ _ one.start one.stop _ records c.as_slice-start.ensures c.as_slice-stop.ensures same) (c.in_ok-visit_rows.ensures.cost (c.loop-span.invariant.reads.history.sound s)) in
    let joined = g.M.Map.cost_joined c.args.records.now c.loop-span.records c.visit_rows.new.records spent.0 (walk_cost 1 (span one.start one.stop records)) spent.1 more in
    let long = ap length (next_span spans i one records (g.met.M.Map.ordered c.args.records.now s) c.requires c.span-item.is (omega arith)) ∙ length-append (span one.start one.stop records) later in
    let others = ap length (here spans i one c.span-item.is (omega arith)) in
    g.M.Map.cost_within c.args.records.now c.visit_rows.new.records _ _ (omega (arith, spent.2, long, others)) joined

pub returns-in_err-visit_rows-clause-cost : goal.returns-in_err-visit_rows-clause-cost
returns-in_err-visit_rows-clause-cost g c = λ s.
    let spans = c.args.spans.now in
    let i = c.loop-span.span-index in
    let one = c.span-item.result in
    let records = (g.M.Map.state c.args.records.now).map in
    let same = (c.loop-span.invariant.reads.unchanged s).map in
    let spent = c.loop-span.invariant.cost s in
    let later = entries_where (is_in_spans (drop (i + 1) spans)) records in
    let more : g.M.Map.cost c.loop-span.records c.visit_rows.new.records (walk_cost 1 (span one.start one.stop records)) =
    subst (λ (es : Records). g.M.Map.cost c.loop-span.records c.visit_rows.new.records (walk_cost 1 es)) (same_span _ _ one.start one.stop _ records c.as_slice-start.ensures c.as_slice-stop.ensures same) (c.in_err-visit_rows.ensures.cost (c.loop-span.invariant.reads.history.sound s)) in
    let joined = g.M.Map.cost_joined c.args.records.now c.loop-span.records c.visit_rows.new.records spent.0 (walk_cost 1 (span one.start one.stop records)) spent.1 more in
    let long = ap length (next_span spans i one records (g.met.M.Map.ordered c.args.records.now s) c.requires c.span-item.is (omega arith)) ∙ length-append (span one.start one.stop records) later in
    let others = ap length (here spans i one c.span-item.is (omega arith)) in
    g.M.Map.cost_within c.args.records.now c.visit_rows.new.records _ _ (omega (arith, spent.2, long, others)) joined

pub returns-clause-cost : goal.returns-clause-cost
returns-clause-cost g c = λ s.
    let spent = c.loop-span.invariant.cost s in
    g.M.Map.cost_within c.args.records.now c.loop-span.records spent.0 _ (omega (arith, spent.2)) spent.1
