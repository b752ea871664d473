use Rattle.std.proofs.Common.{◌∙◌, ◌+◌, List, IfErr, Some, None, Err, arith, drop, refl, ap, subst, sym}
use Rattle.std.proofs.lemmas.List.{drop_all}
use Rattle.store.specs.Records.{Records, entries_where}
use Rattle.store.specs.Walks.{span}
use Rattle.store.proofs.Reading.{none_read, reads_joined}
use Rattle.key_ranges.specs.declared.range.KeyRange.TheVariants.{Several}
use Rattle.key_ranges.specs.declared.spans.KeySpan.{KeySpan}
use Rattle.key_ranges.specs.Spans.{begun_at, is_in_spans, AreSpansInOrder}
use Rattle.table_rows.specs.Parts.{WalksPart}
use Rattle.table_rows.specs.Walked.{Walking, WalksOn}
use Rattle.table_rows.proofs.Fronts.{ended_on, stopped_behind, walking_first}
use Rattle.table_rows.proofs.MapReads.{ended}
use Rattle.table_rows.proofs.Parts.{done_part, part_all, same_walk, several_on, several_part}
use Rattle.table_rows.proofs.SpanWalks.{next_span, none_in_spans, same_span}
use Rattle.table_rows.proofs.part.visit_first_of_spans.Goals as goal

pub loop-index-init : goal.loop-index-init
loop-index-init g c = record {
  preserved = g.M.Map.preserved_same c.args.records.now;
  reads = none_read (g.M.Map.state c.args.records.now) (g.met.M.Map.only_now c.args.records.now);
  works = refl;
  walked = λ s id. walking_first id c.args.columns.now (entries_where (is_in_spans c.as_slice-all.result.now) (g.M.Map.state c.args.records.now).map) (g.V.RowVisitor.after c.args.visitor.now id c.args.columns.now);
}

pub loop-index-preserved : goal.loop-index-preserved
loop-index-preserved g c = record {
  preserved = g.M.Map.preserved_joined c.args.records.now c.loop-index.records c.visit_first_rows.new.records c.loop-index.invariant.preserved c.in_ok-others.ensures.preserved;
  reads = reads_joined (g.M.Map.state c.args.records.now) (g.M.Map.state c.loop-index.records) (g.M.Map.state c.visit_first_rows.new.records) c.loop-index.invariant.reads c.in_ok-others.ensures.reads.only_reads;
  works = c.in_ok-others.ensures.reads.failed ∙ c.loop-index.invariant.works;
  walked = λ s id.
      let all = c.as_slice-all.result.now in
      let i = c.loop-index.index in
      let one = c.index-all-index.result in
      let records = (g.M.Map.state c.args.records.now).map in
      let layout = c.args.columns.now in
      let same = (c.loop-index.invariant.reads.unchanged s).map in
      let ordered = g.met.M.Map.ordered c.args.records.now s in
      let order = subst AreSpansInOrder (sym c.as_slice-all.ensures.spans) c.as_slice-all.ensures.inside.in_order in
      let old = g.V.RowVisitor.after c.args.visitor.now id layout in
      let now = g.V.RowVisitor.after c.loop-index.visitor id layout in
      let new = g.V.RowVisitor.after c.visit_first_rows.new.visitor id layout in
      let visited = c.in_ok-others.field-0 in
      let walks = same_walk id layout _ _ one.start one.stop _ records now new g.V.RowVisitor.ends_early visited c.as_slice-start.ensures c.as_slice-stop.ensures same (c.in_ok-others.ensures.part (c.loop-index.invariant.reads.history.sound s) id) in
      several_on id layout records all i one old now new g.V.RowVisitor.ends_early visited _ ordered order c.index-all-index.is (omega arith) (c.loop-index.invariant.walked s id) c.in-All.is walks;
}

pub returns-in-Before-clause-part : goal.returns-in-Before-clause-part
returns-in-Before-clause-part g c = λ s early id.
    let all = c.as_slice-all.result.now in
    let i = c.loop-index.index in
    let one = c.index-all-index.result in
    let records = (g.M.Map.state c.args.records.now).map in
    let layout = c.args.columns.now in
    let same = (c.loop-index.invariant.reads.unchanged s).map in
    let ordered = g.met.M.Map.ordered c.args.records.now s in
    let order = subst AreSpansInOrder (sym c.as_slice-all.ensures.spans) c.as_slice-all.ensures.inside.in_order in
    let old = g.V.RowVisitor.after c.args.visitor.now id layout in
    let now = g.V.RowVisitor.after c.loop-index.visitor id layout in
    let new = g.V.RowVisitor.after c.visit_first_rows.new.visitor id layout in
    let visited = c.in_ok-others.field-0 in
    let walks = same_walk id layout _ _ one.start one.stop _ records now new g.V.RowVisitor.ends_early visited c.as_slice-start.ensures c.as_slice-stop.ensures same (c.in_ok-others.ensures.part (c.loop-index.invariant.reads.history.sound s) id) in
    subst (λ (l : List KeySpan). WalksPart id layout records (entries_where (is_in_spans l) records) old new (Some (Several c.in_ok-left-in-Before.left))) c.as_slice-all.ensures.spans
    (several_part id layout records all i one old now new g.V.RowVisitor.ends_early visited c.in-Before.from c.in_ok-left-in-Before.left (Several c.in_ok-left-in-Before.left) ordered order c.index-all-index.is (omega arith) (c.loop-index.invariant.walked s id) c.in-Before.is walks
    c.in_ok-left-in-Before.ensures.inside (c.in_ok-left-in-Before.ensures.spans ∙ ap (λ (l : List KeySpan). begun_at c.in-Before.from (drop i l)) (sym c.as_slice-all.ensures.spans)) refl)

pub returns-in-Done-clause-part : goal.returns-in-Done-clause-part
returns-in-Done-clause-part g c = λ s early id.
    done_part id c.args.columns.now (g.M.Map.state c.args.records.now).map c.index-all-index.result.start c.index-all-index.result.stop _ _ _ g.V.RowVisitor.ends_early c.in_ok-others.field-0 _ early c.in-Done.is
    (same_walk id c.args.columns.now _ _ c.index-all-index.result.start c.index-all-index.result.stop _ _ _ _ g.V.RowVisitor.ends_early c.in_ok-others.field-0 c.as_slice-start.ensures c.as_slice-stop.ensures (c.loop-index.invariant.reads.unchanged s).map (c.in_ok-others.ensures.part (c.loop-index.invariant.reads.history.sound s) id))

pub returns-in_err-others-clause-fails : goal.returns-in_err-others-clause-fails
returns-in_err-others-clause-fails g c = λ s id.
    let all = c.as_slice-all.result.now in
    let i = c.loop-index.index in
    let one = c.index-all-index.result in
    let records = (g.M.Map.state c.args.records.now).map in
    let layout = c.args.columns.now in
    let same = (c.loop-index.invariant.reads.unchanged s).map in
    let ordered = g.met.M.Map.ordered c.args.records.now s in
    let order = subst AreSpansInOrder (sym c.as_slice-all.ensures.spans) c.as_slice-all.ensures.inside.in_order in
    let old = g.V.RowVisitor.after c.args.visitor.now id layout in
    let now = g.V.RowVisitor.after c.loop-index.visitor id layout in
    let new = g.V.RowVisitor.after c.visit_first_rows.new.visitor id layout in
    let failure = c.in_err-others.field-0.0 in
    let later = entries_where (is_in_spans (drop (i + 1) all)) records in
    subst (λ (l : List KeySpan). IfErr c.from_residual.result (λ f. WalksOn id layout (entries_where (is_in_spans l) records) old new (Err f))) c.as_slice-all.ensures.spans
    (ended failure (λ r. IfErr r (λ f. WalksOn id layout (entries_where (is_in_spans all) records) old new (Err f))) c.from_residual.result c.from_residual.ensures.1
    (stopped_behind id layout failure (entries_where (is_in_spans all) records) (span one.start one.stop records) later old now new
    (subst (λ (es : Records). Walking id layout (entries_where (is_in_spans all) records) es old now) (next_span all i one records ordered order c.index-all-index.is (omega arith)) (c.loop-index.invariant.walked s id))
    (subst (λ (es : Records). WalksOn id layout es now new (Err failure)) (same_span _ _ one.start one.stop _ records c.as_slice-start.ensures c.as_slice-stop.ensures same) (c.in_err-others.ensures.fails (c.loop-index.invariant.reads.history.sound s) id))))

pub returns-clause-part : goal.returns-clause-part
returns-clause-part g c = λ s early id.
    let all = c.as_slice-all.result.now in
    let records = (g.M.Map.state c.args.records.now).map in
    subst (λ (l : List KeySpan). WalksPart id c.args.columns.now records (entries_where (is_in_spans l) records) (g.V.RowVisitor.after c.args.visitor.now id c.args.columns.now) (g.V.RowVisitor.after c.loop-index.visitor id c.args.columns.now) None) c.as_slice-all.ensures.spans
    (part_all id c.args.columns.now records (entries_where (is_in_spans all) records) _ _
    (ended_on id c.args.columns.now (entries_where (is_in_spans all) records) (entries_where (is_in_spans (drop c.loop-index.index all)) records) _ _ (c.loop-index.invariant.walked s id)
    (ap (λ (l : List KeySpan). entries_where (is_in_spans l) records) (drop_all c.loop-index.index all c.loop-index-test.false) ∙ none_in_spans records)))
