use Rattle.std.proofs.Common.{◌≡◌, ◌∙◌, ℕ, IfErr, Ok, Err, option_to_list, rules, sym, subst}
use Rattle.store.specs.Records.{Records, entries_where, entry_at}
use Rattle.store.specs.Walks.{span}
use Rattle.key_ranges.specs.Spans.{is_in_spans}
use Rattle.table_rows.specs.HeldRows.{AreRecordsOf}
use Rattle.table_rows.specs.Parts.{WalksPart}
use Rattle.table_rows.specs.Ranged.{records_of}
use Rattle.table_rows.specs.Visits.{VisitsAll}
use Rattle.table_rows.specs.Walked.{WalksOn}
use Rattle.table_rows.proofs.Fronts.{failed_of}
use Rattle.table_rows.proofs.MapReads.{ended}
use Rattle.table_rows.proofs.Parts.{failing, part_flow, said}
use Rattle.table_rows.proofs.Ranging.{whole_span}
use Rattle.table_rows.proofs.part.visit_part.Goals as goal

pub returns-in_ok-prefix-in-None-clause-part : goal.returns-in_ok-prefix-in-None-clause-part
returns-in_ok-prefix-in-None-clause-part g c = λ s early.
    let target = c.args.target.now in
    let map = (g.M.Map.state c.args.records.now).map in
    let old = g.V.RowVisitor.after c.args.visitor.now target.id target.columns.now in
    let new = g.V.RowVisitor.after c.visit_first_of_span.new.visitor target.id target.columns.now in
    let all_is = whole_span target.id target.range c.as_slice-all.result.now map c.in-None.is (c.as_slice-all.ensures.value ∙ c.in_ok-prefix-in-None.ensures) in
    said c.visit_first_of_span.result (λ left. (id : ℕ) → WalksPart id target.columns.now map (span c.as_slice-all.result.now c.as_slice-all.result.now map) (g.V.RowVisitor.after c.args.visitor.now id target.columns.now) (g.V.RowVisitor.after c.visit_first_of_span.new.visitor id target.columns.now) left)
    (λ left. WalksPart target.id target.columns.now map (records_of target map) old new left)
    (λ left part. subst (λ (es : Records). WalksPart target.id target.columns.now map es old new left) all_is (part target.id)) (c.visit_first_of_span.ensures.part s early)

pub returns-in_ok-prefix-in-None-clause-fails : goal.returns-in_ok-prefix-in-None-clause-fails
returns-in_ok-prefix-in-None-clause-fails g c = λ s rows h.
    let target = c.args.target.now in
    let map = (g.M.Map.state c.args.records.now).map in
    let old = g.V.RowVisitor.after c.args.visitor.now target.id target.columns.now in
    let new = g.V.RowVisitor.after c.visit_first_of_span.new.visitor target.id target.columns.now in
    let all_is = whole_span target.id target.range c.as_slice-all.result.now map c.in-None.is (c.as_slice-all.ensures.value ∙ c.in_ok-prefix-in-None.ensures) in
    failing c.visit_first_of_span.result (λ failure. WalksOn target.id target.columns.now (span c.as_slice-all.result.now c.as_slice-all.result.now map) old new (Err failure)) (λ failure. VisitsAll (Err failure) rows old new)
    (λ failure walks. failed_of target.id target.columns.now failure (span c.as_slice-all.result.now c.as_slice-all.result.now map) old new rows (subst (λ (es : Records). AreRecordsOf target.id target.columns.now rows es) (sym all_is) h) walks) (c.visit_first_of_span.ensures.fails s target.id)

pub returns-in-Some-Span-clause-part : goal.returns-in-Some-Span-clause-part
returns-in-Some-Span-clause-part g c = λ s early.
    let target = c.args.target.now in
    let map = (g.M.Map.state c.args.records.now).map in
    let old = g.V.RowVisitor.after c.args.visitor.now target.id target.columns.now in
    let new = g.V.RowVisitor.after c.visit_first_of_span-in-Some-Span.new.visitor target.id target.columns.now in
    let all_is : span c.as_slice-start.result.now c.as_slice-stop.result.now map ≡ records_of target map = search rules in
    said c.visit_first_of_span-in-Some-Span.result (λ left. (id : ℕ) → WalksPart id target.columns.now map (span c.as_slice-start.result.now c.as_slice-stop.result.now map) (g.V.RowVisitor.after c.args.visitor.now id target.columns.now) (g.V.RowVisitor.after c.visit_first_of_span-in-Some-Span.new.visitor id target.columns.now) left)
    (λ left. WalksPart target.id target.columns.now map (records_of target map) old new left)
    (λ left part. subst (λ (es : Records). WalksPart target.id target.columns.now map es old new left) all_is (part target.id)) (c.visit_first_of_span-in-Some-Span.ensures.part s early)

pub returns-in-Some-Span-clause-fails : goal.returns-in-Some-Span-clause-fails
returns-in-Some-Span-clause-fails g c = λ s rows h.
    let target = c.args.target.now in
    let map = (g.M.Map.state c.args.records.now).map in
    let old = g.V.RowVisitor.after c.args.visitor.now target.id target.columns.now in
    let new = g.V.RowVisitor.after c.visit_first_of_span-in-Some-Span.new.visitor target.id target.columns.now in
    let all_is : span c.as_slice-start.result.now c.as_slice-stop.result.now map ≡ records_of target map = search rules in
    failing c.visit_first_of_span-in-Some-Span.result (λ failure. WalksOn target.id target.columns.now (span c.as_slice-start.result.now c.as_slice-stop.result.now map) old new (Err failure)) (λ failure. VisitsAll (Err failure) rows old new)
    (λ failure walks. failed_of target.id target.columns.now failure (span c.as_slice-start.result.now c.as_slice-stop.result.now map) old new rows (subst (λ (es : Records). AreRecordsOf target.id target.columns.now rows es) (sym all_is) h) walks) (c.visit_first_of_span-in-Some-Span.ensures.fails s target.id)

pub returns-in-Some-Several-clause-part : goal.returns-in-Some-Several-clause-part
returns-in-Some-Several-clause-part g c = λ s early.
    let target = c.args.target.now in
    let map = (g.M.Map.state c.args.records.now).map in
    let old = g.V.RowVisitor.after c.args.visitor.now target.id target.columns.now in
    let new = g.V.RowVisitor.after c.visit_first_of_spans.new.visitor target.id target.columns.now in
    let all_is : entries_where (is_in_spans c.in-Some-Several.spans.spans) map ≡ records_of target map = search rules in
    said c.visit_first_of_spans.result (λ left. (id : ℕ) → WalksPart id target.columns.now map (entries_where (is_in_spans c.in-Some-Several.spans.spans) map) (g.V.RowVisitor.after c.args.visitor.now id target.columns.now) (g.V.RowVisitor.after c.visit_first_of_spans.new.visitor id target.columns.now) left)
    (λ left. WalksPart target.id target.columns.now map (records_of target map) old new left)
    (λ left part. subst (λ (es : Records). WalksPart target.id target.columns.now map es old new left) all_is (part target.id)) (c.visit_first_of_spans.ensures.part s early)

pub returns-in-Some-Several-clause-fails : goal.returns-in-Some-Several-clause-fails
returns-in-Some-Several-clause-fails g c = λ s rows h.
    let target = c.args.target.now in
    let map = (g.M.Map.state c.args.records.now).map in
    let old = g.V.RowVisitor.after c.args.visitor.now target.id target.columns.now in
    let new = g.V.RowVisitor.after c.visit_first_of_spans.new.visitor target.id target.columns.now in
    let all_is : entries_where (is_in_spans c.in-Some-Several.spans.spans) map ≡ records_of target map = search rules in
    failing c.visit_first_of_spans.result (λ failure. WalksOn target.id target.columns.now (entries_where (is_in_spans c.in-Some-Several.spans.spans) map) old new (Err failure)) (λ failure. VisitsAll (Err failure) rows old new)
    (λ failure walks. failed_of target.id target.columns.now failure (entries_where (is_in_spans c.in-Some-Several.spans.spans) map) old new rows (subst (λ (es : Records). AreRecordsOf target.id target.columns.now rows es) (sym all_is) h) walks) (c.visit_first_of_spans.ensures.fails s target.id)

pub returns-in_ok-visit_key-in-Some-Point-clause-part : goal.returns-in_ok-visit_key-in-Some-Point-clause-part
returns-in_ok-visit_key-in-Some-Point-clause-part g c = λ s early.
    let target = c.args.target.now in
    let map = (g.M.Map.state c.args.records.now).map in
    let old = g.V.RowVisitor.after c.args.visitor.now target.id target.columns.now in
    let new = g.V.RowVisitor.after c.visit_key.new.visitor target.id target.columns.now in
    let all_is : option_to_list (entry_at c.as_slice.result.now map) ≡ records_of target map = search rules in
    part_flow target.id target.columns.now map g.V.RowVisitor.ends_early c.in_ok-visit_key-in-Some-Point.field-0 (records_of target map) old new early c.in_ok-visit_key-in-Some-Point.ensures.ends
    (subst (λ (es : Records). WalksOn target.id target.columns.now es old new (Ok c.in_ok-visit_key-in-Some-Point.field-0)) all_is (c.in_ok-visit_key-in-Some-Point.ensures.walked s target.id))

pub returns-in_err-visit_key-in-Some-Point-clause-fails : goal.returns-in_err-visit_key-in-Some-Point-clause-fails
returns-in_err-visit_key-in-Some-Point-clause-fails g c = λ s rows h.
    let target = c.args.target.now in
    let map = (g.M.Map.state c.args.records.now).map in
    let old = g.V.RowVisitor.after c.args.visitor.now target.id target.columns.now in
    let new = g.V.RowVisitor.after c.visit_key.new.visitor target.id target.columns.now in
    let all_is : option_to_list (entry_at c.as_slice.result.now map) ≡ records_of target map = search rules in
    let failure = c.in_err-visit_key-in-Some-Point.field-0.0 in
    ended failure (λ r. IfErr r (λ f. VisitsAll (Err f) rows old new)) c.from_residual-in_err-visit_key-in-Some-Point.result c.from_residual-in_err-visit_key-in-Some-Point.ensures.1
    (failed_of target.id target.columns.now failure (records_of target map) old new rows h
    (subst (λ (es : Records). WalksOn target.id target.columns.now es old new (Err failure)) all_is (c.in_err-visit_key-in-Some-Point.ensures.walked s target.id)))
