use Rattle.std.proofs.Common.{◌∙◌, IfErr, Err, ap}
use Rattle.store.specs.Walks.{span}
use Rattle.key_ranges.specs.declared.range.KeyRange.TheVariants.{Span}
use Rattle.table_rows.specs.Walked.{WalksOn}
use Rattle.table_rows.proofs.MapReads.{ended}
use Rattle.table_rows.proofs.Parts.{all_part, before_part, done_part}
use Rattle.table_rows.proofs.part.visit_first_of_span.Goals as goal

pub returns-in-All-clause-part : goal.returns-in-All-clause-part
returns-in-All-clause-part g c = λ s early id.
    all_part id c.args.columns.now (g.M.Map.state c.args.records.now).map c.args.start.now c.args.stop.now _ _ g.V.RowVisitor.ends_early c.in_ok-visit_first_rows.field-0 _ c.in-All.is (c.in_ok-visit_first_rows.ensures.part s id)

pub returns-in-Done-clause-part : goal.returns-in-Done-clause-part
returns-in-Done-clause-part g c = λ s early id.
    done_part id c.args.columns.now (g.M.Map.state c.args.records.now).map c.args.start.now c.args.stop.now _ _ _ g.V.RowVisitor.ends_early c.in_ok-visit_first_rows.field-0 _ early c.in-Done.is (c.in_ok-visit_first_rows.ensures.part s id)

pub returns-in_ok-from_slice-in-Before-clause-part : goal.returns-in_ok-from_slice-in-Before-clause-part
returns-in_ok-from_slice-in-Before-clause-part g c = λ s early id.
    before_part id c.args.columns.now (g.M.Map.state c.args.records.now).map c.args.start.now c.args.stop.now _ _ g.V.RowVisitor.ends_early c.in_ok-visit_first_rows.field-0 c.in-Before.start _ c.in-Before.is
    (ap (λ stop. Span c.in-Before.start stop) (c.from_vec-stop.ensures ∙ c.in_ok-from_slice-in-Before.ensures.items)) (c.in_ok-visit_first_rows.ensures.part s id)

pub returns-in_err-visit_first_rows-clause-fails : goal.returns-in_err-visit_first_rows-clause-fails
returns-in_err-visit_first_rows-clause-fails g c = λ s id.
    let old = g.V.RowVisitor.after c.args.visitor.now id c.args.columns.now in
    let new = g.V.RowVisitor.after c.visit_first_rows.new.visitor id c.args.columns.now in
    let found = span c.args.start.now c.args.stop.now (g.M.Map.state c.args.records.now).map in
    ended c.in_err-visit_first_rows.field-0.0 (λ r. IfErr r (λ f. WalksOn id c.args.columns.now found old new (Err f))) c.from_residual.result c.from_residual.ensures.1
    (c.in_err-visit_first_rows.ensures.fails s id)
