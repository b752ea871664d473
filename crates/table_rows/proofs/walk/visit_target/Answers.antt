use Rattle.table_rows.specs.Ranged.{records_of}
use Rattle.table_rows.specs.Visits.{VisitsAll}
use Rattle.table_rows.specs.Walked.{Walks}
use Rattle.table_rows.proofs.Fronts.{failed_of, spelled_of, stopped_of, visited_of, walked_of}
use Rattle.table_rows.proofs.MapReads.{ended}
use Rattle.table_rows.proofs.walk.visit_target.Goals as goal

pub returns-clause-visits : goal.returns-clause-visits
returns-clause-visits g c = λ s rows h.
    visited_of c.args.target.now.id c.args.target.now.columns.now c.in_ok-visit_found.field-0 (records_of c.args.target.now (g.M.Map.state c.args.records.now).map) _ _ rows h (c.in_ok-visit_found.ensures.walked s)

pub returns-clause-walked : goal.returns-clause-walked
returns-clause-walked g c = λ s.
    walked_of c.args.target.now.id c.args.target.now.columns.now c.in_ok-visit_found.field-0 (records_of c.args.target.now (g.M.Map.state c.args.records.now).map) _ _ (c.in_ok-visit_found.ensures.walked s)

pub returns-clause-spelled : goal.returns-clause-spelled
returns-clause-spelled g c = λ s early.
    spelled_of c.args.target.now.id c.args.target.now.columns.now c.in_ok-visit_found.field-0 g.V.RowVisitor.ends_early (records_of c.args.target.now (g.M.Map.state c.args.records.now).map) _ _ early c.in_ok-visit_found.ensures.ends (c.in_ok-visit_found.ensures.walked s)

pub returns-in_err-visit_found-clause-visits : goal.returns-in_err-visit_found-clause-visits
returns-in_err-visit_found-clause-visits g c = λ s rows h.
    let target = c.args.target.now in
    let old = g.V.RowVisitor.after c.args.visitor.now target.id target.columns.now in
    let new = g.V.RowVisitor.after c.visit_found.new.visitor target.id target.columns.now in
    let failure = c.in_err-visit_found.field-0.0 in
    ended failure (λ r. VisitsAll r rows old new) c.from_residual.result c.from_residual.ensures.1
    (failed_of target.id target.columns.now failure (records_of target (g.M.Map.state c.args.records.now).map) old new rows h (c.in_err-visit_found.ensures.walked s))

pub returns-in_err-visit_found-clause-walked : goal.returns-in_err-visit_found-clause-walked
returns-in_err-visit_found-clause-walked g c = λ s.
    let target = c.args.target.now in
    let old = g.V.RowVisitor.after c.args.visitor.now target.id target.columns.now in
    let new = g.V.RowVisitor.after c.visit_found.new.visitor target.id target.columns.now in
    let failure = c.in_err-visit_found.field-0.0 in
    let found = records_of target (g.M.Map.state c.args.records.now).map in
    ended failure (λ r. Walks target.id target.columns.now found old new r) c.from_residual.result c.from_residual.ensures.1
    (stopped_of target.id target.columns.now failure found old new (c.in_err-visit_found.ensures.walked s))
