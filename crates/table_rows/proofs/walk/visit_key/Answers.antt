use Rattle.std.proofs.Common.{subst}
use Rattle.store.specs.Records.{Record, entry_at}
use Rattle.table_rows.specs.Visits.{VisitsRecord, SpellsVisited}
use Rattle.table_rows.proofs.Fronts.{none_on, any_on}
use Rattle.table_rows.proofs.Keyed.{nothing_here, entry_here, record_is}
use Rattle.table_rows.proofs.walk.visit_key.Goals as goal

pub returns-then-not-branch-clause-walked : goal.returns-then-not-branch-clause-walked
returns-then-not-branch-clause-walked g c = λ s id.
    none_on id c.args.columns.now _ (g.V.RowVisitor.after c.args.visitor.now id c.args.columns.now)
    (nothing_here c.in_ok-get.field-0 c.get.new.out (entry_at c.args.key.now (g.M.Map.state c.args.records.now).map) c.if-not-branch.true (c.in_ok-get.ensures.reads.found s))

pub returns-clause-walked : goal.returns-clause-walked
returns-clause-walked g c = λ s id.
    let layout = c.args.columns.now in
    let old = g.V.RowVisitor.after c.args.visitor.now id layout in
    let new = g.V.RowVisitor.after c.visit_record.new.visitor id layout in
    let here = entry_here c.in_ok-get.field-0 c.get.new.out (entry_at c.args.key.now (g.M.Map.state c.args.records.now).map) c.if-not-branch.false (c.in_ok-get.ensures.reads.found s) in
    let entry = record_is c.key-key.result.now c.value-value.result.now c.get.new.out c.key-key.ensures c.value-value.ensures in
    any_on id layout c.visit_record.result c.get.new.out _ old new here (subst (λ (e : Record). SpellsVisited layout e c.visit_record.result) entry c.visit_record.ensures.spelled)
    (subst (λ (e : Record). VisitsRecord id layout e c.visit_record.result old new) entry (c.visit_record.ensures.visits id))
