use Rattle.std.proofs.Common.{◌∙◌, ◌++◌, ◌∷◌, [], ℕ, IfErr, Ok, Err, ap, subst}
use Rattle.store.specs.Records.{Record, entries_where, is_from}
use Rattle.store.specs.Walks.{span}
use Rattle.store.proofs.Changes.{ordered_entries_where}
use Rattle.store.proofs.Reading.{reads_joined}
use Rattle.table_rows.specs.HeldRows.{SpellsRow}
use Rattle.table_rows.specs.Visits.{VisitsRecord, SpellsVisited}
use Rattle.table_rows.specs.Walked.{WalksOn}
use Rattle.table_rows.proofs.Fronts.{taken, none_taken, walking_first, walking_on, visited_on, ended_on, failed_on, done_only}
use Rattle.table_rows.proofs.Parts.{before_on}
use Rattle.table_rows.proofs.MapReads.{ended}
use Rattle.table_rows.proofs.part.visit_first_rows.Goals as goal

pub loop-visited-init : goal.loop-visited-init
loop-visited-init g c =
    let goes = c.in_ok-place.ensures.goes in
    let records = (g.M.Map.state c.args.records.now).map in
    let from = is_from c.args.start.now in
    record {
      preserved = c.in_ok-place.ensures.preserved;
      reads = goes.only_reads;
      works = goes.failed;
      remains = λ s. (span c.args.start.now c.args.stop.now records, g.met.M.Map.ahead_cut _ c.args.stop.now _ (entries_where from records) (ordered_entries_where from records (g.met.M.Map.ordered c.args.records.now s)) (goes.answer s), λ id. walking_first id c.args.columns.now (span c.args.start.now c.args.stop.now records) (g.V.RowVisitor.after c.args.visitor.now id c.args.columns.now));
    }

pub returns-in_err-step_within-clause-preserved : goal.returns-in_err-step_within-clause-preserved
returns-in_err-step_within-clause-preserved g c = g.M.Map.preserved_joined c.args.records.now c.loop-visited.records c.step_within.new.self c.loop-visited.invariant.preserved c.in_err-step_within.ensures.preserved

pub returns-then-not-branch-clause-preserved : goal.returns-then-not-branch-clause-preserved
returns-then-not-branch-clause-preserved g c = g.M.Map.preserved_joined c.args.records.now c.loop-visited.records c.step_within.new.self c.loop-visited.invariant.preserved c.in_ok-step_within.ensures.preserved

pub returns-in_err-visit_record-clause-preserved : goal.returns-in_err-visit_record-clause-preserved
returns-in_err-visit_record-clause-preserved g c = g.M.Map.preserved_joined c.args.records.now c.loop-visited.records c.step_within.new.self c.loop-visited.invariant.preserved c.in_ok-step_within.ensures.preserved

pub returns-in-Done-clause-preserved : goal.returns-in-Done-clause-preserved
returns-in-Done-clause-preserved g c = g.M.Map.preserved_joined c.args.records.now c.loop-visited.records c.step_within.new.self c.loop-visited.invariant.preserved c.in_ok-step_within.ensures.preserved

pub loop-visited-preserved : goal.loop-visited-preserved
loop-visited-preserved g c = record {
  preserved = g.M.Map.preserved_joined c.args.records.now c.loop-visited.records c.step_within.new.self c.loop-visited.invariant.preserved c.in_ok-step_within.ensures.preserved;
  reads = reads_joined (g.M.Map.state c.args.records.now) (g.M.Map.state c.loop-visited.records) (g.M.Map.state c.step_within.new.self) c.loop-visited.invariant.reads c.in_ok-step_within.ensures.goes.only_reads;
  works = c.in_ok-step_within.ensures.goes.failed ∙ c.loop-visited.invariant.works;
  remains = λ s.
      let left = c.loop-visited.invariant.remains s in
      let took = taken _ _ c.in_ok-step_within.field-0 left.0 c.if-not-branch.false (c.in_ok-step_within.ensures.goes.answer (c.loop-visited.invariant.reads.history.sound s) left.0 left.1) in
      let now = λ (id : ℕ). g.V.RowVisitor.after c.loop-visited.visitor id c.args.columns.now in
      let then = λ (id : ℕ). g.V.RowVisitor.after c.visit_record.new.visitor id c.args.columns.now in
      let flow = c.in_ok-visit_record.field-0 in (
        took.1,
        took.4,
        λ id. walking_on id c.args.columns.now _ left.0 took.1 took.0 _ (now id) (then id) (left.2 id) took.2
            (subst (SpellsRow c.args.columns.now) (c.entry-entry.ensures took.0 took.3) c.in_ok-visit_record.ensures.spelled)
            (visited_on id c.args.columns.now flow took.0 (now id) (then id) c.in-Continue.is
            (subst (λ (e : Record). VisitsRecord id c.args.columns.now e (Ok flow) (now id) (then id)) (c.entry-entry.ensures took.0 took.3) (c.in_ok-visit_record.ensures.visits id))),
      );
}

pub returns-then-not-branch-clause-part : goal.returns-then-not-branch-clause-part
returns-then-not-branch-clause-part g c = λ s id.
    let left = c.loop-visited.invariant.remains s in
    ended_on id c.args.columns.now _ left.0 _ _ (left.2 id) (none_taken _ _ c.in_ok-step_within.field-0 left.0 c.if-not-branch.true (c.in_ok-step_within.ensures.goes.answer (c.loop-visited.invariant.reads.history.sound s) left.0 left.1))

pub returns-in_err-visit_record-clause-fails : goal.returns-in_err-visit_record-clause-fails
returns-in_err-visit_record-clause-fails g c = λ s id.
    let left = c.loop-visited.invariant.remains s in
    let took = taken _ _ c.in_ok-step_within.field-0 left.0 c.if-not-branch.false (c.in_ok-step_within.ensures.goes.answer (c.loop-visited.invariant.reads.history.sound s) left.0 left.1) in
    let old = g.V.RowVisitor.after c.args.visitor.now id c.args.columns.now in
    let now = g.V.RowVisitor.after c.loop-visited.visitor id c.args.columns.now in
    let last = g.V.RowVisitor.after c.visit_record.new.visitor id c.args.columns.now in
    let found = span c.args.start.now c.args.stop.now (g.M.Map.state c.args.records.now).map in
    let failure = c.in_err-visit_record.field-0.0 in
    ended failure (λ r. IfErr r (λ f. WalksOn id c.args.columns.now found old last (Err f))) c.from_residual-in_err-visit_record.result c.from_residual-in_err-visit_record.ensures.1
    (failed_on id c.args.columns.now found left.0 took.1 took.0 old now last failure (left.2 id) took.2
    (subst (λ (e : Record). SpellsVisited c.args.columns.now e (Err failure)) (c.entry-entry.ensures took.0 took.3) c.in_err-visit_record.ensures.spelled)
    (subst (λ (e : Record). VisitsRecord id c.args.columns.now e (Err failure) now last) (c.entry-entry.ensures took.0 took.3) (c.in_err-visit_record.ensures.visits id)))

pub returns-then-visited-most-clause-preserved : goal.returns-then-visited-most-clause-preserved
returns-then-visited-most-clause-preserved g c = g.M.Map.preserved_joined c.args.records.now c.loop-visited.records c.step_within.new.self c.loop-visited.invariant.preserved c.in_ok-step_within.ensures.preserved

pub returns-in-Done-clause-part : goal.returns-in-Done-clause-part
returns-in-Done-clause-part g c = λ s id. done_only g.V.RowVisitor.ends_early c.in_ok-visit_record.field-0 c.in-Done.is c.in_ok-visit_record.ensures.ends

pub returns-then-visited-most-clause-part : goal.returns-then-visited-most-clause-part
returns-then-visited-most-clause-part g c = λ s id.
    let left = c.loop-visited.invariant.remains s in
    let took = taken _ _ c.in_ok-step_within.field-0 left.0 c.if-not-branch.false (c.in_ok-step_within.ensures.goes.answer (c.loop-visited.invariant.reads.history.sound s) left.0 left.1) in
    let now = g.V.RowVisitor.after c.loop-visited.visitor id c.args.columns.now in
    let then = g.V.RowVisitor.after c.visit_record.new.visitor id c.args.columns.now in
    let flow = c.in_ok-visit_record.field-0 in
    before_on id c.args.columns.now _ c.args.start.now c.args.stop.now left.0 took.1 took.0 _ now then flow _ (g.met.M.Map.ordered c.args.records.now s) (left.2 id) took.2 c.in-Continue.is
    (subst (SpellsRow c.args.columns.now) (c.entry-entry.ensures took.0 took.3) c.in_ok-visit_record.ensures.spelled)
    (subst (λ (e : Record). VisitsRecord id c.args.columns.now e (Ok flow) now then) (c.entry-entry.ensures took.0 took.3) (c.in_ok-visit_record.ensures.visits id))
    (c.in_ok-key_behind.ensures ∙ ap (λ (e : Record). e.0 ++ 0 ∷ []) (c.entry.view_is ∙ c.entry-entry.ensures took.0 took.3))
