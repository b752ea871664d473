use Rattle.std.proofs.Common.{◌∙◌, ◌+◌, ℕ, Ok, Err, ap, arith, length, subst}
use Rattle.store.specs.Records.{Record, entries_where, is_from}
use Rattle.store.specs.Walks.{span}
use Rattle.store.proofs.Changes.{ordered_entries_where}
use Rattle.store.proofs.Reading.{reads_joined}
use Rattle.table_rows.specs.HeldRows.{SpellsRow}
use Rattle.table_rows.specs.Visits.{VisitsRecord, SpellsVisited}
use Rattle.table_rows.specs.Walked.{WalksOn}
use Rattle.table_rows.proofs.Fronts.{taken, none_taken, walking_first, walking_on, visited_on, ended_on, done_on, failed_on, done_only}
use Rattle.table_rows.proofs.MapReads.{ended}
use Rattle.table_rows.proofs.visit.visit_rows.Goals as goal

pub loop-init : goal.loop-init
loop-init g c =
    let goes = c.in_ok-place.ensures.goes in
    let records = (g.M.Map.state c.args.records.now).map in
    let from = is_from c.args.start.now in
    record {
      preserved = c.in_ok-place.ensures.preserved;
      reads = goes.only_reads;
      works = goes.failed;
      remains = λ s. (span c.args.start.now c.args.stop.now records, g.met.M.Map.ahead_cut _ c.args.stop.now _ (entries_where from records) (ordered_entries_where from records (g.met.M.Map.ordered c.args.records.now s)) (goes.answer s), λ id. walking_first id c.args.columns.now (span c.args.start.now c.args.stop.now records) (g.V.RowVisitor.after c.args.visitor.now id c.args.columns.now), 1, c.in_ok-place.ensures.cost, omega arith);
    }

pub returns-in_err-step_within-clause-preserved : goal.returns-in_err-step_within-clause-preserved
returns-in_err-step_within-clause-preserved g c = g.M.Map.preserved_joined c.args.records.now c.loop.records c.step_within.new.self c.loop.invariant.preserved c.in_err-step_within.ensures.preserved

pub returns-then-not-branch-clause-preserved : goal.returns-then-not-branch-clause-preserved
returns-then-not-branch-clause-preserved g c = g.M.Map.preserved_joined c.args.records.now c.loop.records c.step_within.new.self c.loop.invariant.preserved c.in_ok-step_within.ensures.preserved

pub returns-in_err-visit_record-clause-preserved : goal.returns-in_err-visit_record-clause-preserved
returns-in_err-visit_record-clause-preserved g c = g.M.Map.preserved_joined c.args.records.now c.loop.records c.step_within.new.self c.loop.invariant.preserved c.in_ok-step_within.ensures.preserved

pub returns-in-Done-clause-preserved : goal.returns-in-Done-clause-preserved
returns-in-Done-clause-preserved g c = g.M.Map.preserved_joined c.args.records.now c.loop.records c.step_within.new.self c.loop.invariant.preserved c.in_ok-step_within.ensures.preserved

pub loop-preserved : goal.loop-preserved
loop-preserved g c = record {
  preserved = g.M.Map.preserved_joined c.args.records.now c.loop.records c.step_within.new.self c.loop.invariant.preserved c.in_ok-step_within.ensures.preserved;
  reads = reads_joined (g.M.Map.state c.args.records.now) (g.M.Map.state c.loop.records) (g.M.Map.state c.step_within.new.self) c.loop.invariant.reads c.in_ok-step_within.ensures.goes.only_reads;
  works = c.in_ok-step_within.ensures.goes.failed ∙ c.loop.invariant.works;
  remains = λ s.
      let left = c.loop.invariant.remains s in
      let took = taken _ _ c.in_ok-step_within.field-0 left.0 c.if-not-branch.false (c.in_ok-step_within.ensures.goes.answer (c.loop.invariant.reads.history.sound s) left.0 left.1) in
      let now = λ (id : ℕ). g.V.RowVisitor.after c.loop.visitor id c.args.columns.now in
      let then = λ (id : ℕ). g.V.RowVisitor.after c.visit_record.new.visitor id c.args.columns.now in
      let flow = c.in_ok-visit_record.field-0 in (
        took.1,
        took.4,
        λ id. walking_on id c.args.columns.now _ left.0 took.1 took.0 _ (now id) (then id) (left.2 id) took.2
            (subst (SpellsRow c.args.columns.now) (c.entry-entry.ensures took.0 took.3) c.in_ok-visit_record.ensures.spelled)
            (visited_on id c.args.columns.now flow took.0 (now id) (then id) c.in-Continue.is
            (subst (λ (e : Record). VisitsRecord id c.args.columns.now e (Ok flow) (now id) (then id)) (c.entry-entry.ensures took.0 took.3) (c.in_ok-visit_record.ensures.visits id))),
        left.3 + 1,
        g.M.Map.cost_joined c.args.records.now c.loop.records c.step_within.new.self left.3 1 left.4 c.in_ok-step_within.ensures.cost,
        (let long = ap length took.2 in omega (arith, left.5, long)),
      );
}

pub returns-then-not-branch-clause-walked : goal.returns-then-not-branch-clause-walked
returns-then-not-branch-clause-walked g c = λ s id.
    let left = c.loop.invariant.remains s in
    ended_on id c.args.columns.now _ left.0 _ _ (left.2 id) (none_taken _ _ c.in_ok-step_within.field-0 left.0 c.if-not-branch.true (c.in_ok-step_within.ensures.goes.answer (c.loop.invariant.reads.history.sound s) left.0 left.1))

pub returns-in_err-visit_record-clause-walked : goal.returns-in_err-visit_record-clause-walked
returns-in_err-visit_record-clause-walked g c = λ s id.
    let left = c.loop.invariant.remains s in
    let took = taken _ _ c.in_ok-step_within.field-0 left.0 c.if-not-branch.false (c.in_ok-step_within.ensures.goes.answer (c.loop.invariant.reads.history.sound s) left.0 left.1) in
    let old = g.V.RowVisitor.after c.args.visitor.now id c.args.columns.now in
    let now = g.V.RowVisitor.after c.loop.visitor id c.args.columns.now in
    let last = g.V.RowVisitor.after c.visit_record.new.visitor id c.args.columns.now in
    let found = span c.args.start.now c.args.stop.now (g.M.Map.state c.args.records.now).map in
    let failure = c.in_err-visit_record.field-0.0 in
    ended failure (λ r. WalksOn id c.args.columns.now found old last r) c.from_residual-in_err-visit_record.result c.from_residual-in_err-visit_record.ensures.1
    (failed_on id c.args.columns.now found left.0 took.1 took.0 old now last failure (left.2 id) took.2
    (subst (λ (e : Record). SpellsVisited c.args.columns.now e (Err failure)) (c.entry-entry.ensures took.0 took.3) c.in_err-visit_record.ensures.spelled)
    (subst (λ (e : Record). VisitsRecord id c.args.columns.now e (Err failure) now last) (c.entry-entry.ensures took.0 took.3) (c.in_err-visit_record.ensures.visits id)))

pub returns-in-Done-clause-walked : goal.returns-in-Done-clause-walked
returns-in-Done-clause-walked g c = λ s id.
    let left = c.loop.invariant.remains s in
    let took = taken _ _ c.in_ok-step_within.field-0 left.0 c.if-not-branch.false (c.in_ok-step_within.ensures.goes.answer (c.loop.invariant.reads.history.sound s) left.0 left.1) in
    let now = g.V.RowVisitor.after c.loop.visitor id c.args.columns.now in
    let then = g.V.RowVisitor.after c.visit_record.new.visitor id c.args.columns.now in
    let flow = c.in_ok-visit_record.field-0 in
    done_on id c.args.columns.now _ left.0 took.1 took.0 _ now then flow (left.2 id) took.2
    (subst (SpellsRow c.args.columns.now) (c.entry-entry.ensures took.0 took.3) c.in_ok-visit_record.ensures.spelled)
    c.in-Done.is
    (subst (λ (e : Record). VisitsRecord id c.args.columns.now e (Ok flow) now then) (c.entry-entry.ensures took.0 took.3) (c.in_ok-visit_record.ensures.visits id))

pub returns-in-Done-clause-ends : goal.returns-in-Done-clause-ends
returns-in-Done-clause-ends g c = done_only g.V.RowVisitor.ends_early c.in_ok-visit_record.field-0 c.in-Done.is c.in_ok-visit_record.ensures.ends

pub returns-in_err-step_within-clause-cost : goal.returns-in_err-step_within-clause-cost
returns-in_err-step_within-clause-cost g c = λ s.
    let left = c.loop.invariant.remains s in
    g.M.Map.cost_within c.args.records.now c.step_within.new.self (left.3 + 1) _ (omega (arith, left.5)) (g.M.Map.cost_joined c.args.records.now c.loop.records c.step_within.new.self left.3 1 left.4 c.in_err-step_within.ensures.cost)

pub returns-then-not-branch-clause-cost : goal.returns-then-not-branch-clause-cost
returns-then-not-branch-clause-cost g c = λ s.
    let left = c.loop.invariant.remains s in
    g.M.Map.cost_within c.args.records.now c.step_within.new.self (left.3 + 1) _ (omega (arith, left.5)) (g.M.Map.cost_joined c.args.records.now c.loop.records c.step_within.new.self left.3 1 left.4 c.in_ok-step_within.ensures.cost)

pub returns-in_err-visit_record-clause-cost : goal.returns-in_err-visit_record-clause-cost
returns-in_err-visit_record-clause-cost g c = λ s.
    let left = c.loop.invariant.remains s in
    g.M.Map.cost_within c.args.records.now c.step_within.new.self (left.3 + 1) _ (omega (arith, left.5)) (g.M.Map.cost_joined c.args.records.now c.loop.records c.step_within.new.self left.3 1 left.4 c.in_ok-step_within.ensures.cost)

pub returns-in-Done-clause-cost : goal.returns-in-Done-clause-cost
returns-in-Done-clause-cost g c = λ s.
    let left = c.loop.invariant.remains s in
    g.M.Map.cost_within c.args.records.now c.step_within.new.self (left.3 + 1) _ (omega (arith, left.5)) (g.M.Map.cost_joined c.args.records.now c.loop.records c.step_within.new.self left.3 1 left.4 c.in_ok-step_within.ensures.cost)

pub returns-in_err-place-clause-cost : goal.returns-in_err-place-clause-cost
returns-in_err-place-clause-cost g c = λ s. g.M.Map.cost_within c.args.records.now c.seek.new.self 1 _ (omega arith) c.in_err-place.ensures.cost

pub returns-clause-cost : goal.returns-clause-cost
returns-clause-cost g c = λ s.
    let left = c.loop.invariant.remains s in
    g.M.Map.cost_within c.args.records.now c.loop.records left.3 _ (omega (arith, left.5)) left.4
