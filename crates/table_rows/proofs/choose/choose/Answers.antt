use Rattle.std.proofs.Common.{◌≡◌, ◌≤◌, ◌∙◌, Err, Ok, ap, arith, length, refl, subst, sym, Result}
use Rattle.std.specs.Prelude.{IfErr}
use Rattle.sql_types.specs.declared.state.SqlState.{SqlState}
use Rattle.abstract_database.specs.Changes.{condition_on_row}
use Rattle.stored_database.specs.RecordFormat.{row_record}
use Rattle.store.specs.declared.stop.StatementError.{StatementError}
use Rattle.table_rows.specs.declared.choose.ChosenRows.{ChosenRows}
use Rattle.table_rows.specs.Failures.{Answers, IsDamagedFor}
use Rattle.table_rows.specs.Targets.{users_of, sees, condition_in}
use Rattle.table_rows.specs.Choosing.{is_chosen, became, taking, all_chosen, nothing_chosen}
use Rattle.table_rows.specs.Ranged.{records_of, rows_of, FindsDamage}
use Rattle.table_rows.proofs.MapReads.{ended}
use Rattle.table_rows.proofs.Spelled.{rows_spelled}
use Rattle.table_rows.proofs.Chosen.{chosen_concern, chosen_few}
use Rattle.table_rows.proofs.Statements.{length_map}
use Rattle.table_rows.proofs.Ranging.{finds, found_prefixed, all_of_target}
use Rattle.table_rows.proofs.Visiting.{walk_failed, walk_damaged}
use Rattle.table_rows.proofs.choose.choose.Goals as goal

pub returns-in_err-visit_target-clause-chosen : goal.returns-in_err-visit_target-clause-chosen
returns-in_err-visit_target-clause-chosen g c = λ s rows h l.
    let target = c.args.target.now in
    let test = is_chosen (sees target) (condition_on_row (users_of target) (condition_in c.args.condition)) in
    let becomes = became (users_of target) c.args.assignments in
    let failure = c.in_err-visit_target.field-0.0 in
    let found = finds target (g.M.Map.state c.args.records.now).map rows (g.met.M.Map.ordered c.args.records.now s) l.of_table h in
    let v = c.in_err-visit_target.ensures.visits s (rows_of target rows) found in
    ended failure (λ r. Answers r (all_chosen test becomes target.id target.columns.now nothing_chosen rows)) c.from_residual.result c.from_residual.ensures.1
    (subst (λ (m : Result ChosenRows SqlState). let r : Result ChosenRows StatementError = Err failure in Answers r m) (all_of_target becomes (taking target.id target.columns.now) rows nothing_chosen target c.args.condition l h.fit)
    (subst (λ (d : ChosenRows). let r : Result ChosenRows StatementError = Err failure in Answers r (all_chosen test becomes target.id target.columns.now d (rows_of target rows))) c.new-chosen.ensures
    (walk_failed failure (rows_of target rows) _ _ v)))

pub returns-clause-chosen : goal.returns-clause-chosen
returns-clause-chosen g c = λ s rows h l.
    let target = c.args.target.now in
    let test = is_chosen (sees target) (condition_on_row (users_of target) (condition_in c.args.condition)) in
    let becomes = became (users_of target) c.args.assignments in
    let found = finds target (g.M.Map.state c.args.records.now).map rows (g.met.M.Map.ordered c.args.records.now s) l.of_table h in
    let v = c.in_ok-visit_target.ensures.visits s (rows_of target rows) found in
    sym (all_of_target becomes (taking target.id target.columns.now) rows nothing_chosen target c.args.condition l h.fit)
    ∙ subst (λ (d : ChosenRows). all_chosen test becomes target.id target.columns.now d (rows_of target rows) ≡ Ok c.visit_target.new.visitor.chosen) c.new-chosen.ensures v

pub returns-clause-concern : goal.returns-clause-concern
returns-clause-concern g c = λ s of.
    let target = c.args.target.now in
    let records = (g.M.Map.state c.args.records.now).map in
    let prefixed = found_prefixed target.id target.range records (g.met.M.Map.ordered c.args.records.now s) of in
    let held = rows_spelled target.id target.columns.now (records_of target records) prefixed (c.in_ok-visit_target.ensures.spelled s refl) in
    let test = is_chosen (sees target) (condition_on_row (users_of target) (condition_in c.args.condition)) in
    let becomes = became (users_of target) c.args.assignments in
    let v = c.in_ok-visit_target.ensures.visits s held.0 held.1 in
    chosen_concern test becomes target.id target.columns.now held.0 nothing_chosen c.visit_target.new.visitor.chosen tt
    (subst (λ (d : ChosenRows). all_chosen test becomes target.id target.columns.now d held.0 ≡ Ok c.visit_target.new.visitor.chosen) c.new-chosen.ensures v)

pub returns-in_err-visit_target-clause-damage : goal.returns-in_err-visit_target-clause-damage
returns-in_err-visit_target-clause-damage g c = λ s.
    let target = c.args.target.now in
    let records = (g.M.Map.state c.args.records.now).map in
    let failure = c.in_err-visit_target.field-0.0 in
    ended failure (λ r. IfErr r (IsDamagedFor (FindsDamage target records))) c.from_residual.result c.from_residual.ensures.1
    (walk_damaged failure target records _ _ (c.in_err-visit_target.ensures.visits s))

pub returns-clause-spelled : goal.returns-clause-spelled
returns-clause-spelled g c = λ s. c.in_ok-visit_target.ensures.spelled s refl

pub returns-clause-few : goal.returns-clause-few
returns-clause-few g c = λ s of.
    let target = c.args.target.now in
    let records = (g.M.Map.state c.args.records.now).map in
    let prefixed = found_prefixed target.id target.range records (g.met.M.Map.ordered c.args.records.now s) of in
    let held = rows_spelled target.id target.columns.now (records_of target records) prefixed (c.in_ok-visit_target.ensures.spelled s refl) in
    let test = is_chosen (sees target) (condition_on_row (users_of target) (condition_in c.args.condition)) in
    let becomes = became (users_of target) c.args.assignments in
    let v = c.in_ok-visit_target.ensures.visits s held.0 held.1 in
    let few = chosen_few test becomes target.id target.columns.now held.0 nothing_chosen c.visit_target.new.visitor.chosen
    (subst (λ (d : ChosenRows). all_chosen test becomes target.id target.columns.now d held.0 ≡ Ok c.visit_target.new.visitor.chosen) c.new-chosen.ensures v) in
    let long = ap length held.1.are ∙ length_map (row_record target.id target.columns.now) held.0 in
    omega (arith, few, long)
