use Rattle.std.proofs.Common.{◌≡◌, ◌∙◌, Err, Ok, refl, subst, sym, Result}
use Rattle.std.specs.Prelude.{IfErr}
use Rattle.sql_types.specs.declared.state.SqlState.{SqlState}
use Rattle.abstract_database.specs.Changes.{condition_on_row}
use Rattle.store.specs.declared.stop.StatementError.{StatementError}
use Rattle.table_rows.specs.declared.setting.SetRows.{SetRows}
use Rattle.table_rows.specs.Failures.{Answers, IsDamagedFor}
use Rattle.table_rows.specs.Targets.{users_of, sees, admits, condition_in, assigned_by}
use Rattle.table_rows.specs.Choosing.{is_chosen, over_chosen}
use Rattle.table_rows.specs.Setting.{nothing_set, setting}
use Rattle.table_rows.specs.Ranged.{records_of, rows_of, FindsDamage}
use Rattle.table_rows.proofs.MapReads.{ended}
use Rattle.table_rows.proofs.Spelled.{rows_spelled}
use Rattle.table_rows.proofs.Sets.{sets_concern}
use Rattle.table_rows.proofs.Ranging.{finds, found_prefixed, all_of_target}
use Rattle.table_rows.proofs.Visiting.{walk_failed, walk_damaged}
use Rattle.table_rows.proofs.setting.set_rows.Goals as goal

pub returns-in_err-visit_target-clause-set : goal.returns-in_err-visit_target-clause-set
returns-in_err-visit_target-clause-set g c = λ s rows h l.
    let target = c.args.target.now in
    let test = is_chosen (sees target) (condition_on_row (users_of target) (condition_in c.args.condition)) in
    let into = assigned_by target c.args.assignments.now in
    let take = setting target.id target.columns.now (admits target) in
    let failure = c.in_err-visit_target.field-0.0 in
    let found = finds target (g.M.Map.state c.args.records.now).map rows (g.met.M.Map.ordered c.args.records.now s) l.of_table h in
    let v = c.in_err-visit_target.ensures.visits s (rows_of target rows) found in
    ended failure (λ r. Answers r (over_chosen test into take nothing_set rows)) c.from_residual.result c.from_residual.ensures.1
    (subst (λ (m : Result SetRows SqlState). let r : Result SetRows StatementError = Err failure in Answers r m) (all_of_target into take rows nothing_set target c.args.condition l h.fit)
    (subst (λ (d : SetRows). let r : Result SetRows StatementError = Err failure in Answers r (over_chosen test into take d (rows_of target rows))) c.new-set.ensures
    (walk_failed failure (rows_of target rows) _ _ v)))

pub returns-clause-set : goal.returns-clause-set
returns-clause-set g c = λ s rows h l.
    let target = c.args.target.now in
    let test = is_chosen (sees target) (condition_on_row (users_of target) (condition_in c.args.condition)) in
    let into = assigned_by target c.args.assignments.now in
    let take = setting target.id target.columns.now (admits target) in
    let found = finds target (g.M.Map.state c.args.records.now).map rows (g.met.M.Map.ordered c.args.records.now s) l.of_table h in
    let v = c.in_ok-visit_target.ensures.visits s (rows_of target rows) found in
    sym (all_of_target into take rows nothing_set target c.args.condition l h.fit)
    ∙ subst (λ (d : SetRows). over_chosen test into take d (rows_of target rows) ≡ Ok c.visit_target.new.visitor.set) c.new-set.ensures v

pub returns-clause-concern : goal.returns-clause-concern
returns-clause-concern g c = λ s of.
    let target = c.args.target.now in
    let records = (g.M.Map.state c.args.records.now).map in
    let prefixed = found_prefixed target.id target.range records (g.met.M.Map.ordered c.args.records.now s) of in
    let held = rows_spelled target.id target.columns.now (records_of target records) prefixed (c.in_ok-visit_target.ensures.spelled s refl) in
    let condition = condition_on_row (users_of target) (condition_in c.args.condition) in
    let into = assigned_by target c.args.assignments.now in
    let v = c.in_ok-visit_target.ensures.visits s held.0 held.1 in
    sets_concern target.id target.columns.now (sees target) (admits target) condition into held.0 c.visit_target.new.visitor.set
    (subst (λ (d : SetRows). over_chosen (is_chosen (sees target) condition) into (setting target.id target.columns.now (admits target)) d held.0 ≡ Ok c.visit_target.new.visitor.set) c.new-set.ensures v)

pub returns-in_err-visit_target-clause-damage : goal.returns-in_err-visit_target-clause-damage
returns-in_err-visit_target-clause-damage g c = λ s.
    let target = c.args.target.now in
    let records = (g.M.Map.state c.args.records.now).map in
    let failure = c.in_err-visit_target.field-0.0 in
    ended failure (λ r. IfErr r (IsDamagedFor (FindsDamage target records))) c.from_residual.result c.from_residual.ensures.1
    (walk_damaged failure target records _ _ (c.in_err-visit_target.ensures.visits s))

pub returns-clause-spelled : goal.returns-clause-spelled
returns-clause-spelled g c = λ s. c.in_ok-visit_target.ensures.spelled s refl
