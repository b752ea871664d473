use Rattle.std.proofs.Common.{Result, sym, subst}
use Rattle.std.specs.Prelude.{IfErr}
use Rattle.sql_types.specs.declared.state.SqlState.{SqlState}
use Rattle.expressions.specs.Stages.{◌>>=◌, each}
use Rattle.abstract_database.specs.Changes.{Changed, choose, rows_updated, condition_on_row}
use Rattle.store.specs.declared.stop.StatementError.TheVariants.{Refused}
use Rattle.table_rows.specs.Failures.{IsDamagedFor}
use Rattle.table_rows.specs.Ranged.{FindsDamage}
use Rattle.table_rows.specs.Targets.{users_of, sees, admits, condition_in, assigned_by, terms_in}
use Rattle.table_rows.specs.NewRows.{MakesChanges}
use Rattle.table_rows.proofs.MapReads.{ended}
use Rattle.table_rows.proofs.Keeping.{assigned_keeps}
use Rattle.table_rows.proofs.Sets.{checked_choices, not_set, set_refused, set_done}
use Rattle.table_rows.proofs.Statements.{update_is}
use Rattle.table_rows.proofs.setting.update_in_place.Goals as goal

pub returns-in_err-set-clause-changes : goal.returns-in_err-set-clause-changes
returns-in_err-set-clause-changes g c = λ s rows checked is apart h i f l.
    let target = c.args.target.now in
    let layout = target.columns.now in
    let records = (g.M.Map.state c.args.records.now).map in
    let condition = condition_on_row (users_of target) (condition_in c.args.condition) in
    let into = assigned_by target c.args.assignments.now in
    let failure = c.in_err-set.field-0.0 in
    let go = checked_choices target.id layout (sees target) (admits target) condition into rows in
    subst (λ (m : Result Changed SqlState). MakesChanges target.id layout records c.from_residual.result m) (sym (update_is target c.args.condition c.args.assignments.now checked (sees target) (admits target) rows i))
    (ended failure (λ r. MakesChanges target.id layout records r (each (choose (sees target) condition into) rows >>= go)) c.from_residual.result c.from_residual.ensures.1
    (not_set target.id layout (sees target) (admits target) condition into rows records go failure (c.in_err-set.ensures.set s rows h l)))

pub returns-in_err-verdict-clause-changes : goal.returns-in_err-verdict-clause-changes
returns-in_err-verdict-clause-changes g c = λ s rows checked is apart h i f l.
    let target = c.args.target.now in
    let layout = target.columns.now in
    let records = (g.M.Map.state c.args.records.now).map in
    let condition = condition_on_row (users_of target) (condition_in c.args.condition) in
    let into = assigned_by target c.args.assignments.now in
    let code = c.in_err-verdict.field-0.0 in
    let whole = rows_updated (sees target) (admits target) (users_of target) checked rows in
    ended (Refused code) (λ r. MakesChanges target.id layout records r whole) c.from_residual-in_err-verdict.result c.from_residual-in_err-verdict.ensures.1
    (set_refused target.id layout (sees target) (admits target) condition into rows records c.in_ok-set.set whole code
    (update_is target c.args.condition c.args.assignments.now checked (sees target) (admits target) rows i) (c.in_ok-set.ensures.set s rows h l) (sym c.in_err-verdict.ensures))

pub returns-clause-changes : goal.returns-clause-changes
returns-clause-changes g c = λ s rows checked is apart h i f l.
    let target = c.args.target.now in
    let layout = target.columns.now in
    let assignments = c.args.assignments.now in
    let records = (g.M.Map.state c.args.records.now).map in
    let condition = condition_on_row (users_of target) (condition_in c.args.condition) in
    let into = assigned_by target assignments in
    let whole = rows_updated (sees target) (admits target) (users_of target) checked rows in
    set_done target.id layout (sees target) (admits target) condition into rows records c.in_ok-set.set whole c.in_ok-verdict.field-0 is (g.met.M.Map.ordered c.args.records.now s) h
    (λ row new made. assigned_keeps layout (users_of target) assignments.columns.now (terms_in assignments.values.now) row new apart made) f
    (update_is target c.args.condition assignments checked (sees target) (admits target) rows i) (c.in_ok-set.ensures.set s rows h l) (sym c.in_ok-verdict.ensures)

pub returns-in_err-set-clause-damage : goal.returns-in_err-set-clause-damage
returns-in_err-set-clause-damage g c = λ s.
    let cause = FindsDamage c.args.target.now (g.M.Map.state c.args.records.now).map in
    ended c.in_err-set.field-0.0 (λ r. IfErr r (IsDamagedFor cause)) c.from_residual.result c.from_residual.ensures.1
    (c.in_err-set.ensures.damage s)

pub returns-in_err-verdict-clause-damage : goal.returns-in_err-verdict-clause-damage
returns-in_err-verdict-clause-damage g c = λ s.
    let cause = FindsDamage c.args.target.now (g.M.Map.state c.args.records.now).map in
    ended (Refused c.in_err-verdict.field-0.0) (λ r. IfErr r (IsDamagedFor cause)) c.from_residual-in_err-verdict.result c.from_residual-in_err-verdict.ensures.1 tt
