use Rattle.std.proofs.Common.{Ok, None, Result, sym, subst, refl}
use Rattle.std.specs.Prelude.{IfErr}
use Rattle.sql_types.specs.declared.state.SqlState.{SqlState}
use Rattle.expressions.specs.Stages.{◌>>=◌, each}
use Rattle.abstract_database.specs.Changes.{Changed, choose, condition_on_row}
use Rattle.table_rows.specs.Failures.{IsDamagedFor}
use Rattle.table_rows.specs.Ranged.{FindsDamage}
use Rattle.table_rows.specs.Targets.{users_of, sees, condition_in}
use Rattle.table_rows.specs.Choosing.{became}
use Rattle.table_rows.specs.NewRows.{MakesChanges}
use Rattle.store.specs.declared.stop.StatementError.{StatementError}
use Rattle.table_rows.specs.declared.change.RowChanges.{RowChanges}
use Rattle.table_rows.proofs.MapReads.{ended}
use Rattle.table_rows.proofs.Statements.{delete_is, deleted, all_others, picked, not_chosen}
use Rattle.table_rows.proofs.change.delete.Goals as goal

pub returns-in_err-chosen-clause-changes : goal.returns-in_err-chosen-clause-changes
returns-in_err-chosen-clause-changes g c = λ s rows checked is h i l.
    let target = c.args.target.now in
    let records = (g.M.Map.state c.args.records.now).map in
    let condition = condition_on_row (users_of target) (condition_in c.args.condition) in
    subst (λ (m : Result Changed SqlState). MakesChanges target.id target.columns.now records c.from_residual.result m) (sym (delete_is target c.args.condition checked (sees target) rows i))
    (ended c.in_err-chosen.field-0.0 (λ r. MakesChanges target.id target.columns.now records r (each (choose (sees target) condition (λ row. Ok row)) rows >>= all_others)) c.from_residual.result c.from_residual.ensures.1
    (not_chosen target.id target.columns.now (λ x. None) (sees target) condition (λ row. Ok row) (became (users_of target) None) (λ row. refl) rows records all_others c.in_err-chosen.field-0.0 (c.in_err-chosen.ensures.chosen s rows h l)))

pub returns-clause-changes : goal.returns-clause-changes
returns-clause-changes g c = λ s rows checked is h i l.
    let target = c.args.target.now in
    let records = (g.M.Map.state c.args.records.now).map in
    let condition = condition_on_row (users_of target) (condition_in c.args.condition) in
    let chosen = c.in_ok-chosen.chosen in
    let p = picked target.id target.columns.now (λ x. None) (sees target) condition (λ row. Ok row) (became (users_of target) None) (λ row. refl) rows records chosen (g.met.M.Map.ordered c.args.records.now s) h (c.in_ok-chosen.ensures.chosen s rows h l) in
    let made : Result RowChanges StatementError = Ok (record { changes = chosen.changes; count = chosen.count }) in
    subst (λ (m : Result Changed SqlState). MakesChanges target.id target.columns.now records made m) (sym (delete_is target c.args.condition checked (sees target) rows i))
    (deleted target.id target.columns.now (sees target) condition rows records chosen p)

pub returns-in_err-chosen-clause-damage : goal.returns-in_err-chosen-clause-damage
returns-in_err-chosen-clause-damage g c = λ s.
    let cause = FindsDamage c.args.target.now (g.M.Map.state c.args.records.now).map in
    ended c.in_err-chosen.field-0.0 (λ r. IfErr r (IsDamagedFor cause)) c.from_residual.result c.from_residual.ensures.1
    (c.in_err-chosen.ensures.damage s)
