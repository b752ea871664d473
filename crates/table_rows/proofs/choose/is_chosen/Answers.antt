use Rattle.std.proofs.Common.{◌≡◌, ◌∙◌, Ok, Err, ap, sym, true}
use Rattle.abstract_database.specs.Changes.{condition_on_row}
use Rattle.expressions.specs.Rows.{value_on}
use Rattle.guards.specs.Guards.{guard_value}
use Rattle.guards.specs.Truths.{is_met}
use Rattle.table_rows.specs.Targets.{users_of, sees, condition_in}
use Rattle.table_rows.specs.Choosing.{is_chosen}
use Rattle.table_rows.proofs.MapReads.{ended}
use Rattle.table_rows.proofs.RowValues.{in_place}
use Rattle.table_rows.proofs.Visiting.{guard_failed, seen}
use Rattle.table_rows.proofs.choose.is_chosen.Goals as goal

pub returns-in_err-sees : goal.returns-in_err-sees
returns-in_err-sees c =
    let code = c.in_err-sees.field-0.0 in
    let met : is_met (sees c.args.target.now c.args.row.now) ≡ Err code =
    ap (λ cells. is_met (guard_value (users_of c.args.target.now) c.args.target.now.guard.now.existing cells)) (sym (in_place c.args.row.now)) ∙ sym c.in_err-sees.ensures in
    ended code (λ r. r ≡ is_chosen (sees c.args.target.now) (condition_on_row (users_of c.args.target.now) (condition_in c.args.condition)) c.args.row.now) c.from_residual.result c.from_residual.ensures.1
    (sym (guard_failed (sees c.args.target.now) (condition_on_row (users_of c.args.target.now) (condition_in c.args.condition)) c.args.row.now code met))

pub returns-in-Some : goal.returns-in-Some
returns-in-Some c =
    let met : is_met (sees c.args.target.now c.args.row.now) ≡ Ok true =
    ap (λ cells. is_met (guard_value (users_of c.args.target.now) c.args.target.now.guard.now.existing cells)) (sym (in_place c.args.row.now)) ∙ sym c.in_ok-sees.ensures ∙ ap (λ b. Ok b) c.if-not-branch.false in
    c.is_true.ensures
    ∙ ap (λ cells. is_met (value_on cells (users_of c.args.target.now) c.in-Some.condition.now)) (in_place c.args.row.now)
    ∙ sym (ap (λ typed. is_met (condition_on_row (users_of c.args.target.now) (condition_in typed) c.args.row.now)) c.in-Some.is)
    ∙ sym (seen (sees c.args.target.now) (condition_on_row (users_of c.args.target.now) (condition_in c.args.condition)) c.args.row.now met)
