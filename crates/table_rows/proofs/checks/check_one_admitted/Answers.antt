use Rattle.std.proofs.Common.{◌∙◌, ap, sym}
use Rattle.guards.specs.Guards.{guard_value}
use Rattle.guards.specs.Truths.{is_met}
use Rattle.table_rows.specs.Targets.{users_of, admits}
use Rattle.table_rows.specs.Setting.{admitted_if}
use Rattle.table_rows.proofs.RowValues.{in_place}
use Rattle.table_rows.proofs.Checking.{admitted_is}
use Rattle.table_rows.proofs.checks.check_one_admitted.Goals as goal

pub returns : goal.returns
returns c =
    let target = c.args.target.now in
    let row = c.args.row.now in
    c.required.ensures
    ∙ ap admitted_if
    (c.admits.ensures ∙ ap (λ cells. is_met (guard_value (users_of target) target.guard.now.new cells)) (in_place row))
    ∙ sym (admitted_is (admits target row))
