use Rattle.std.proofs.Common.{◌∙◌, ℕ, List, Ok, ap, sym}
use Rattle.abstract_database.specs.Changes.{condition_on_row}
use Rattle.table_rows.specs.Targets.{users_of, sees, admits, condition_in, assigned_by}
use Rattle.table_rows.specs.Choosing.{is_chosen}
use Rattle.table_rows.specs.Setting.{with_set, setting}
use Rattle.table_rows.proofs.Visiting.{took, no_memory, key_fits}
use Rattle.table_rows.proofs.setting.SettingRowVisitor.visit.Goals as goal

pub returns-in_err-take-clause-visits : goal.returns-in_err-take-clause-visits
returns-in_err-take-clause-visits c = λ id fits key.
    no_memory c.in_err-take.field-0.0 c.from_residual-in_err-take.result c.args.row.now _ _ (c.in_err-take.ensures.sets (key_fits id c.args.columns.now c.args.row.now c.args.key.now fits key)) c.from_residual-in_err-take.ensures.1

pub returns-clause-visits : goal.returns-clause-visits
returns-clause-visits c = λ id fits key.
    let s = c.args.self.now in
    let target = s.target.now in
    let layout = c.args.columns.now in
    let row = c.args.row.now in
    let guard = admits target in
    took (is_chosen (sees target) (condition_on_row (users_of target) (condition_in s.condition))) (assigned_by target s.assignments.now) (setting id layout guard) s.set row
    c.in_ok-new.new c.take.new.self (sym c.in_ok-is_chosen.ensures ∙ ap (λ b. Ok b) c.if-not-branch.false) (c.in_ok-new.ensures.gives fits.columns.width)
    (c.in_ok-take.ensures.sets (key_fits id layout row c.args.key.now fits key)
    ∙ ap (λ (k : List ℕ). with_set k layout guard c.in_ok-new.new s.set) key)
