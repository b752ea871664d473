use Rattle.std.proofs.Common.{◌∙◌, ℕ, List, Ok, ap, sym}
use Rattle.abstract_database.specs.Changes.{condition_on_row}
use Rattle.table_rows.specs.Targets.{users_of, sees, condition_in}
use Rattle.table_rows.specs.Choosing.{is_chosen, became, with_chosen, taking}
use Rattle.table_rows.proofs.Visiting.{took, no_memory, key_fits}
use Rattle.table_rows.proofs.choose.ChoosingRowVisitor.visit.Goals as goal

pub returns-in_err-take-clause-visits : goal.returns-in_err-take-clause-visits
returns-in_err-take-clause-visits c = λ id fits key.
    no_memory c.in_err-take.field-0.0 c.from_residual-in_err-take.result c.args.row.now _ _ (c.in_err-take.ensures.takes (key_fits id c.args.columns.now c.args.row.now c.args.key.now fits key)) c.from_residual-in_err-take.ensures.1

pub returns-clause-visits : goal.returns-clause-visits
returns-clause-visits c = λ id fits key.
    let choosing = c.args.self.now in
    let target = choosing.target.now in
    let layout = c.args.columns.now in
    let row = c.args.row.now in
    took (is_chosen (sees target) (condition_on_row (users_of target) (condition_in choosing.condition))) (became (users_of target) choosing.assignments) (taking id layout) choosing.chosen row
    c.in_ok-new.new c.take.new.self (sym c.in_ok-is_chosen.ensures ∙ ap (λ b. Ok b) c.if-not-branch.false) (c.in_ok-new.ensures.gives fits.columns.width)
    (c.in_ok-take.ensures.takes (key_fits id layout row c.args.key.now fits key) ∙ ap (λ (k : List ℕ). with_chosen k c.in_ok-new.new choosing.chosen) key)
