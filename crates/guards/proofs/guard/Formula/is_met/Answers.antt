use Rattle.std.proofs.Common.{◌∙◌, sym, ap, rules, Ok}
use Rattle.expressions.specs.Rows.{names_of}
use Rattle.guards.proofs.Truths.{no_permission, no_restriction, formula_decides}
use Rattle.guards.proofs.guard.Formula.is_met.Goals as goal

pub returns-in_err-permitted : goal.returns-in_err-permitted
returns-in_err-permitted g c =
    let m = no_permission (g.R.RowView.cell c.args.row.now) (names_of c.args.users.now) c.args.self.now _ (rw c.as_slice.ensures at c.in_err-permitted.ensures) in
    search rules

pub returns-in_err-met : goal.returns-in_err-met
returns-in_err-met g c =
    let m = no_restriction (g.R.RowView.cell c.args.row.now) (names_of c.args.users.now) c.args.self.now c.in_ok-permitted.permitted _
    (rw c.as_slice.ensures at c.in_ok-permitted.ensures) (rw c.as_slice-2.ensures at c.in_err-met.ensures) in
    search rules

pub returns : goal.returns
returns g c =
    ap (λ b. Ok b) c.is_true.ensures
    ∙ sym (formula_decides (g.R.RowView.cell c.args.row.now) (names_of c.args.users.now) c.args.self.now c.in_ok-permitted.permitted c.in_ok-met.met
    (rw c.as_slice.ensures at c.in_ok-permitted.ensures) (rw c.as_slice-2.ensures at c.in_ok-met.ensures))
