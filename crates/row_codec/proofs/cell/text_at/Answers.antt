use Rattle.std.proofs.Common.{sym, ◌∙◌, subst}
use Rattle.sql_types.specs.Domain.{IsText}
use Rattle.row_codec.proofs.cell.text_at.Goals as goal

pub returns-in_err-text-clause-only : goal.returns-in_err-text-clause-only
returns-in_err-text-clause-only c text rest is short spelled =
    let same = c.in_ok-front.ensures.only text rest short spelled in
    absurd (c.in_err-text.ensures (subst IsText (sym same.0) is))

pub returns-clause-only : goal.returns-clause-only
returns-clause-only c text rest is short spelled =
    let same = c.in_ok-front.ensures.only text rest short spelled in
    (c.in_ok-text.ensures.1 ∙ same.0, same.1)
