use Rattle.std.proofs.Common.{sym, ◌∙◌, subst}
use Rattle.std.specs.Str.{IsUtf8}
use Rattle.catalogue_loading.proofs.clauses.counted_text_at.Goals as goal

pub returns-in_err-text-clause-only : goal.returns-in_err-text-clause-only
returns-in_err-text-clause-only c text rest is short spelled =
    let same = c.in_ok-front.ensures.only text rest short spelled in
    absurd (c.in_err-text.ensures (subst IsUtf8 (sym same.0) is))

pub returns-clause-only : goal.returns-clause-only
returns-clause-only c text rest is short spelled =
    let same = c.in_ok-front.ensures.only text rest short spelled in
    (c.in_ok-text.ensures.1 ∙ same.0, same.1)
