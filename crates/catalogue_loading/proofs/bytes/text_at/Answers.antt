use Rattle.sql_types.specs.declared.value.Value.TheVariants.{Text}
use Rattle.catalogue_loading.proofs.Named.{lent_text}
use Rattle.catalogue_loading.proofs.bytes.text_at.Goals as goal

pub returns-in_err-text-clause-only : goal.returns-in_err-text-clause-only
returns-in_err-text-clause-only c text rest is spelled = absurd (c.in_err-text.ensures.only (Text text) rest is spelled)

pub returns-in-Text-default-clause-only : goal.returns-in-Text-default-clause-only
returns-in-Text-default-clause-only c text rest is spelled =
    let found = c.in_ok-text.ensures.only (Text text) rest is spelled in
    (lent_text c.in_ok-text.field-0.0 c.in-Text-default.text text c.in-Text-default.is-0 found.0, found.1)
