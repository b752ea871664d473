use Rattle.std.proofs.Common.{◌∙◌, ap, map}
use Rattle.std.proofs.lemmas.Result.{IfOk-weaker}
use Rattle.section_texts.specs.Sections.{section_of}
use Rattle.access_texts.specs.Told.{printed}
use Rattle.access_texts.proofs.told.print_powers.Goals as goal

pub returns : goal.returns
returns c = IfOk-weaker c.print.result _ _ (λ text told. told ∙ ap (λ ss. printed c.args.json (map section_of ss)) c.as_slice.ensures.value ∙ ap (printed c.args.json) c.in_ok-sections.ensures) c.print.ensures
