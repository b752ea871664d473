use Rattle.std.proofs.Common.{◌∙◌, ap}
use Rattle.std.proofs.lemmas.Result.{IfOk-weaker}
use Rattle.access_texts.specs.Told.{power_sections, printed}
use Rattle.access_texts.proofs.told.powers_text.Goals as goal

pub returns : goal.returns
returns c = IfOk-weaker c.print_powers.result _ _ (λ text told. record {
  powers = c.in_ok-powers.powers.items;
  found = c.in_ok-powers.ensures;
  told = told ∙ ap (λ ps. printed c.args.json (power_sections c.args.catalogue.now ps)) c.as_slice.ensures.value;
}) c.print_powers.ensures
