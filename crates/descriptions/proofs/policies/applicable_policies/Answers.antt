use Rattle.std.proofs.Common.{◌∙◌, filter, ap}
use Rattle.policy_composer.specs.Formulas.{applies}
use Rattle.descriptions.proofs.Parts.{apply_there}
use Rattle.descriptions.proofs.policies.applicable_policies.Goals as goal

pub returns : goal.returns
returns c = λ db described among.
    c.in_ok-found.ensures
    ∙ ap (filter (applies c.args.roles.now c.args.action)) c.policies.ensures.policies
    ∙ apply_there c.args.catalogue.now c.args.table.now c.args.role.now c.args.roles.now c.requires db described among c.args.action
