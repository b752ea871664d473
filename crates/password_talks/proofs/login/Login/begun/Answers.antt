use Rattle.std.proofs.Common.{◌∙◌}
use Rattle.password_talks.proofs.Steps.{begun_so}
use Rattle.password_talks.proofs.login.Login.begun.Goals as goal

pub returns : goal.returns
returns c =
    begun_so c.begin.result c.args.mock.now _ c.args.role.now _ c.args.first.now _ c.args.stored c.args.self.now.drawn
    (c.as_bytes-role.ensures.value ∙ c.as_str.ensures) c.as_slice.ensures c.lent_text-stored.ensures c.begin.ensures
